-- THE BEST WALK OF THE GRAPHS OF A COST IS THE WANTED ORDER. The idea: the plan is least among the walks, the enumeration is least among
-- what the counted sets give, and the graphs' walks are exactly that; only one cell is least.
use mathlib.Core.Path.{◌≡◌, refl, sym, ap, subst, ◌∙◌}
use mathlib.Core.Bool.{Bool, true}
use mathlib.Core.List.{List, ◌∷◌}
use Prim.Native.Nat.{ℕ, suc, ◌-◌, ◌^◌, ◌<◌}
use native.Mathlib.Nat.{add-zero}
use native.Mathlib.Omega.{arith}
use lib.ListN.{length}
use lib.Pow.{pow_pos}
use lib.Seq.{ext_get_or}
use Rattle.walks.specs.Best.{at, step, best, plan, Least}
use Rattle.walks.specs.Places.{stops_to, cost_to, Admits, Preferred, by-cost, by-stops, alike}
use Rattle.walks.specs.Prefer.{AtMost, less, same, cheaper, smaller}
use Rattle.walks.specs.Rows.{told}
use Rattle.walks.specs.Walk.{Graph, Walk}
use Rattle.walks.proofs.Best.{least_iff, least-unique, scan-least, step-least, best-least, Below, Stepped, stepped, stepped-lex}
use Rattle.walks.proofs.Places.{order-walk, walk-order, earlier-lex}
use Rattle.walks.proofs.Walk.{walk-length}
use Rattle.tree.specs.Neighbour.{in_place}
use Rattle.tree.specs.Order.{order_of}
use Rattle.tree.specs.Wanted.{backward}
use Rattle.tree.proofs.Link.{length-order_of}
use Rattle.tree.proofs.Backward.{backward-same}
use Rattle.tree.specs.Wanted.{found, wanted, Settled, Shortest}
use Rattle.tree.specs.Draws.{plans, last_of, Draws}
use Rattle.tree.proofs.Backward.{turned, length-turned, stops-turned}
use Rattle.tree.proofs.Wanted.{Given, found-least, found-wanted, length-wanted, least-shortest}

-- a whole walk of n moves, in the graph of its last stop: it costs c, and its stops are l, the last first
pub data Ends (G : ℕ → Graph) (N n : ℕ) : ℕ → List ℕ → Type 0 where
  ends : {e c : ℕ} {l : List ℕ} → e < N → Walk (G e) n e c l → Ends G N n c (e ∷ l)

-- the plans are least among those
pub plans-least : (G : ℕ → Graph) (N n : ℕ) → Least (Ends G N n) (plans G N n)
unfolding plans
plans-least G N n = least_iff (plans G N n) to from
    (scan-least {P = P} (λ e. step true 0 (◌∷◌ e) (best (G e) n e)) (λ j k c d l m h p q. stepped-lex h p q)
    (λ e. step-least (Walk (G e) n e) true e 0 (best (G e) n e) (best-least (G e) n e)) N)
  where
    P : ℕ → ℕ → List ℕ → Type 0
    P e = Stepped true e 0 (Walk (G e) n e)

    to : (c : ℕ) (l : List ℕ) → Below P N c l → Ends G N n c l
    to c l p = go p.0 c l p.1 p.2
      where
        go : (e d : ℕ) (m : List ℕ) → e < N → P e d m → Ends G N n d m
        go e d m b (stepped x v) = rw add-zero (ends b v)

    from : (c : ℕ) (l : List ℕ) → Ends G N n c l → Below P N c l
    from c l (ends {e = e} {l = m} b v) = (e, b, subst (λ d. P e d (e ∷ m)) (add-zero c) (stepped refl v))

-- with one graph for all last stops they are its plan
pub plans-one : (G : Graph) (n : ℕ) → plans (λ e. G) G.bound n ≡ plan G n
unfolding plans plan
plans-one G n = refl

-- the last place and those before it are all
places : (k : ℕ) → suc (2 ^ k - 1) ≡ 2 ^ k
places k = omega (arith, pow_pos k)

-- an order read back begins with its last stop
pub backward-last : (k : ℕ) (o : List ℕ) → length o ≡ 2 ^ k → backward o ≡ last_of k o ∷ stops_to (in_place o) (2 ^ k - 1)
unfolding stops_to
backward-last k o e = ap (stops_to (in_place o)) (e ∙ sym (places k))

module _ (k : ℕ) (cost : List ℕ → ℕ) (ok : ℕ → Bool) (G : ℕ → Graph) (d : Draws k cost ok G) where
  -- what a counted set gives is a walk
  given-ends : (c : ℕ) (l : List ℕ) → Given k cost ok c l → Ends G (2 ^ k) (2 ^ k - 1) c l
  given-ends c l g = subst (Ends G (2 ^ k) n c) (sym (backward-last k o (length-order_of k g.forks)) ∙ g.reads) (ends inside walk)
    where
      n : ℕ
      n = 2 ^ k - 1

      o : List ℕ
      o = order_of k g.forks

      a : Admits (G (last_of k o)) n (in_place o)
      a = d.admits g.forks g.counted

      inside : last_of k o < 2 ^ k
      inside = rw (d.bound (last_of k o)) at (a.stops n (omega arith))

      walk : Walk (G (last_of k o)) n (last_of k o) c (stops_to (in_place o) n)
      walk = subst (λ x. Walk (G (last_of k o)) n (last_of k o) x (stops_to (in_place o) n)) (d.weighs g.forks g.counted ∙ g.costs)
          (order-walk (G (last_of k o)) n (in_place o) a)

  -- a walk is what a counted set gives
  ends-given : (c : ℕ) (l : List ℕ) → Ends G (2 ^ k) (2 ^ k - 1) c l → Given k cost ok c l
  unfolding stops_to
  ends-given c l (ends {e = e} {l = m} b v) = record {
    forks = f.0;
    counted = f.1;
    costs = sym weighed ∙ r.1;
    reads = ap backward f.2 ∙ ap (stops_to (in_place o)) (length-turned (e ∷ m) (2 ^ k) ∙ sym (places k)) ∙ all;
  }
    where
      n : ℕ
      n = 2 ^ k - 1

      o : List ℕ
      o = turned (e ∷ m) (2 ^ k)

      all : stops_to (in_place o) (suc n) ≡ e ∷ m
      all = ap (stops_to (in_place o)) (places k) ∙ stops-turned (e ∷ m) (2 ^ k) (omega (arith, walk-length v, pow_pos k))

      e-is : last_of k o ≡ e
      e-is = let r = all in cc

      m-is : stops_to (in_place o) n ≡ m
      m-is = let r = all in cc

      r : Admits (G (last_of k o)) n (in_place o) × (cost_to (G (last_of k o)) (in_place o) n ≡ c)
      r = rw e-is (walk-order (in_place o) v e-is m-is (rw (d.bound e) b))

      f : (F : ℕ) × (ok F ≡ true) × (order_of k F ≡ o)
      f = d.only o (length-turned (e ∷ m) (2 ^ k)) r.0

      weighed : cost_to (G (last_of k o)) (in_place o) n ≡ cost (order_of k f.0)
      weighed = subst (λ u. cost_to (G (last_of k u)) (in_place u) n ≡ cost (order_of k f.0)) f.2 (d.weighs f.0 f.1)

  -- THE GRAPHS' BEST WALK IS WHAT THE ENUMERATION FINDS, READ FROM THE LAST PLACE BACK; and there is none where no set counts
  pub plans-found : Settled k ok → plans G (2 ^ k) (2 ^ k - 1) ≡ told backward (found k cost ok)
  plans-found fair = least-unique (Given k cost ok) (plans G (2 ^ k) (2 ^ k - 1)) (told backward (found k cost ok))
      (least_iff (plans G (2 ^ k) (2 ^ k - 1)) ends-given given-ends (plans-least G (2 ^ k) (2 ^ k - 1))) (found-least k cost ok fair)

  -- so it is the wanted order with its cost, where a set counts
  pub plans-wanted : Settled k ok → (F : ℕ) → ok F ≡ true → plans G (2 ^ k) (2 ^ k - 1) ≡ at (cost (wanted k cost ok)) (backward (wanted k cost ok))
  unfolding told
  plans-wanted fair F t = plans-found fair ∙ ap (told backward) (found-wanted k cost ok fair F t)

  -- an array that holds the best walk holds the wanted order
  pub planned-wanted : Settled k ok → (F : ℕ) → ok F ≡ true → (o : List ℕ) (c : ℕ) → length o ≡ 2 ^ k
      → plans G (2 ^ k) (2 ^ k - 1) ≡ at c (backward o) → (o ≡ wanted k cost ok) × (c ≡ cost (wanted k cost ok))
  planned-wanted fair F t o c e p =
      let w = plans-wanted fair F t in
      let x : c ≡ cost (wanted k cost ok) = cc in
      let y : backward o ≡ backward (wanted k cost ok) = cc in
      (backward-same o (wanted k cost ok) (e ∙ sym (length-wanted k cost ok fair F t)) y, x)

-- one graph for all last stops: AN ORDER THAT THE GRAPH PREFERS TO EVERY OTHER IS SHORTEST
pub preferred-shortest : (k : ℕ) (cost : List ℕ → ℕ) (ok : ℕ → Bool) (G : Graph) → Draws k cost ok (λ e. G) → (o : List ℕ) (c : ℕ) → length o ≡ 2 ^ k
    → Admits G (2 ^ k - 1) (in_place o) → cost_to G (in_place o) (2 ^ k - 1) ≡ c
    → ((u : ℕ → ℕ) → Admits G (2 ^ k - 1) u → Preferred G (2 ^ k - 1) (in_place o) u) → Shortest k cost ok o c
preferred-shortest k cost ok G d o c e a s w = least-shortest k cost ok e (its, λ x m g. go g (w _ (d.admits g.forks g.counted)))
  where
    n : ℕ
    n = 2 ^ k - 1

    f : (F : ℕ) × (ok F ≡ true) × (order_of k F ≡ o)
    f = d.only o e a

    its : Given k cost ok c (backward o)
    its = record {
      forks = f.0;
      counted = f.1;
      costs = sym (d.weighs f.0 f.1) ∙ rw f.2 s;
      reads = ap backward f.2;
    }

    go : {x : ℕ} {m : List ℕ} (g : Given k cost ok x m) → Preferred G n (in_place o) (in_place (order_of k g.forks)) → AtMost c (backward o) x m
    go g (by-cost h) = less (cheaper (omega (arith, d.weighs g.forks g.counted, g.costs)))
    go g (by-stops h l) =
        let x = earlier-lex (2 ^ k) (in_place o) (in_place (order_of k g.forks)) (rw (places k) at l) in
        less (smaller (omega (arith, d.weighs g.forks g.counted, g.costs)) (rw (← g.reads, e, length-order_of k g.forks) x))
    go g (alike h) =
        let u : List ℕ = order_of k g.forks in
        let q : o ≡ u = ext_get_or 0 o u (e ∙ sym (length-order_of k g.forks)) (λ p b. h p (omega arith)) in
        same (sym s ∙ ap (λ z. cost_to G (in_place z) n) q ∙ d.weighs g.forks g.counted ∙ g.costs) (ap backward q ∙ g.reads)
