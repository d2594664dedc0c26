-- WHAT A PROGRAM FINDS. The least cost of the last row is the wanted order's, with its last stop; and an array that ends in that stop and
-- holds the best walk before it, in that stop's graph, is the wanted order.
use mathlib.Core.Path.{◌≡◌, refl, sym, ap, ap₂, subst, subst₂, ◌∙◌, fun_ext}
use mathlib.Core.Bool.{Bool, true}
use mathlib.Core.List.{List, ◌∷◌}
use Prim.Native.Nat.{ℕ, ◌+◌, ◌-◌, ◌^◌, ◌<◌}
use native.Mathlib.Nat.{add-zero}
use native.Mathlib.Omega.{arith}
use lib.ListN.{length, get_or}
use Rattle.walks.specs.Best.{Found, none, at, scan, step, best}
use Rattle.walks.specs.Places.{stops_to}
use Rattle.walks.specs.Rows.{told, costs, line, last, loop, Codes}
use Rattle.walks.specs.Walk.{Graph}
use Rattle.walks.proofs.Best.{scan-back}
use Rattle.walks.proofs.Numbers.{loop-codes, codes-told}
use Rattle.walks.proofs.Rows.{told-scan, told-step, step-told, told-told, costs-are, line-is}
use Rattle.tree.specs.Neighbour.{in_place}
use Rattle.tree.proofs.Backward.{backward-same}
use Rattle.tree.specs.Wanted.{wanted, Settled}
use Rattle.tree.specs.Draws.{plans, lasts, last_of, Draws}
use Rattle.tree.proofs.Draws.{plans-wanted, backward-last}
use Rattle.tree.proofs.Wanted.{length-wanted}

-- the last row tells of the plans
pub lasts_are : (G : ℕ → Graph) (N n : ℕ) → lasts G N n ≡ told (λ l. get_or l 0 0) (plans G N n)
unfolding lasts plans
lasts_are G N n = ap (λ f. scan f N) (fun_ext alike) ∙ sym (told-scan (λ l. get_or l 0 0) (λ e. step true 0 (◌∷◌ e) (best (G e) n e)) N)
  where
    alike : (e : ℕ) → step true 0 (λ a. e) (costs (G e) n e) ≡ told (λ l. get_or l 0 0) (step true 0 (◌∷◌ e) (best (G e) n e))
    alike e = rw (costs-are (G e) n e, step-told, told-step)

-- with one graph for all last stops it is walks' last row
pub lasts-one : (G : Graph) (n : ℕ) → lasts (λ e. G) G.bound n ≡ last G n
unfolding lasts last
lasts-one G n = refl

-- the plan is the best walk to its last stop, in that stop's graph
pub plans-back : (G : ℕ → Graph) (N n : ℕ) {c e : ℕ} {l : List ℕ} → plans G N n ≡ at c (e ∷ l) → best (G e) n e ≡ at c l
unfolding plans step
plans-back G N n {c} {e} {l} h = go (scan-back (λ i. step true 0 (◌∷◌ i) (best (G i) n i)) N h)
  where
    some : (i : ℕ) (y : Found (List ℕ)) → best (G i) n i ≡ y → step true 0 (◌∷◌ i) y ≡ at c (e ∷ l) → best (G e) n e ≡ at c l
    some i none q r = let z : ◌≡◌ {A = ℕ} 0 1 = cc in absurd (omega arith)
    some i (at d m) q r =
        let f : d + 0 ≡ c = cc in
        let d-is : d ≡ c = omega arith in
        let i-is : i ≡ e = cc in
        let m-is : m ≡ l = cc in
        rw (← i-is) (q ∙ ap₂ at d-is m-is)

    go : (i : ℕ) × (i < N) × (step true 0 (◌∷◌ i) (best (G i) n i) ≡ at c (e ∷ l)) → best (G e) n e ≡ at c l
    go r = some r.0 (best (G r.0) n r.0) refl r.2

-- THE LAST CHOICE OF A PROGRAM: v e stands for the best walk to e in the graph of e; the loop over the e stands for the last row
pub lasts-codes : (inf : ℕ) (G : ℕ → Graph) (N m n : ℕ) (v q : ℕ → ℕ) → ((e : ℕ) → e < N → Codes inf (v e) (q e) (line (G e) m n e))
    → Codes inf (loop inf (λ e. true) v (λ e. e) N).0 (loop inf (λ e. true) v (λ e. e) N).1 (lasts G N n)
unfolding lasts
lasts-codes inf G N m n v q h =
    subst₂ (λ x f. Codes inf (loop inf (λ e. true) x (λ e. e) N).0 (loop inf (λ e. true) x (λ e. e) N).1 (scan f N))
    (fun_ext (λ e. add-zero (v e))) (fun_ext (λ e. step-told (λ r. r) (λ a. e) true 0 (costs (G e) n e)))
    (loop-codes inf (λ e. told (λ a. e) (costs (G e) n e)) (λ e. true) v (λ e. e) (λ e. 0) N (λ e b x. own e b) (λ e b x f. omega arith))
  where
    own : (e : ℕ) → e < N → Codes inf (v e) e (told (λ a. e) (costs (G e) n e))
    own e b =
        let x : told (λ r. e) (line (G e) m n e) ≡ told (λ a. e) (costs (G e) n e) = rw (line-is (G e) m n e, costs-are (G e) n e) (simp told-told) in
        subst (Codes inf (v e) e) x (codes-told inf (v e) (q e) (λ r. e) (line (G e) m n e) (h e b))

-- the graphs draw a cost, and a set F counts
module _ (k : ℕ) (cost : List ℕ → ℕ) (ok : ℕ → Bool) (G : ℕ → Graph) (d : Draws k cost ok G) (fair : Settled k ok) (F : ℕ) (counts : ok F ≡ true) where
  -- the plans, with the last stop apart
  plans-last : plans G (2 ^ k) (2 ^ k - 1) ≡ at (cost (wanted k cost ok)) (last_of k (wanted k cost ok) ∷ stops_to (in_place (wanted k cost ok)) (2 ^ k - 1))
  plans-last = plans-wanted k cost ok G d fair F counts
      ∙ ap (at (cost (wanted k cost ok))) (backward-last k (wanted k cost ok) (length-wanted k cost ok fair F counts))

  -- THE LAST ROW HAS THE WANTED ORDER'S COST AND LAST STOP
  pub lasts-wanted : lasts G (2 ^ k) (2 ^ k - 1) ≡ at (cost (wanted k cost ok)) (last_of k (wanted k cost ok))
  unfolding told
  lasts-wanted = lasts_are G (2 ^ k) (2 ^ k - 1) ∙ ap (told (λ l. get_or l 0 0)) plans-last

  -- so do the numbers that stand for it
  pub codes-wanted : (inf c e : ℕ) → Codes inf c e (lasts G (2 ^ k) (2 ^ k - 1)) → (c ≡ cost (wanted k cost ok)) × (e ≡ last_of k (wanted k cost ok))
  codes-wanted inf c e h = let r = subst (Codes inf c e) lasts-wanted h in (r.0, r.1)

  -- AND THE BEST WALK TO THAT STOP IS THE REST OF IT
  pub best-wanted : best (G (last_of k (wanted k cost ok))) (2 ^ k - 1) (last_of k (wanted k cost ok))
      ≡ at (cost (wanted k cost ok)) (stops_to (in_place (wanted k cost ok)) (2 ^ k - 1))
  best-wanted = plans-back G (2 ^ k) (2 ^ k - 1) plans-last

  -- so an array that is filled so holds the wanted order
  pub filled-wanted : (o : List ℕ) (c : ℕ) → length o ≡ 2 ^ k → lasts G (2 ^ k) (2 ^ k - 1) ≡ at c (last_of k o)
      → ((x : ℕ) (r : List ℕ) → best (G (last_of k o)) (2 ^ k - 1) (last_of k o) ≡ at x r → stops_to (in_place o) (2 ^ k - 1) ≡ r)
      → (o ≡ wanted k cost ok) × (c ≡ cost (wanted k cost ok))
  filled-wanted o c e h f =
      let w : List ℕ = wanted k cost ok in
      let y = lasts-wanted in
      let c-is : c ≡ cost w = cc in
      let last-is : last_of k o ≡ last_of k w = cc in
      let b : best (G (last_of k o)) (2 ^ k - 1) (last_of k o) ≡ at (cost w) (stops_to (in_place w) (2 ^ k - 1)) = rw last-is best-wanted in
      let r : stops_to (in_place o) (2 ^ k - 1) ≡ stops_to (in_place w) (2 ^ k - 1) = f (cost w) (stops_to (in_place w) (2 ^ k - 1)) b in
      let long : length w ≡ 2 ^ k = length-wanted k cost ok fair F counts in (
        backward-same o w (e ∙ sym long) (backward-last k o e ∙ ap₂ ◌∷◌ last-is r ∙ sym (backward-last k w long)),
        c-is,
      )
