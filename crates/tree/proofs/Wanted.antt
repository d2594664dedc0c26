-- THE WANTED ORDER IS SHORTEST, AND NOTHING ELSE IS. The idea: what a counted set gives is a costed list, the order read from the last
-- place back. 'Shortest' says of an order in words that its costed list is least among them; the enumeration finds a least one; and
-- walks has it that only one is least.
use mathlib.Core.Path.{◌≡◌, refl, sym, ap, subst, ◌∙◌}
use mathlib.Core.Bool.{Bool, true}
use mathlib.Core.List.{List}
use mathlib.Core.Logic.{◌≢◌}
use Prim.Native.Nat.{ℕ, ◌^◌}
use native.Mathlib.Omega.{arith}
use lib.ListN.{length}
use Rattle.walks.specs.Best.{Found, none, at, Least}
use Rattle.walks.specs.Places.{Earlier}
use Rattle.walks.specs.Prefer.{Lex, AtMost, less, same, cheaper, smaller, Compared, former, even, latter}
use Rattle.walks.specs.Rows.{told}
use Rattle.walks.proofs.Places.{earlier-lex, lex-earlier}
use Rattle.walks.proofs.Prefer.{at_most-antisym, at_most-cost, before-total, lex_irrefl, lex-trans, lex-differ}
use Rattle.tree.specs.Neighbour.{in_place}
use Rattle.tree.specs.Order.{order_of}
use Rattle.tree.specs.Wanted.{backward}
use Rattle.tree.proofs.Link.{length-order_of}
use Rattle.tree.proofs.Backward.{backward-same}
use Rattle.tree.specs.Wanted.{found, order_in, wanted, Settled, Shortest}
use Rattle.tree.proofs.Enumerate.{length-backward, Sound, Over, found-sound, found-over}

-- some counted set gives an order of cost c that reads back as l
pub record Given (k : ℕ) (cost : List ℕ → ℕ) (ok : ℕ → Bool) (c : ℕ) (l : List ℕ) : Type 0 where
  pub forks : ℕ
  pub counted : ok forks ≡ true
  pub costs : cost (order_of k forks) ≡ c
  pub reads : backward (order_of k forks) ≡ l

module _ (k : ℕ) (cost : List ℕ → ℕ) (ok : ℕ → Bool) where
  -- what a counted set gives
  pub set_given : (F : ℕ) → ok F ≡ true → Given k cost ok (cost (order_of k F)) (backward (order_of k F))
  set_given F t = record { forks = F; counted = t; costs = refl; reads = refl }

  -- THE ENUMERATION FINDS THE LEAST THAT COUNTED SETS GIVE
  pub found-least : Settled k ok → Least (Given k cost ok) (told backward (found k cost ok))
  unfolding told
  found-least fair = go (found k cost ok) (found-sound k cost ok) (λ F t. found-over k cost ok fair F t)
    where
      go : (x : Found (List ℕ)) → Sound k cost ok x → ((F : ℕ) → ok F ≡ true → Over k cost ok x (order_of k F)) → Least (Given k cost ok) (told backward x)
      go none s h = λ c l g. h g.forks g.counted
      go (at c o) s h = (
        record { forks = s.0; counted = s.1; costs = ap cost s.2 ∙ sym s.3; reads = ap backward s.2 },
        λ d m g. rw (g.costs, g.reads) at (h g.forks g.counted),
      )

  -- the words say that an order is least
  pub shortest-least : {o : List ℕ} {c : ℕ} → Shortest k cost ok o c → Least (Given k cost ok) (at c (backward o))
  shortest-least {o} {c} s = (
    record { forks = s.forks; counted = s.counted; costs = ap cost s.given ∙ sym s.costs; reads = ap backward s.given },
    λ d m g. go g (before-total c (backward o) d m (long ∙ sym (rw (← g.reads) (length-backward k g.forks)))),
  )
    where
      long : length (backward o) ≡ 2 ^ k
      long = rw (← s.given) (length-backward k s.forks)

      o-long : length o ≡ 2 ^ k
      o-long = rw (← s.given) (length-order_of k s.forks)

      go : {d : ℕ} {m : List ℕ} → Given k cost ok d m → Compared c (backward o) d m → AtMost c (backward o) d m
      go g (former h) = less h
      go g (even h l) = same h l
      go g (latter (cheaper h)) = absurd (omega (arith, s.least g.forks g.counted, g.costs))
      go g (latter (smaller h l)) =
          let u : List ℕ = order_of k g.forks in
          let l' : Lex (backward u) (backward o) = rw g.reads l in
          let apart : u ≢ o = λ x. lex-differ l' (ap backward x) in
          let first : Earlier (2 ^ k) (in_place o) (in_place u) = s.first g.forks g.counted (g.costs ∙ h) apart in
          let before : Lex (backward o) (backward u) = rw (o-long, length-order_of k g.forks) (earlier-lex (2 ^ k) (in_place o) (in_place u) first) in
          absurd (lex_irrefl (backward o) (lex-trans before l'))

  -- and back
  pub least-shortest : {o : List ℕ} {c : ℕ} → length o ≡ 2 ^ k → Least (Given k cost ok) (at c (backward o)) → Shortest k cost ok o c
  least-shortest {o} {c} e h = record {
    forks = g.forks;
    counted = g.counted;
    given = gives;
    costs = sym g.costs ∙ ap cost gives;
    least = λ F t. at_most-cost (over F t);
    first = λ F t. first F (over F t);
  }
    where
      g : Given k cost ok c (backward o)
      g = h.0

      gives : order_of k g.forks ≡ o
      gives = backward-same (order_of k g.forks) o (length-order_of k g.forks ∙ sym e) g.reads

      over : (F : ℕ) → ok F ≡ true → AtMost c (backward o) (cost (order_of k F)) (backward (order_of k F))
      over F t = h.1 _ _ (set_given F t)

      first : (F : ℕ) → AtMost c (backward o) (cost (order_of k F)) (backward (order_of k F)) → cost (order_of k F) ≡ c → order_of k F ≢ o
          → Earlier (2 ^ k) (in_place o) (in_place (order_of k F))
      first F (less (cheaper x)) y d = absurd (omega arith)
      first F (less (smaller x l)) y d = lex-earlier (2 ^ k) (in_place o) (in_place (order_of k F)) (rw (e, length-order_of k F) at l)
      first F (same x l) y d = absurd (d (backward-same (order_of k F) o (length-order_of k F ∙ sym e) (sym l)))

  -- only one order is shortest
  pub shortest-unique : {o u : List ℕ} {c d : ℕ} → Shortest k cost ok o c → Shortest k cost ok u d → (o ≡ u) × (c ≡ d)
  shortest-unique {o} {u} s r =
      let x = shortest-least s in
      let y = shortest-least r in
      let e = at_most-antisym (x.1 _ _ y.0) (y.1 _ _ x.0) in
      let a : length o ≡ 2 ^ k = rw (← s.given) (length-order_of k s.forks) in
      let b : length u ≡ 2 ^ k = rw (← r.given) (length-order_of k r.forks) in
      (backward-same o u (a ∙ sym b) e.1, e.0)

-- a set F counts
module _ (k : ℕ) (cost : List ℕ → ℕ) (ok : ℕ → Bool) (fair : Settled k ok) (F : ℕ) (counts : ok F ≡ true) where
  -- then an order is found: the wanted one, with its cost
  pub found-wanted : found k cost ok ≡ at (cost (wanted k cost ok)) (wanted k cost ok)
  unfolding wanted order_in told
  found-wanted = go (found k cost ok) (found-sound k cost ok) (found-least k cost ok fair)
    where
      go : (x : Found (List ℕ)) → Sound k cost ok x → Least (Given k cost ok) (told backward x) → x ≡ at (cost (order_in x)) (order_in x)
      go none s h = absurd (h _ _ (set_given k cost ok F counts))
      go (at c o) s h = ap (λ y. at y o) s.3

  -- THE WANTED ORDER IS SHORTEST
  pub wanted-shortest : Shortest k cost ok (wanted k cost ok) (cost (wanted k cost ok))
  unfolding told
  wanted-shortest =
      let s : Sound k cost ok (at (cost (wanted k cost ok)) (wanted k cost ok)) = subst (Sound k cost ok) found-wanted (found-sound k cost ok) in
      least-shortest k cost ok (rw (← s.2) (length-order_of k s.0))
      (subst (λ x. Least (Given k cost ok) (told backward x)) found-wanted (found-least k cost ok fair))

  -- AND NOTHING ELSE IS
  pub shortest-wanted : (o : List ℕ) (c : ℕ) → Shortest k cost ok o c → (o ≡ wanted k cost ok) × (c ≡ cost (wanted k cost ok))
  shortest-wanted o c s = shortest-unique k cost ok s wanted-shortest

  -- it has n stops
  pub length-wanted : length (wanted k cost ok) ≡ 2 ^ k
  length-wanted = let s = wanted-shortest in rw (← s.given) (length-order_of k s.forks)
