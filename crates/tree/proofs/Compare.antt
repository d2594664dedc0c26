-- TWO COSTS COMPARED. The idea: what is added to the cost of every order alike changes neither which costs less nor which are equal, so
-- what is shortest stays shortest; and a least cost is the cost of some order, which the smaller cost weighs too.
use mathlib.Core.Path.{◌≡◌, sym, ap, subst, ◌∙◌}
use mathlib.Core.Bool.{Bool, true}
use mathlib.Core.List.{List}
use Prim.Native.Nat.{ℕ, ◌+◌, ◌≤◌}
use native.Mathlib.Nat.{add-zero}
use native.Mathlib.Omega.{arith}
use Rattle.tree.specs.Order.{order_of}
use Rattle.tree.specs.Wanted.{wanted, Settled, Shortest}
use Rattle.tree.proofs.Wanted.{wanted-shortest, shortest-wanted}

module _ (k : ℕ) (ok : ℕ → Bool) (cost cost' : List ℕ → ℕ) where
  -- x more for every order: what is shortest stays shortest, at x more
  pub shortest-shift : (x : ℕ) → ((G : ℕ) → ok G ≡ true → cost' (order_of k G) ≡ cost (order_of k G) + x)
      → {o : List ℕ} {c : ℕ} → Shortest k cost ok o c → Shortest k cost' ok o (c + x)
  shortest-shift x more {o} {c} s = record {
    forks = s.forks;
    counted = s.counted;
    given = s.given;
    costs = ap (λ y. y + x) s.costs ∙ rw (← s.given) (sym (more s.forks s.counted));
    least = λ G t. omega (arith, more G t, s.least G t);
    first = λ G t e. s.first G t (omega (arith, more G t));
  }

  -- the same for every order: what is shortest stays shortest
  pub shortest-alike : ((G : ℕ) → ok G ≡ true → cost' (order_of k G) ≡ cost (order_of k G))
      → {o : List ℕ} {c : ℕ} → Shortest k cost ok o c → Shortest k cost' ok o c
  shortest-alike alike {o} {c} s =
      subst (Shortest k cost' ok o) (add-zero c) (shortest-shift 0 (λ G t. alike G t ∙ sym (add-zero (cost (order_of k G)))) s)

-- a set F counts
module _ (k : ℕ) (ok : ℕ → Bool) (fair : Settled k ok) (F : ℕ) (counts : ok F ≡ true) (cost cost' : List ℕ → ℕ) where
  -- THE SAME MORE FOR EVERY ORDER: the same order is wanted, and costs so much more
  pub wanted-shift : (x : ℕ) → ((G : ℕ) → ok G ≡ true → cost' (order_of k G) ≡ cost (order_of k G) + x)
      → (wanted k cost' ok ≡ wanted k cost ok) × (cost' (wanted k cost' ok) ≡ cost (wanted k cost ok) + x)
  wanted-shift x more =
      let r = shortest-wanted k cost' ok fair F counts (wanted k cost ok) _ (shortest-shift k ok cost cost' x more (wanted-shortest k cost ok fair F counts)) in
      (sym r.0, sym r.1)

  -- the same for every order: the same order is wanted, at the same cost
  pub wanted-alike : ((G : ℕ) → ok G ≡ true → cost' (order_of k G) ≡ cost (order_of k G))
      → (wanted k cost' ok ≡ wanted k cost ok) × (cost' (wanted k cost' ok) ≡ cost (wanted k cost ok))
  wanted-alike alike =
      let r = shortest-wanted k cost' ok fair F counts (wanted k cost ok) _ (shortest-alike k ok cost cost' alike (wanted-shortest k cost ok fair F counts)) in
      (sym r.0, sym r.1)

  -- MORE FOR ANY ORDER, OR FEWER SETS: the least cost does not become smaller
  pub wanted-raise : (ok' : ℕ → Bool) → Settled k ok' → (E : ℕ) → ok' E ≡ true
      → ((G : ℕ) → ok' G ≡ true → (ok G ≡ true) × (cost (order_of k G) ≤ cost' (order_of k G)))
      → cost (wanted k cost ok) ≤ cost' (wanted k cost' ok')
  wanted-raise ok' fair' E counts' more =
      let s = wanted-shortest k cost ok fair F counts in
      let r = wanted-shortest k cost' ok' fair' E counts' in
      let m = more r.forks r.counted in
      omega (arith, s.least r.forks m.0, m.1, ap cost' r.given)
