-- Of a call that accepts, by its promise alone: what it tells is true of the stops that the path's bytes mean.
use mathlib.Core.Path.{◌≡◌, refl, sym, ap, subst, ◌∙◌}
use mathlib.Core.List.{List}
use Prim.Native.Nat.{ℕ, ◌^◌, ◌≤◌, ◌<◌}
use native.Mathlib.Omega.{arith}
use lib.ListN.{length}
use Rattle.base.specs.Refusal.{no_such_fork}
use Rattle.std.specs.Prelude.{Result}
use Rattle.base.specs.declared.Refusal.{Refusal}
use Rattle.base.specs.Outcome.{Outcome, gives, refuses, number, giving, said}
use Rattle.base.proofs.Outcome.{number-first, passed}
use Rattle.stop.specs.declared.Stop.{Stop}
use Rattle.path.specs.Path.{path, read_path, any_size}
use Rattle.times.specs.Table.{entry_of}
use Rattle.tree.specs.Total.{total}
use Rattle.tree.specs.Wanted.{every, Shortest}
use Rattle.tree.proofs.Open.{shortest-wanted}
use Rattle.groups.specs.Exchange.{exchange_fork}
use Rattle.screen.specs.Records.{is_fork}
use Rattle.screen.proofs.Records.{in-fork, fork-in}
use Rattle.screen.proofs.Calls.{numbered-sound, path-of}
use Rattle.fork_cost.specs.declared.ForkCost.{ForkCost}
use Rattle.fork_cost.specs.Cost.{Cost, SizedCost, compared, cost_of, cost_room, cost_of_fork, fork_cost, told, CostIsGiven}
use Rattle.fork_cost.specs.Truth.{TrueCost}
use Rattle.fork_cost.proofs.Judging.{room-numbered}
use Rattle.fork_cost.proofs.Truth.{cost-true, exchange-dearer}

-- what gives a cost was not refused
gives-accepted : {c : Cost} (o : Outcome SizedCost) → gives c ≡ giving (λ given. given.cost) o → number o ≡ 0
gives-accepted (gives given) e = refl
gives-accepted (refuses n) e = let z : ◌≡◌ {A = ℕ} 0 1 = cc in absurd (omega arith)

module _ (bytes : List ℕ) (highest version k : ℕ) (ss : List Stop) (means : read_path bytes highest any_size ≡ gives (path version k ss)) (fork : ℕ) {totals pivots orders totals' pivots' orders' : List ℕ}
    {r : Result ForkCost Refusal} {c : Cost} (promise : CostIsGiven (fork_cost bytes highest fork (length totals) (length pivots) (length orders)) totals pivots orders totals' pivots' orders' r)
    (answer : giving told (said r) ≡ gives c) where
  -- the fork is one of the path's, and what is told is its cost
  pub given-cost : (1 ≤ fork) × (fork < 2 ^ k) × (c ≡ cost_of k (entry_of ss) fork)
  unfolding fork_cost cost_of_fork
  given-cost =
      let test : ℕ → Outcome Unit = cost_room (length totals) (length pivots) (length orders) in
      let says : gives c ≡ giving (λ given. given.cost) (fork_cost bytes highest fork (length totals) (length pivots) (length orders)) = sym answer ∙ promise.said in
      let z = gives-accepted (fork_cost bytes highest fork (length totals) (length pivots) (length orders)) says in
      let reads = (path-of bytes highest version k ss means highest test (λ j. numbered-sound _ (room-numbered (length totals) (length pivots) (length orders) j)) (number-first (read_path bytes highest test) (cost_of_fork fork) z)).0 in
      let f = in-fork k fork (passed (is_fork k fork) no_such_fork _ (omega arith) (rw reads at z)).holds in
      let is : gives c ≡ gives (cost_of k (entry_of ss) fork) = rw (reads, fork-in k fork f.0 f.1) at says in
      (f.0, f.1, cc)

  -- THE REASON IS THE TRUE ONE, for every fork of every path
  pub given-true : TrueCost k (entry_of ss) fork c
  given-true = let t = given-cost in subst (TrueCost k (entry_of ss) fork) (sym t.2) (cost-true k (entry_of ss) fork t.0 t.1)

  -- exchanging this fork alone, in the order that demand 3 holds of, is no cheaper than is told
  pub given-exchange : (o : List ℕ) (sum : ℕ) → Shortest k (total (entry_of ss)) every o sum → c.total ≤ total (entry_of ss) (exchange_fork k o fork)
  unfolding cost_of compared
  given-exchange o sum s =
      let t = given-cost in
      omega (arith, ap (λ (x : Cost). x.total) t.2, exchange-dearer k (entry_of ss) fork t.0 t.1, ap (λ x. total (entry_of ss) (exchange_fork k x fork)) (shortest-wanted k (entry_of ss) o sum s).0)
