-- 'The smallest printed total is the planner's.'
use mathlib.Core.Path.{◌≡◌, refl, sym, ap, ◌∙◌}
use mathlib.Core.List.{List, [], ◌∷◌}
use Prim.Native.Nat.{ℕ, ◌^◌, ◌≤◌, ◌<◌}
use lib.ListN.{length, get_or, take}
use Rattle.base.specs.Outcome.{gives}
use Rattle.path.specs.Path.{Path, path, any_size}
use Rattle.times.specs.Table.{entry_of}
use Rattle.tree.specs.Open.{Shortest}
use Rattle.path_plan.specs.Calls.{AcceptedRun}
use Rattle.path_plan.specs.Claim.{ShortestFor}
use Rattle.path_plan.proofs.Claim.{run-shortest}
use Rattle.path.proofs.Inverse.{read_same}
use Rattle.all_orders_output.specs.ReadBack.{lines_in}
use Rattle.all_orders_output.specs.Output.{program_highest, few_enough, program_path, output_for}
use Rattle.all_orders_output.proofs.Once.{AreAll, prints-all}

-- a total that no line's is below, and the line that has it, with its order
pub record Smallest (lines : List (List ℕ)) (c : ℕ) (o : List ℕ) : Type 0 where
  pub line : ℕ
  pub below : line < length lines
  pub says : get_or lines line [] ≡ c ∷ o
  pub least : (i : ℕ) → i < length lines → c ≤ get_or (get_or lines i []) 0 0

-- the shortest order's line is the smallest
smallest : (k : ℕ) (t : ℕ → ℕ → ℕ) (lines : List (List ℕ)) (o : List ℕ) (c : ℕ) → AreAll k t lines → Shortest k t o c → Smallest lines c o
smallest k t lines o c all s =
    let on = all.once o (s.forks, s.given) in
    record {
      line = on.line;
      below = on.below;
      says = on.says ∙ ap (λ (x : ℕ). x ∷ o) (sym s.costs);
      least = λ i b. rw (all.says i (rw all.count at b)) (s.least _ refl);
    }

-- THE LAW: of any order and total that demand 3 holds of for these bytes, as of the planner's, that total is the smallest printed one, and that
-- order is printed with it
pub prints-smallest : (input : List ℕ) (p : Path) (k : ℕ) (order : List ℕ) (c : ℕ) → program_path input ≡ gives p → ShortestFor input program_highest k order c
    → Smallest (lines_in (output_for input)) c order
prints-smallest input p k order c e s =
    let read = read_same input program_highest few_enough any_size p.version p.k p.stops e refl in
    let same : p ≡ path s.version k s.stops = cc in
    smallest k (entry_of s.stops) (lines_in (output_for input)) order c (rw same at (prints-all input p e)) s.shortest

-- and so it is of what the planner returns for the table of the stops that were read from these bytes
pub run-smallest : (input : List ℕ) (p : Path) (version k : ℕ) (order : List ℕ) (c : ℕ) → program_path input ≡ gives p → AcceptedRun input program_highest version k order c
    → Smallest (lines_in (output_for input)) c (take (2 ^ k) order)
run-smallest input p version k order c e r =
    prints-smallest input p k (take (2 ^ k) order) c e (run-shortest input program_highest version k order c r)
