-- The costs that come from tables: their walks are those of the tree with what the places cost, so the best order by them is the wanted one.
use mathlib.Core.Path.{◌≡◌, refl, sym, ap, ap₂, fun_ext, ◌∙◌}
use mathlib.Core.Bool.{Bool}
use mathlib.Core.List.{List}
use Prim.Native.Nat.{ℕ, ◌-◌, ◌^◌}
use native.Mathlib.Nat.{zero-add}
use native.Mathlib.Omega.{arith}
use Rattle.std.specs.Prelude.{Option, None, Some, IsSome, IfSome}
use Rattle.walks.specs.Best.{at, plan}
use Rattle.walks.specs.Halves.{segment}
use Rattle.tree.specs.Layers.{layers}
use Rattle.tree.specs.Total.{entry}
use Rattle.tree.specs.Wanted.{backward}
use Rattle.tree.proofs.Layers.{tree_graph-open}
use Rattle.tree.proofs.Open.{open-plan}
use Rattle.costs.proofs.Placed.{placed-plan}
use Rattle.rows.specs.Costing.{Costing, allowed, block_graph}
use Rattle.rows.specs.Source.{table_costing, placed_costing}
use Rattle.planner.specs.Method.{all_walks, HasPlan}
use Rattle.planner.specs.Plan.{wanted_plan}
use Rattle.planner.specs.Places.{placed_plan}

-- the walks through all places of 2^k stops are those of the tree's test, with the same stops kept out and the same costs
pub walks-layers : (C : Costing) (k : ℕ) → C.stops ≡ 2 ^ k → all_walks C ≡ layers k C.fits C.start C.weight
unfolding block_graph layers
walks-layers C k e = ap (λ n. segment n (allowed C) C.weight 0 (C.fits 0) C.start) e

-- layers with the same test and the same costs
pub layers-same : (k : ℕ) {f g : ℕ → ℕ → Bool} {s s₂ : ℕ → ℕ} {w w₂ : ℕ → ℕ → ℕ → ℕ} → ((p i : ℕ) → f p i ≡ g p i) → ((i : ℕ) → s i ≡ s₂ i) → ((p j i : ℕ) → w p j i ≡ w₂ p j i)
    → layers k f s w ≡ layers k g s₂ w₂
layers-same k {f} {g} {s} {s₂} {w} {w₂} a b c =
    ap (λ (x : ℕ → ℕ → Bool). layers k x s w) (fun_ext (λ p. fun_ext (a p)))
    ∙ ap₂ (layers k g) (fun_ext b) (fun_ext (λ p. fun_ext (λ j. fun_ext (c p j))))

-- where costs were made, what clauses say of them holds of a value
pub made : {A : Type 0} (o : Option A) {P Q : A → Type 0} → IsSome o → IfSome o P → IfSome o Q → (x : A) × P x × Q x
made None s p q = let z : ◌≡◌ {A = ℕ} 0 1 = cc in absurd (omega arith)
made (Some x) s p q = (x, p, q)

-- by a table alone, with no closing stop, the plan is the wanted order
pub table-plan : {n : ℕ} (k : ℕ) (table : List ℕ) → n ≡ 2 ^ k → plan (all_walks (table_costing n table None)) (n - 1) ≡ at (wanted_plan k table).total (backward (wanted_plan k table).order)
table-plan {n} k table e =
    rw e (ap (λ G. plan G (2 ^ k - 1)) (walks-layers (table_costing (2 ^ k) table None) k refl ∙ sym (tree_graph-open k (entry (2 ^ k) table))) ∙ open-plan k (entry (2 ^ k) table))

-- by two tables it is the order that is wanted where places cost extra
pub placed-wanted : {n : ℕ} (k : ℕ) (table places : List ℕ) → n ≡ 2 ^ k
    → plan (all_walks (placed_costing n table None places)) (n - 1) ≡ at (placed_plan k table places).total (backward (placed_plan k table places).order)
placed-wanted {n} k table places e =
    let t = entry (2 ^ k) table in
    let x = entry (2 ^ k) places in
    rw e (ap (λ G. plan G (2 ^ k - 1)) (walks-layers (placed_costing (2 ^ k) table None places) k refl ∙ layers-same k (λ p i. refl) (λ i. zero-add (x i 0)) (λ p j i. refl)) ∙ placed-plan k t x)

-- there is a plan
pub has-plan : {C : Costing} {n : ℕ} {cost : ℕ} {walk : List ℕ} → plan (all_walks C) (n - 1) ≡ at cost walk → HasPlan C n
has-plan e = record { cost = _; walk = _; found = e }
