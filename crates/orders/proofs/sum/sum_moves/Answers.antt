-- `orders::sum::sum_moves` meets its contract: the moves passed are summed, each below 2^32.
use mathlib.Core.Path.{◌≡◌, sym, ap, ap₂, ◌∙◌}
use mathlib.Core.List.{List}
use Prim.Native.Nat.{ℕ, suc, pred, ◌+◌, ◌-◌, ◌<◌}
use native.Mathlib.Numerals.{add-one}
use native.Mathlib.Omega.{arith}
use lib.ListN.{length, get_or, take, length-take}
use lib.Seq.{get_or-take}
use Rattle.base.specs.Size.{stop_count}
use Rattle.tree.specs.Neighbour.{in_place}
use Rattle.tree.specs.Total.{entry, moves, total}
use Rattle.orders.proofs.Size.{stop_count-le}
use Rattle.orders.proofs.sum.sum_moves.Goals as goal

-- one move more
one_more : (n : ℕ) (table o : List ℕ) (p : ℕ) → p + 1 < n
    → moves (entry n table) (take n o) p + entry n table (get_or o p 0) (get_or o (p + 1) 0) ≡ moves (entry n table) (take n o) (p + 1)
one_more n table o p b =
    let i : p + 1 ≡ suc p = add-one p in
    let here : in_place (take n o) p ≡ get_or o p 0 = get_or-take n o p 0 (omega arith) in
    let next : in_place (take n o) (suc p) ≡ get_or o (p + 1) 0 = ap (in_place (take n o)) (sym i) ∙ get_or-take n o (p + 1) 0 b in
    sym (ap (moves (entry n table) (take n o)) i ∙ ap₂ (λ (x y : ℕ). moves (entry n table) (take n o) p + entry n table x y) here next)

-- all of them
ended : (n : ℕ) (table o : List ℕ) (p count : ℕ) → n ≡ count → p ≡ length (take n o) - 1 → moves (entry n table) (take n o) p ≡ total (entry count table) (take count o)
ended n table o p count e f =
    let g : p ≡ pred (length (take n o)) = omega arith in
    ap (moves (entry n table) (take n o)) g ∙ ap (λ (x : ℕ). total (entry x table) (take x o)) e

pub overflow_add-sum : goal.overflow_add-sum
overflow_add-sum c =
    record { fits = omega (arith, c.loop-p.invariant.0, c.loop-p-test.true, c.saturating_sub-p-end.ensures, c.entry_at-sum.ensures.1, c.min-count.ensures, c.stop_count-n.ensures, stop_count-le c.args.k) }

pub loop-p-preserved : goal.loop-p-preserved
loop-p-preserved c =
    let a = c.args in let p : ℕ = c.loop-p.p in
    let n : ℕ = c.stop_count-n.result in
    let b : p + 1 < n = omega (arith, c.loop-p-test.true, c.saturating_sub-p-end.ensures, c.min-count.ensures) in
    (omega (arith, c.loop-p.invariant.0, c.entry_at-sum.ensures.1), ap₂ (λ (x y : ℕ). x + y) c.loop-p.invariant.1 c.entry_at-sum.ensures.0 ∙ one_more n a.table.now a.order.now p b)

pub returns : goal.returns
returns c =
    let a = c.args in let n : ℕ = c.stop_count-n.result in
    let e : c.loop-p.p ≡ length (take n a.order.now) - 1 = omega (arith, length-take n a.order.now, c.loop-p.auto.p-end, c.loop-p-test.false, c.saturating_sub-p-end.ensures, c.min-count.ensures) in
    c.loop-p.invariant.1 ∙ ended n a.table.now a.order.now c.loop-p.p (stop_count a.k) c.stop_count-n.ensures e
