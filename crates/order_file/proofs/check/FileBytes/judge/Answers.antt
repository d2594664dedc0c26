-- `order_file::check::FileBytes::judge` meets its contract: the file without its total, then the total.
use mathlib.Core.Path.{◌≡◌, refl, sym, ap, ◌∙◌}
use mathlib.Core.List.{List}
use Prim.Native.Nat.{ℕ, ◌^◌, ◌≤◌}
use lib.ListN.{take, drop}
use Rattle.base.specs.Outcome.{done, over}
use Rattle.base.specs.Size.{max_k, stop_count}
use Rattle.base.proofs.Outcome.{over-front}
use Rattle.base.proofs.Size.{stop_count-pow}
use Rattle.tree.specs.Total.{entry, total}
use Rattle.orders.proofs.Calls.{done-number}
use Rattle.order_file.specs.File.{stops_place}
use Rattle.order_file.proofs.Bytes.{length-stops_in}
use Rattle.order_file.proofs.Calls.{Accepted, unsummed-accepted, file-other, file-gives}
use Rattle.order_file.proofs.Stages as stage
use Rattle.order_file.proofs.check.FileBytes.judge.Goals as goal

-- the total of its stops
summed : (k : ℕ) (table file stops before : List ℕ) (r : ℕ) → k ≤ max_k → stops ≡ over (stage.stops k file) before → r ≡ total (entry (stop_count k) table) (take (stop_count k) stops)
    → r ≡ total (entry (2 ^ k) table) (stage.stops k file)
summed k table file stops before r h e f =
    f ∙ ap (λ (n : ℕ). total (entry n table) (take n stops)) (stop_count-pow k h)
    ∙ ap (total (entry (2 ^ k) table)) (ap (take (2 ^ k)) e ∙ over-front (2 ^ k) (stage.stops k file) before (length-stops_in (2 ^ k) (drop stops_place file)))

pub returns-then-total-sum_moves : goal.returns-then-total-sum_moves
returns-then-total-sum_moves c =
    let a = c.args in
    let accepts : Accepted a.self.k a.self.bytes.now = unsummed-accepted _ _ (done-number _ c.in_ok-judge_unsummed.ensures.said) in
    let sum : c.sum_moves.result ≡ total (entry (2 ^ a.self.k) a.table.now) (stage.stops a.self.k a.self.bytes.now) = summed _ a.table.now a.self.bytes.now _ _ _ a.self.small (c.in_ok-judge_unsummed.ensures.stored refl) c.sum_moves.ensures in
    sym (ap done (file-other _ _ _ accepts (λ e. c.if-total-sum_moves.true (c.total.ensures ∙ e ∙ sym sum))))

pub returns : goal.returns
returns c =
    let a = c.args in
    let accepts : Accepted a.self.k a.self.bytes.now = unsummed-accepted _ _ (done-number _ c.in_ok-judge_unsummed.ensures.said) in
    let sum : c.sum_moves.result ≡ total (entry (2 ^ a.self.k) a.table.now) (stage.stops a.self.k a.self.bytes.now) = summed _ a.table.now a.self.bytes.now _ _ _ a.self.small (c.in_ok-judge_unsummed.ensures.stored refl) c.sum_moves.ensures in
    sym (ap done (file-gives _ _ _ accepts (sym c.total.ensures ∙ c.if-total-sum_moves.false ∙ sum)))
