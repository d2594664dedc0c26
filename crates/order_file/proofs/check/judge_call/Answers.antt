-- `order_file::check::judge_call` meets its contract: k, the lent lengths, the file.
use mathlib.Core.Path.{◌≡◌, sym, ap, ◌∙◌}
use Prim.Native.Nat.{ℕ, ◌*◌, ◌^◌, ◌≤◌}
use native.Mathlib.Omega.{arith}
use lib.ListN.{length}
use Rattle.base.specs.Outcome.{done}
use Rattle.base.specs.Size.{max_k}
use Rattle.base.proofs.Size.{stop_count-pow}
use Rattle.orders.proofs.Size.{byte_count-is}
use Rattle.order_file.proofs.Calls.{Lent, read-contents}
use Rattle.order_file.proofs.check.judge_call.Goals as goal

pub returns : goal.returns
returns c =
    let small : c.args.k ≤ max_k = c.if-k-gt-MAX_K.false in
    let count : c.stop_count-n.result ≡ 2 ^ c.args.k = c.stop_count-n.ensures ∙ stop_count-pow _ small in
    let square : let a = c.args in length a.table.now ≡ 2 ^ a.k * 2 ^ a.k = c.if-table-n.false ∙ ap (λ (x : ℕ). x * x) count in
    let lent : let a = c.args in Lent a.k a.table.now a.file.now a.places a.room = record {
      small = small;
      square = square;
      order-fits = omega (arith, count, c.if-places-n.false);
      bits_fit = omega (arith, c.byte_count.ensures, byte_count-is _ small, c.if-room-byte_count.false);
    } in
    c.judge.ensures ∙ sym (ap done (read-contents _ _ _ _ _ lent))
