-- `order_file::read_order_file` meets its contract: everything is judged before anything is stored.
use Rattle.orders.proofs.Calls.{done-number}
use Rattle.order_file.proofs.Calls.{read-lent, read_made, file-accepted}
use Rattle.order_file.proofs.Stages.{string-there}
use Rattle.order_file.proofs.read_order_file.Goals as goal

pub store_string-requires : goal.store_string-requires
store_string-requires c =
    let l = read-lent _ _ _ _ _ (done-number _ c.in_ok-judge_call.ensures) in
    (l.0.bits_fit, string-there _ _ (file-accepted _ _ _ l.1).0.whole)

pub returns : goal.returns
returns c = read_made _ _ _ _ _ _ _ _ (done-number _ c.in_ok-judge_call.ensures) c.total.ensures c.store_stops.ensures c.store_string.ensures
