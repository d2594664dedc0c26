-- `order_file::check::FileBytes::judge_unsummed` meets its contract: the records, then the order and its fork string.
use mathlib.Core.Path.{◌≡◌, sym, ap, ap₂, ◌∙◌}
use mathlib.Core.List.{List}
use Prim.Native.Nat.{ℕ, ◌+◌, ◌^◌, ◌≤◌}
use native.Mathlib.Omega.{arith}
use lib.ListN.{length, take, drop, length-drop}
use Rattle.base.specs.Outcome.{done, over}
use Rattle.base.proofs.Outcome.{over-front}
use Rattle.orders.specs.Bits.{byte_count}
use Rattle.orders.specs.Lent.{order_in}
use Rattle.orders.proofs.Calls.{done-number}
use Rattle.order_file.specs.File.{stops_place, forks_place}
use Rattle.order_file.specs.Reading.{judge_string}
use Rattle.order_file.proofs.Bytes.{length-stops_in}
use Rattle.order_file.proofs.Calls.{unsummed-done}
use Rattle.order_file.proofs.Stages as stage
use Rattle.order_file.proofs.check.FileBytes.judge_unsummed.Goals as goal

-- the file's string is all there
there : (k : ℕ) (file part : List ℕ) → part ≡ drop (4 + forks_place (2 ^ k)) file → stage.Whole k file → byte_count (2 ^ k) ≤ length part
there k file part e w = rw (e, length-drop) (omega (arith, stage.string-there k file w))

-- what was judged
judged : (k : ℕ) (file stops before part : List ℕ) → stops ≡ over (stage.stops k file) before → part ≡ drop (4 + forks_place (2 ^ k)) file
    → done (judge_string k (order_in k stops) (take (byte_count (2 ^ k)) part)) ≡ done (judge_string k (stage.stops k file) (stage.string k file))
judged k file stops before part e f =
    ap₂ (λ (x y : List ℕ). done (judge_string k (order_in k x) (take (byte_count (2 ^ k)) y))) e f
    ∙ ap (λ (x : List ℕ). done (judge_string k x (stage.string k file))) (over-front (2 ^ k) (stage.stops k file) before (length-stops_in (2 ^ k) (drop stops_place file)))

pub judge_string-requires : goal.judge_string-requires
judge_string-requires c =
    let records : stage.Whole c.args.self.k c.args.self.bytes.now = stage.whole _ _ (done-number _ c.in_ok-judge_records.ensures) in
    (c.args.self.small, omega (arith, c.store_stops.auto.order, c.requires), there _ _ _ c.string.ensures records)

pub returns : goal.returns
returns c =
    let records : stage.Whole c.args.self.k c.args.self.bytes.now = stage.whole _ _ (done-number _ c.in_ok-judge_records.ensures) in
    record {
      said = c.judge_string.ensures ∙ judged _ c.args.self.bytes.now _ _ _ c.store_stops.ensures c.string.ensures ∙ sym (unsummed-done _ _ records);
      stored = λ z. c.store_stops.ensures;
    }
