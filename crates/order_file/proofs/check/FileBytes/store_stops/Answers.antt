-- `order_file::check::FileBytes::store_stops` meets its contract: the places passed hold the file's stops.
use mathlib.Core.Path.{◌≡◌, sym, ap, ap₂, ◌∙◌}
use mathlib.Core.List.{List}
use Prim.Native.Nat.{ℕ, ◌*◌, ◌^◌, ◌<◌, ◌≤◌}
use native.Mathlib.Omega.{arith}
use lib.ListN.{length, set, take, drop}
use lib.Seq.{drop-drop, length-take-le}
use Rattle.base.specs.Outcome.{over}
use Rattle.base.specs.Lists.{tabulate}
use Rattle.base.proofs.Size.{stop_count-pow}
use Rattle.base.proofs.Lists.{tabulate-more}
use Rattle.records.specs.Field.{number_of}
use Rattle.orders.proofs.Filled.{filled}
use Rattle.order_file.specs.Reading.{stops_in}
use Rattle.order_file.specs.File.{stops_place}
use Rattle.order_file.proofs.check.FileBytes.store_stops.Goals as goal

pub loop-p-preserved : goal.loop-p-preserved
loop-p-preserved c =
    let l = c.loop-p in let file : List ℕ = c.args.self.bytes.now in
    let places : List ℕ = take c.stop_count.result c.args.order.now in
    let f : ℕ → ℕ = λ q. number_of (take 2 (drop (2 * q) (drop stops_place file))) in
    let b : l.p < length places = omega arith in
    let here : c.field16.result ≡ f l.p = c.field16.ensures ∙ ap (λ (x : List ℕ). number_of (take 2 x)) (sym (drop-drop (2 * l.p) stops_place file)) in
    ap₂ (λ (x : List ℕ) (y : ℕ). set x l.p y) l.invariant here ∙ tabulate-more l.p f places 0 b

pub returns : goal.returns
unfolding stops_in
returns c =
    let l = c.loop-p in
    let n : c.stop_count.result ≡ 2 ^ c.args.self.k = c.stop_count.ensures ∙ stop_count-pow c.args.self.k c.args.self.small in
    let fits : c.stop_count.result ≤ length c.args.order.now = omega (arith, n, c.requires) in
    let end : l.p ≡ c.stop_count.result = omega (arith, length-take-le c.stop_count.result c.args.order.now fits) in
    let f : ℕ → ℕ = λ q. number_of (take 2 (drop (2 * q) (drop stops_place c.args.self.bytes.now))) in
    filled c.stop_count.result l.p f l.stop-items c.args.order.now fits end l.invariant ∙ ap (λ (x : ℕ). over (tabulate x f) c.args.order.now) n
