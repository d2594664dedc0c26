-- `orders::judge::LentOrder::stops_below` meets its contract: its test is that of the definition, number by number.
use Rattle.std.proofs.Common.{◌≡◌, ◌^◌, ℕ, List, rules, tests, sym, ap, ◌∙◌, take, ltb}
use Rattle.std.proofs.lemmas.Iterator.{YieldsList-from_slice}
use Rattle.std.proofs.lemmas.Iterator.Search.{all_from_yields_List}
use Rattle.base.proofs.Size.{stop_count-pow}
use Rattle.orders.specs.Allowed.{stops_below}
use Rattle.orders.proofs.Allowed.{stops_below-all}
use Rattle.orders.proofs.judge.LentOrder.stops_below.Goals as goal

pub returns : goal.returns
returns c =
    let n : ℕ = c.stop_count-n.result in
    let count : n ≡ 2 ^ c.args.self.k = c.stop_count-n.ensures ∙ stop_count-pow c.args.self.k c.args.self.small in
    let stops : List ℕ = take n c.args.self.stops.now in
    all_from_yields_List (λ b. ltb b n) _ _ c.all.result c.all.ensures.ran (YieldsList-from_slice stops cc) (λ x b q k. search (rules, tests))
    ∙ sym (stops_below-all n stops) ∙ ap (λ (x : ℕ). stops_below x (take x c.args.self.stops.now)) count
