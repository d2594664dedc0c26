-- `orders::forks::ForkString::write_order` meets its contract: the places passed hold their stops.
use mathlib.Core.Path.{◌≡◌, ap, ap₂, ◌∙◌}
use mathlib.Core.List.{List}
use Prim.Native.Nat.{ℕ, ◌^◌, ◌≤◌, ◌<◌}
use native.Mathlib.Omega.{arith}
use lib.ListN.{length, set, take}
use lib.Seq.{length-take-le}
use Rattle.base.specs.Outcome.{over}
use Rattle.base.specs.Lists.{tabulate}
use Rattle.base.proofs.Size.{stop_count-pow}
use Rattle.base.proofs.Lists.{tabulate-more}
use Rattle.tree.specs.Order.{stop_in}
use Rattle.orders.specs.Lent.{forks_in}
use Rattle.orders.proofs.Filled.{filled}
use Rattle.orders.proofs.forks.ForkString.write_order.Goals as goal

pub loop-p-preserved : goal.loop-p-preserved
loop-p-preserved c =
    let l = c.loop-p in let k : ℕ = c.args.self.k in
    let places : List ℕ = take c.stop_count.result c.args.order.now in
    let b : l.p < length places = omega arith in
    ap₂ (λ (x : List ℕ) (y : ℕ). set x l.p y) l.invariant c.stop_in.ensures.0
    ∙ tabulate-more l.p (stop_in k (forks_in k c.args.self.bytes.now)) places 0 b

pub returns : goal.returns
returns c =
    let l = c.loop-p in let k : ℕ = c.args.self.k in
    let n : c.stop_count.result ≡ 2 ^ k = c.stop_count.ensures ∙ stop_count-pow k c.args.self.small in
    let fits : c.stop_count.result ≤ length c.args.order.now = omega (arith, n, c.requires) in
    let end : l.p ≡ c.stop_count.result = omega (arith, length-take-le c.stop_count.result c.args.order.now fits) in
    let f : ℕ → ℕ = stop_in k (forks_in k c.args.self.bytes.now) in
    filled c.stop_count.result l.p f l.stop-items c.args.order.now fits end l.invariant ∙ ap (λ (x : ℕ). over (tabulate x f) c.args.order.now) n
