-- `orders::forks::ForkString::stop_in` meets its contract: `Way` says how far down the tree the loop is.
use mathlib.Core.Path.{◌≡◌, sym, ap, ap₂, ◌∙◌}
use Prim.Native.Nat.{ℕ, ◌+◌, ◌-◌, ◌%◌, ◌^◌, ◌<◌}
use native.Mathlib.Omega.{arith}
use Rattle.base.proofs.Size.{stop_count-pow}
use Rattle.tree.specs.Fork.{bit, side}
use Rattle.tree.specs.Order.{down}
use Rattle.orders.specs.Lent.{forks_in}
use Rattle.orders.proofs.Way.{way-fork, way_down, fork-bit}
use Rattle.orders.proofs.forks.ForkString.stop_in.Goals as goal

pub go_down-v-requires : goal.go_down-v-requires
go_down-v-requires c =
    let l = c.loop-d in
    (way-fork c.args.self.k _ c.args.p l.d l.v (omega arith) l.invariant, omega (arith, c.args.self.small, l.invariant.above))

pub loop-d-preserved : goal.loop-d-preserved
loop-d-preserved c =
    let l = c.loop-d in let k : ℕ = c.args.self.k in
    let b = c.args.self.bytes.now in let F : ℕ = forks_in k b in
    let fork : l.v < 2 ^ k = way-fork k F c.args.p l.d l.v (omega arith) l.invariant in
    way_down k F c.args.p l.d l.v c.go_down-v.result (omega arith) l.invariant
    (c.go_down-v.ensures ∙ ap (λ (y : ℕ). side l.v ((bit c.args.p (l.d - 1) + y) % 2)) (fork-bit k b c.args.self.octets c.args.self.long l.v fork))

pub returns : goal.returns
returns c =
    let l = c.loop-d in let k : ℕ = c.args.self.k in
    let n : c.stop_count.result ≡ 2 ^ k = c.stop_count.ensures ∙ stop_count-pow k c.args.self.small in
    let z : l.d ≡ 0 = omega arith in
    let e : k - l.d ≡ k = omega arith in
    let way : l.v ≡ down (forks_in k c.args.self.bytes.now) c.args.p k 1 = ap (λ (x : ℕ). down (forks_in k c.args.self.bytes.now) c.args.p x l.v) (sym z) ∙ l.invariant.rest in
    (ap₂ (λ (x y : ℕ). x - y) way n, omega (arith, n, rw e at l.invariant.high, rw e at l.invariant.low))
