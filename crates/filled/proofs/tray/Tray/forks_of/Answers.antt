-- `filled::fork::Tray::forks_of` meets its contract. The loop's invariant: the forks of the moves up to the stop that the next window begins with.
use mathlib.Core.Path.{◌≡◌, ap, ◌∙◌}
use Prim.Native.Nat.{ℕ, ◌+◌, ◌-◌, ◌<◌}
use native.Mathlib.Omega.{arith}
use lib.ListN.{length}
use Rattle.std.proofs.Common.{rules}
use Rattle.std.specs.Slice.Iter.{windows_size, windows_rest}
use Rattle.std.proofs.lemmas.Iterator.{window_more}
use Rattle.tree.specs.Neighbour.{in_place}
use Rattle.walks.specs.Places.{stops_to}
use Rattle.filled.specs.Moves.{moves_forks}
use Rattle.filled.proofs.Moves.{moves_more, moves-end, moves-begin}
use Rattle.filled.proofs.tray.Tray.forks_of.Goals as goal

pub loop-stops-init : goal.loop-stops-init
loop-stops-init c =
    moves-begin c.args.self.now.k c.args.list.now (windows_rest c.into_iter-stops-iterator.result) (windows_size c.into_iter-stops-iterator.result)
    (search rules) (search rules)

pub loop-stops-preserved : goal.loop-stops-preserved
loop-stops-preserved c =
    let l = c.loop-stops in
    let i : ℕ = length c.args.list.now - length (windows_rest l.stops-iterator) in
    let h = window_more c.args.list.now l.stops-iterator c.next.new.self _ _ c.in-Some.is c.next.ensures.steps (omega arith) l.invariant.1 l.invariant.3 in
    let a : c.from.result ≡ in_place c.args.list.now (i + 1 - 1) = c.from.ensures ∙ h.3 0 0 (omega arith) ∙ ap (in_place c.args.list.now) (omega arith) in
    let b : c.from-in-loop-stops.result ≡ in_place c.args.list.now (i + 1) = c.from-in-loop-stops.ensures ∙ h.3 1 0 (omega arith) in
    let next : i + 1 + 1 ≡ length c.args.list.now - length (windows_rest c.next.new.self) + 1 = omega (arith, h.0, h.2) in (
      c.next.ensures.steps.0 ∙ l.invariant.0,
      omega (arith, h.0, l.invariant.1),
      λ b. omega (arith, h.0, h.2),
      h.1,
      moves_more c.args.self.now.k (in_place c.args.list.now) (i + 1) l.forks _ _ _ (omega arith) a b l.invariant.4 c.with_move-forks.ensures
          ∙ ap (λ (p : ℕ). moves_forks c.args.self.now.k (stops_to (in_place c.args.list.now) p)) next,
    )

pub returns : goal.returns
returns c =
    let l = c.loop-stops in
    let few : length (windows_rest l.stops-iterator) < 2 = omega (arith, c.in-None.ensures.steps, l.invariant.0) in
    let p : ℕ = length c.args.list.now - length (windows_rest l.stops-iterator) + 1 in
    moves-end c.args.self.now.k (in_place c.args.list.now) p (length c.args.list.now) l.forks (omega (arith, few)) (λ b. omega (arith, l.invariant.1, l.invariant.2 b)) (λ e. omega arith) l.invariant.4
