-- `tree::reach` meets its contract: a place that is not 0 has fewer than 64 trailing zero bits, so the shift loses no bit.
use Rattle.std.proofs.Common.{ℕ, ◌^◌, ◌<◌, ◌∙◌, ap, arith}
use native.Mathlib.Nat.{one-mul}
use lib.Count.{count_trailing_zeros}
use lib.Pow.{shl_exact}
use Rattle.tree.specs.Neighbour.{reach, reach_of}
use Rattle.tree.proofs.Beside.{trail-count, trail-lt, reach_of-pos}
use Rattle.tree.proofs.reach.Goals as goal

-- a place that is not 0 has fewer trailing zero bits than bits
zeros-lt : (p : ℕ) → 0 < p → p < 2 ^ 64 → count_trailing_zeros 64 p < 64
zeros-lt p a b = rw (trail-count 64 p a b) (trail-lt 64 p a b)

pub returns-then-p-eq0 : goal.returns-then-p-eq0
unfolding reach_of
returns-then-p-eq0 c = rw c.if-p-eq0.true

pub returns : goal.returns
unfolding reach
returns c =
    let p : ℕ = c.args.p in
    let pos : 0 < p = omega arith in
    let t : ℕ = count_trailing_zeros 64 p in
    shl_exact 1 t 64 (omega arith) (omega (arith, zeros-lt p pos c.ranges.p.fits)) ∙ one-mul (2 ^ t)
    ∙ rw (reach_of-pos p pos) (ap (λ x. 2 ^ x) (trail-count 64 p pos c.ranges.p.fits))
