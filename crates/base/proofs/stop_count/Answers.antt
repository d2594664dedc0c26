-- Up to k = 10 the shift loses no bit.
use Rattle.std.proofs.Common.{◌^◌, ◌∙◌, arith}
use native.Mathlib.Nat.{one-mul}
use lib.Pow.{shl_exact}
use borrow.Author.Tests.{le-leb, lt-leb}
use Rattle.base.specs.Size.{stop_count}
use Rattle.base.proofs.stop_count.Goals as goal

pub returns-then-k-le-MAX_K : goal.returns-then-k-le-MAX_K
unfolding stop_count
returns-then-k-le-MAX_K c =
    rw (le-leb _ _ c.if-k-le-MAX_K.true)
    (shl_exact 1 c.args.k 64 (omega arith) (omega arith) ∙ one-mul (2 ^ c.args.k))

pub returns-else-k-le-MAX_K : goal.returns-else-k-le-MAX_K
unfolding stop_count
returns-else-k-le-MAX_K c = rw (lt-leb _ _ c.if-k-le-MAX_K.false)
