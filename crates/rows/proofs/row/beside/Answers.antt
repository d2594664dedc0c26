-- `rows::row::beside` meets its contract: a stop below 1,024 and the block beside it are far below 2^64.
use Prim.Native.Nat.{ℕ, ◌/◌, ◌^◌, ◌<◌}
use native.Mathlib.Omega.{arith}
use lib.Bits.{bit_xor, xor_lt}
use lib.Pow.{shl_exact, shr_le}
use Rattle.tree.specs.Block.{beside_of}
use Rattle.rows.proofs.row.beside.Goals as goal

pub returns : goal.returns
unfolding beside_of
returns c =
    let i : ℕ = c.args.i in
    let t : ℕ = c.args.t in
    let small : bit_xor (i / 2 ^ t) 1 < 2 ^ 10 = xor_lt 10 (i / 2 ^ t) 1 (omega (arith, shr_le i t)) (omega arith) in
    shl_exact 10 t 64 small (omega arith)
