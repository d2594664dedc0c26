-- `orders::forks::judge_string` meets its contract: k, the lengths, the contents.
use mathlib.Core.Path.{◌≡◌, ◌∙◌}
use Prim.Native.Nat.{◌^◌, ◌≤◌}
use native.Mathlib.Omega.{arith}
use lib.ListN.{length}
use Rattle.base.specs.Size.{max_k}
use Rattle.orders.specs.Bits.{byte_count}
use Rattle.orders.proofs.Size.{byte_count-is}
use Rattle.orders.proofs.Bits.{are_bytes-first}
use Rattle.orders.proofs.forks.judge_string.Goals as goal

pub invariant_of-only_forks : goal.invariant_of-only_forks
invariant_of-only_forks c =
    let small : c.args.k ≤ max_k = c.if-k-gt-MAX_K.false in
    let bytes : c.byte_count.result ≡ byte_count (2 ^ c.args.k) = c.byte_count.ensures ∙ byte_count-is _ small in
    let long : byte_count (2 ^ c.args.k) ≤ length c.args.bits.now = omega (arith, bytes) in
    record { small = small; long = long; octets = are_bytes-first _ c.args.bits.now (λ i. (c.type_inv.bits i).fits) long }
