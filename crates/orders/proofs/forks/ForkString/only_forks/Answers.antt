-- `orders::forks::ForkString::only_forks` meets its contract: the first byte decides.
use mathlib.Core.Path.{◌≡◌, sym, ap, ◌∙◌, ap₂}
use mathlib.Core.List.{List}
use Prim.Native.Nat.{ℕ, ◌*◌, ◌%◌, ◌^◌, ◌≤◌, ◌<◌}
use native.Mathlib.Nat.{one-mul}
use native.Mathlib.Omega.{arith}
use lib.Dec.{ltb}
use lib.ListN.{length, get_or, take}
use lib.Pow.{pow_pos, pow_mono, shl_exact}
use lib.Seq.{length-take-le}
use borrow.Author.Tests.{eq-eqb, le-leb}
use Rattle.base.proofs.Size.{stop_count-pow}
use Rattle.records.proofs.FieldLaws.{number-first}
use Rattle.orders.specs.Bits.{byte_count, set_of_bits, only_forks}
use Rattle.orders.proofs.Bits.{first-odd, short-string, long-string, odd-not, forks-only}
use Rattle.orders.proofs.forks.ForkString.only_forks.Goals as goal

-- a string has a byte
some_byte : (k : ℕ) → 0 < byte_count (2 ^ k)
some_byte k = omega (arith, pow_pos k)

pub returns-then-first-ne0 : goal.returns-then-first-ne0
returns-then-first-ne0 c =
    let k : ℕ = c.args.self.k in
    let l = c.args.self.bytes.now in sym (odd-not k (set_of_bits (take (byte_count (2 ^ k)) l)) (λ e. c.if-first-ne0.true (sym (first-odd (byte_count (2 ^ k)) l (some_byte k)) ∙ e)))

pub overflow_shl-result : goal.overflow_shl-result
overflow_shl-result c =
    omega (arith, c.stop_count.ensures, stop_count-pow c.args.self.k c.args.self.small, pow_mono {i = c.args.self.k} {j = 2} (omega arith))

pub returns-else-self-ge3 : goal.returns-else-self-ge3
unfolding only_forks
returns-else-self-ge3 c =
    let k : ℕ = c.args.self.k in
    let l : List ℕ = c.args.self.bytes.now in
    let m : ℕ = byte_count (2 ^ k) in
    let n : ℕ = c.stop_count.result in
    let e : n ≡ 2 ^ k = c.stop_count.ensures ∙ stop_count-pow k c.args.self.small in
    let one : get_or l 0 0 ≡ set_of_bits (take m l) = sym (ap (λ (x : ℕ). set_of_bits (take x l)) (short-string k (omega arith)) ∙ number-first l) in
    let even : set_of_bits (take m l) % 2 ≡ 0 = first-odd m l (some_byte k) ∙ c.if-first-ne0.false in
    let top : 1 * 2 ^ n % 2 ^ 64 ≡ 2 ^ 2 ^ k
    = shl_exact 1 n 64 (omega arith) (omega (arith, e, pow_mono {i = k} {j = 2} (omega arith))) ∙ one-mul (2 ^ n) ∙ ap (λ (x : ℕ). 2 ^ x) e in
    rw (eq-eqb (set_of_bits (take m l) % 2) 0 even) (ap₂ ltb one top)

pub returns-then-self-ge3 : goal.returns-then-self-ge3
returns-then-self-ge3 c =
    let k : ℕ = c.args.self.k in
    let l : List ℕ = c.args.self.bytes.now in
    let m : ℕ = byte_count (2 ^ k) in
    let fits : m ≤ length l = c.args.self.long in
    let long : length (take m l) ≡ m = length-take-le m l fits in
    let even : set_of_bits (take m l) % 2 ≡ 0 = first-odd m l (some_byte k) ∙ c.if-first-ne0.false in
    le-leb 3 k c.if-self-ge3.true ∙ sym (forks-only k (set_of_bits (take m l)) even (long-string k (take m l) c.if-self-ge3.true c.args.self.octets long))
