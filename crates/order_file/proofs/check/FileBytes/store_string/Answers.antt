-- `order_file::check::FileBytes::store_string` meets its contract: the bytes passed are the file's own.
use mathlib.Core.Path.{◌≡◌, refl, ap, ap₂, ◌∙◌}
use mathlib.Core.List.{List}
use Prim.Native.Nat.{ℕ, ◌+◌, ◌^◌, ◌≤◌, ◌<◌}
use native.Mathlib.Omega.{arith}
use lib.ListN.{length, get_or, set, take, drop, length-drop}
use lib.Seq.{length-take-le}
use Rattle.base.specs.Outcome.{over}
use Rattle.base.specs.Size.{stop_count}
use Rattle.orders.specs.Bits.{byte_count}
use Rattle.orders.proofs.Filled.{copied-more, copied-front}
use Rattle.orders.proofs.Size.{byte_count-is}
use Rattle.order_file.specs.File.{forks_place}
use Rattle.order_file.proofs.check.FileBytes.store_string.Goals as goal

there : (m at : ℕ) (file part : List ℕ) → part ≡ drop at file → at + m ≤ length file → m ≤ length part
there m at file part e h = rw (e, length-drop) (omega arith)

pub loop-i-init : goal.loop-i-init
loop-i-init c = refl

-- the string is long enough
long-enough : (k count : ℕ) (bits file string : List ℕ) → k ≤ 10 → count ≡ byte_count (stop_count k) → string ≡ drop (4 + forks_place (2 ^ k)) file → 4 + forks_place (2 ^ k) + byte_count (2 ^ k) ≤ length file → byte_count (2 ^ k) ≤ length bits
    → (count ≡ byte_count (2 ^ k)) × (count ≤ length string) × (length (take count bits) ≡ count)
long-enough k count bits file string small e f a b =
    let c : count ≡ byte_count (2 ^ k) = e ∙ byte_count-is k small in
    (c, rw c (there _ _ file string f a), length-take-le count bits (omega arith))

pub bounds-string-i : goal.bounds-string-i
bounds-string-i c =
    let w = long-enough c.args.self.k c.byte_count.result c.args.bits.now c.args.self.bytes.now c.string-string.result.now c.args.self.small c.byte_count.ensures c.string-string.ensures c.requires.1 c.requires.0 in
    omega (arith, w.1, w.2, c.loop-i-test.true)

pub loop-i-preserved : goal.loop-i-preserved
loop-i-preserved c =
    let l = c.loop-i in
    let string : List ℕ = c.string-string.result.now in
    let w = long-enough c.args.self.k c.byte_count.result c.args.bits.now c.args.self.bytes.now string c.args.self.small c.byte_count.ensures c.string-string.ensures c.requires.1 c.requires.0 in
    ap (λ (x : List ℕ). set x l.i (get_or string l.i 0)) l.invariant
    ∙ copied-more (take c.byte_count.result c.args.bits.now) string l.i (get_or string l.i 0) 0 c.loop-i-test.true (omega (arith, w.1, w.2, c.loop-i-test.true)) refl

pub returns : goal.returns
returns c =
    let l = c.loop-i in
    let string : List ℕ = c.string-string.result.now in
    let w = long-enough c.args.self.k c.byte_count.result c.args.bits.now c.args.self.bytes.now string c.args.self.small c.byte_count.ensures c.string-string.ensures c.requires.1 c.requires.0 in
    copied-front c.byte_count.result l.i string l.byte-items c.args.bits.now (omega (arith, w.0, c.requires.0)) w.1 (omega (arith, w.2, c.loop-i-test.false, l.auto.i-end)) l.invariant
    ∙ ap₂ (λ (m : ℕ) (s : List ℕ). over (take m s) c.args.bits.now) w.0 c.string-string.ensures
