-- `order_file::check::judge_string` meets its contract: the order's own string is made, which judges the order, and compared.
use mathlib.Core.Path.{◌≡◌, refl, sym, ap, ap₂, ◌∙◌}
use mathlib.Core.Bool.{Bool, true, false, not}
use mathlib.Core.List.{List}
use Prim.Native.Nat.{ℕ, ◌^◌}
use lib.Dec.{eqb}
use lib.ListN.{take, replicate}
use lib.Pointwise.{pointwise}
use Rattle.std.proofs.lemmas.Result.{err_from_is_err_and}
use Rattle.base.specs.Outcome.{done, over}
use Rattle.base.proofs.Outcome.{over-front}
use Rattle.records.proofs.FieldLaws.{length-bytes_of}
use Rattle.orders.specs.Same.{alike}
use Rattle.orders.specs.Allowed.{forks_of}
use Rattle.orders.specs.Bits.{byte_count, bit_string}
use Rattle.orders.specs.Lent.{order_in, JudgedOrder}
use Rattle.orders.proofs.Same.{alike-slices}
use Rattle.orders.proofs.Size.{byte_count-is}
use Rattle.orders.proofs.Calls.{bits-told, when-bits, bits-order}
use Rattle.order_file.proofs.Sizes.{true-sizes}
use Rattle.order_file.proofs.Calls.{string-order, string-other, string-good}
use Rattle.order_file.proofs.check.judge_string.Goals as goal

-- what was compared
compared : (k m : ℕ) (bits own room : List ℕ) (F : ℕ) (t : Bool) → m ≡ byte_count (2 ^ k) → own ≡ over (bit_string k F) room → t ≡ alike (take m bits) (take m own)
    → alike (take (byte_count (2 ^ k)) bits) (bit_string k F) ≡ t
compared k m bits own room F t e f g =
    sym (g ∙ ap₂ (λ (x : ℕ) (y : List ℕ). alike (take x bits) (take x y)) e f
    ∙ ap (alike (take (byte_count (2 ^ k)) bits)) (over-front (byte_count (2 ^ k)) (bit_string k F) room (length-bytes_of (byte_count (2 ^ k)) F)))

-- what `!=` of two slices tells
differs : (r : Bool) (a b : List ℕ) (t : Bool) → r ≡ not (pointwise eqb a b) → r ≡ t → not t ≡ alike a b
differs r a b t e f = sym (ap not (sym e ∙ f)) ∙ twice (pointwise eqb a b) ∙ alike-slices a b
  where
    twice : (x : Bool) → not (not x) ≡ x
    twice true = refl
    twice false = refl

pub returns-in_err-fork_bits : goal.returns-in_err-fork_bits
returns-in_err-fork_bits c =
    let p = err_from_is_err_and c.from_residual.result c.from_residual.ensures.1 in
    let t = bits-told _ _ _ _ _ c.in_err-fork_bits.ensures in
    rw (p.1, p.2) (sym (ap done (string-order _ _ _ _ (bits-order _ _ _ _ c.requires.0 c.requires.1 (true-sizes c.args.k c.requires.0).few t))))

pub returns-then-ne : goal.returns-then-ne
returns-then-ne c =
    let made : let a = c.args in JudgedOrder a.k a.stops.now × (c.fork_bits.new.bits ≡ over (bit_string a.k (forks_of a.k (order_in a.k a.stops.now))) (replicate 128 0)) = when-bits _ _ _ _ c.in_ok-fork_bits.ensures in
    let count : c.byte_count-count.result ≡ byte_count (2 ^ c.args.k) = c.byte_count-count.ensures ∙ byte_count-is _ c.requires.0 in
    let same = compared _ _ _ _ _ _ false count made.1 (differs _ _ _ true c.ne.ensures c.if-ne.true) in
    sym (ap done (string-other _ _ _ made.0.allowed same))

pub returns : goal.returns
returns c =
    let made : let a = c.args in JudgedOrder a.k a.stops.now × (c.fork_bits.new.bits ≡ over (bit_string a.k (forks_of a.k (order_in a.k a.stops.now))) (replicate 128 0)) = when-bits _ _ _ _ c.in_ok-fork_bits.ensures in
    let count : c.byte_count-count.result ≡ byte_count (2 ^ c.args.k) = c.byte_count-count.ensures ∙ byte_count-is _ c.requires.0 in
    let same = compared _ _ _ _ _ _ true count made.1 (differs _ _ _ false c.ne.ensures c.if-ne.false) in
    sym (ap done (string-good _ _ _ made.0.allowed same))
