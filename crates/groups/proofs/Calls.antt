-- The laws of calls after one another, by their promises alone: what anybody has who calls `orders::exchange`, hands its output to the next
-- call as the order, and lets nobody else write that buffer in between.
use mathlib.Core.Path.{◌≡◌, refl, sym, ap, ◌∙◌}
use mathlib.Core.Bool.{true}
use mathlib.Core.List.{List}
use Prim.Native.Nat.{ℕ, ◌^◌, ◌≤◌, ◌<◌}
use native.Mathlib.Omega.{arith}
use lib.Bits.{bit_xor}
use lib.ListN.{length, take}
use lib.Pow.{pow_pos}
use lib.Seq.{take_all, length-take-le}
use Rattle.std.specs.Prelude.{Result, Ok}
use Rattle.base.specs.declared.Refusal.{Refusal}
use Rattle.base.specs.Outcome.{over}
use Rattle.base.proofs.Outcome.{over-front}
use Rattle.records.specs.Field.{are_bytes}
use Rattle.records.proofs.FieldLaws.{length-bytes_of, are_bytes-take}
use Rattle.tree.specs.Fork.{side}
use Rattle.orders.specs.Bits.{byte_count, bit_string, set_of_bits, only_forks}
use Rattle.orders.specs.Exchange.{exchange, inverted, OrderIsExchanged}
use Rattle.orders.specs.Lent.{order_in, forks_in, JudgedOrder}
use Rattle.orders.proofs.Bits.{only-forks, forks-only, set-of-string, string-of-set}
use Rattle.orders.proofs.Exchanged.{JudgedExchange, when-exchanged, exchanged-when}
use Rattle.orders.proofs.Inverted.{length-inverted, set-inverted}
use Rattle.orders.proofs.Lent.{holds-order}
use Rattle.groups.specs.Exchange.{leading}
use Rattle.groups.specs.Group.{group_size, group_start}
use Rattle.groups.specs.Swap.{BlocksSwapped}
use Rattle.groups.proofs.Exchange.{xor-forks, fork-forks, exchange-allowed, length-exchange, exchange-twice, exchange-either, exchange-none, exchange-back, leading-forks, leading-leads, leading-only}
use Rattle.groups.proofs.Sides.{sides-swap}

-- ---- strings

-- the string of a set says it
forks-string : (k F : ℕ) → only_forks k F ≡ true → forks_in k (bit_string k F) ≡ F
forks-string k F h =
    let m : ℕ = byte_count (2 ^ k) in
    ap set_of_bits (take_all m (bit_string k F) (omega (arith, length-bytes_of m F))) ∙ set-of-string k F (only-forks k F h).1

-- the exclusive or of two strings says the symmetric difference of their sets
forks-inverted : (k : ℕ) (X Y : List ℕ) → are_bytes X ≡ true → are_bytes Y ≡ true → byte_count (2 ^ k) ≤ length X → byte_count (2 ^ k) ≤ length Y
    → forks_in k (inverted (byte_count (2 ^ k)) X Y) ≡ bit_xor (forks_in k X) (forks_in k Y)
forks-inverted k X Y a b x y =
    let m : ℕ = byte_count (2 ^ k) in
    ap set_of_bits (take_all m (inverted m X Y) (omega (arith, length-inverted m X Y)))
    ∙ set-inverted m X Y (are_bytes-take m X a) (are_bytes-take m Y b) x y

-- ---- one call

-- what is known of a call that was accepted: its output passes as an order, and is the exchanged one
record Exchanged (k : ℕ) (order bits room out : List ℕ) : Type 0 where
  pub judged : JudgedExchange k order bits (length room)
  pub stops : order_in k out ≡ exchange k (order_in k order) (forks_in k bits)
  pub again : JudgedOrder k out

exchanged : (k : ℕ) (order bits room out : List ℕ) → OrderIsExchanged k order bits room out (Ok tt) → Exchanged k order bits room out
exchanged k order bits room out p =
    let w = when-exchanged k order bits room out p in
    let o : List ℕ = order_in k order in
    let X : ℕ = forks_in k bits in
    record {
      judged = w.0;
      stops = rw w.1 (over-front (2 ^ k) (exchange k o X) room (length-exchange k o X));
      again = rw w.1 (holds-order k (exchange k o X) room w.0.stops.small (exchange-allowed k o X));
    }

-- what holds of a call on an order that passes, with a string of forks and a long enough output: it is accepted, and makes the order u
module _ (k : ℕ) (order bits room out : List ℕ) (r : Result Unit Refusal) where
  makes : (u : List ℕ) → JudgedOrder k order → byte_count (2 ^ k) ≤ length bits → only_forks k (forks_in k bits) ≡ true → 2 ^ k ≤ length room
      → exchange k (order_in k order) (forks_in k bits) ≡ u → OrderIsExchanged k order bits room out r → (r ≡ Ok tt) × (out ≡ over u room)
  makes u j long only fits e p =
      let w = exchanged-when k order bits room out r (record { stops = j; forks = record { small = j.small; long = long; places = fits; only = only } }) p in
      (w.0, w.1 ∙ ap (λ (l : List ℕ). over l room) e)

-- the empty set changes nothing
pub exchanged-none : (k : ℕ) (order bits room out : List ℕ) (r : Result Unit Refusal) → JudgedOrder k order → byte_count (2 ^ k) ≤ length bits → forks_in k bits ≡ 0
    → 2 ^ k ≤ length room → OrderIsExchanged k order bits room out r → (r ≡ Ok tt) × (out ≡ over (order_in k order) room)
exchanged-none k order bits room out r j long e fits p =
    makes k order bits room out r (order_in k order) j long (rw e (forks-only k 0 refl (pow_pos (2 ^ k)))) fits
    (rw e (exchange-none k (order_in k order) j.allowed)) p

-- ---- two calls

module _ (k : ℕ) (order X room first : List ℕ) (call : OrderIsExchanged k order X room first (Ok tt)) where
  -- 'one set followed by another equals their symmetric difference': after two accepted calls one call with the exclusive or of the two
  -- strings is accepted, and makes the same order
  pub exchanged-twice : (Y room₂ second room₃ whole : List ℕ) (r : Result Unit Refusal) → are_bytes X ≡ true → are_bytes Y ≡ true
      → OrderIsExchanged k first Y room₂ second (Ok tt) → 2 ^ k ≤ length room₃ → OrderIsExchanged k order (inverted (byte_count (2 ^ k)) X Y) room₃ whole r
      → (r ≡ Ok tt) × (whole ≡ over (order_in k second) room₃)
  exchanged-twice Y room₂ second room₃ whole r a b call₂ fits p =
      let f = exchanged k order X room first call in
      let g = exchanged k first Y room₂ second call₂ in
      let m : ℕ = byte_count (2 ^ k) in
      let set = forks-inverted k X Y a b f.judged.forks.long g.judged.forks.long in
      makes k order (inverted m X Y) room₃ whole r (order_in k second) f.judged.stops (omega (arith, length-inverted m X Y))
      (rw set (xor-forks k (forks_in k X) (forks_in k Y) f.judged.forks.only g.judged.forks.only)) fits
      (rw (set, g.stops, f.stops) (sym (exchange-twice k (order_in k order) (forks_in k X) (forks_in k Y)))) p

  -- 'either may come first': after two accepted calls the same strings in the other sequence are accepted too, and make the same order
  pub exchanged-either : (Y room₂ second room₃ third room₄ fourth : List ℕ) (r s : Result Unit Refusal) → OrderIsExchanged k first Y room₂ second (Ok tt)
      → 2 ^ k ≤ length room₃ → OrderIsExchanged k order Y room₃ third r → 2 ^ k ≤ length room₄ → OrderIsExchanged k third X room₄ fourth s
      → (r ≡ Ok tt) × (s ≡ Ok tt) × (fourth ≡ over (order_in k second) room₄)
  exchanged-either Y room₂ second room₃ third room₄ fourth r s call₂ fits₃ p fits₄ q =
      let f = exchanged k order X room first call in
      let g = exchanged k first Y room₂ second call₂ in
      let o : List ℕ = order_in k order in
      let y : ℕ = forks_in k Y in
      let w = makes k order Y room₃ third r (exchange k o y) f.judged.stops g.judged.forks.long g.judged.forks.only fits₃ refl p in
      let t = exchanged k order Y room₃ third (rw w.0 at p) in
      let z = makes k third X room₄ fourth s (order_in k second) t.again f.judged.forks.long f.judged.forks.only fits₄
      (rw (t.stops, g.stops, f.stops) (exchange-either k o y (forks_in k X))) q in
      (w.0, z.0, z.1)

  -- 'a set used twice gives the order back'
  pub exchanged-back : (room₂ second : List ℕ) (r : Result Unit Refusal) → 2 ^ k ≤ length room₂ → OrderIsExchanged k first X room₂ second r
      → (r ≡ Ok tt) × (second ≡ over (order_in k order) room₂)
  exchanged-back room₂ second r fits p =
      let f = exchanged k order X room first call in
      makes k first X room₂ second r (order_in k order) f.again f.judged.forks.long f.judged.forks.only fits
      (rw f.stops (exchange-back k (order_in k order) f.judged.stops.allowed (forks_in k X))) p

-- ---- from one order to another

module _ (k : ℕ) (order other : List ℕ) (from : JudgedOrder k order) (to : JudgedOrder k other) where
  -- 'from any allowed order exactly one set leads to any other': the call with the string of that set is accepted, and makes the other order
  pub exchanged-leads : (room out : List ℕ) (r : Result Unit Refusal) → 2 ^ k ≤ length room
      → OrderIsExchanged k order (bit_string k (leading k (order_in k order) (order_in k other))) room out r → (r ≡ Ok tt) × (out ≡ over (order_in k other) room)
  exchanged-leads room out r fits p =
      let o : List ℕ = order_in k order in
      let u : List ℕ = order_in k other in
      let only = leading-forks k o from.allowed u to.allowed in
      let set = forks-string k (leading k o u) only in
      makes k order (bit_string k (leading k o u)) room out r u from (omega (arith, length-bytes_of (byte_count (2 ^ k)) (leading k o u))) (rw set only) fits
      (rw set (leading-leads k o from.allowed u to.allowed)) p

  -- and a call that made the other order had that string
  pub exchanged-only : (bits room out : List ℕ) → are_bytes bits ≡ true → OrderIsExchanged k order bits room out (Ok tt) → order_in k out ≡ order_in k other
      → take (byte_count (2 ^ k)) bits ≡ bit_string k (leading k (order_in k order) (order_in k other))
  exchanged-only bits room out bytes p e =
      let f = exchanged k order bits room out p in
      let m : ℕ = byte_count (2 ^ k) in
      let set = leading-only k (order_in k order) from.allowed (order_in k other) to.allowed (forks_in k bits) f.judged.forks.only (sym f.stops ∙ e) in
      sym (string-of-set k (take m bits) (are_bytes-take m bits bytes) (length-take-le m bits f.judged.forks.long)) ∙ ap (bit_string k) set

-- ---- one fork

-- the call with the string of fork v alone is accepted, and swaps the blocks of places of its two sides
pub exchanged-fork : (k : ℕ) (order : List ℕ) (v : ℕ) (room out : List ℕ) (r : Result Unit Refusal) → JudgedOrder k order → 1 ≤ v → v < 2 ^ k
    → 2 ^ k ≤ length room → OrderIsExchanged k order (bit_string k (2 ^ v)) room out r
    → (r ≡ Ok tt) × BlocksSwapped (2 ^ k) (group_start k (order_in k order) (side v 0)) (group_start k (order_in k order) (side v 1)) (group_size k (side v 0)) (order_in k order) (order_in k out)
exchanged-fork k order v room out r j low high fits p =
    let o : List ℕ = order_in k order in
    let only = fork-forks k v low high in
    let set = forks-string k (2 ^ v) only in
    let w = makes k order (bit_string k (2 ^ v)) room out r (exchange k o (2 ^ v)) j (omega (arith, length-bytes_of (byte_count (2 ^ k)) (2 ^ v))) (rw set only) fits
    (rw set) p in
    (w.0, rw (w.1, over-front (2 ^ k) (exchange k o (2 ^ v)) room (length-exchange k o (2 ^ v))) (sides-swap k o j.allowed v low high))
