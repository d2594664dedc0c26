-- The two calls undo each other: the bits of an allowed order give that order again, and the order of fork bits gives those bits.
use mathlib.Core.Path.{◌≡◌, ap, ◌∙◌}
use mathlib.Core.Bool.{true}
use mathlib.Core.List.{List}
use Prim.Native.Nat.{ℕ, ◌^◌, ◌≤◌}
use lib.ListN.{length, take}
use lib.Seq.{length-take-le}
use Rattle.base.specs.Outcome.{over}
use Rattle.base.proofs.Outcome.{over-front, over-long}
use Rattle.records.specs.Field.{are_bytes}
use Rattle.records.proofs.FieldLaws.{length-bytes_of, are_bytes-take}
use Rattle.tree.specs.Order.{order_of}
use Rattle.tree.proofs.Link.{length-order_of}
use Rattle.std.specs.Prelude.{Result, Ok}
use Rattle.base.specs.declared.Refusal.{Refusal}
use Rattle.orders.specs.Allowed.{forks_of}
use Rattle.orders.specs.Bits.{byte_count, bit_string}
use Rattle.orders.specs.Lent.{order_in, forks_in, JudgedOrder}
use Rattle.orders.specs.ForkBits.{BitsAreMade}
use Rattle.orders.specs.OrderOfBits.{OrderIsMade}
use Rattle.orders.proofs.Allowed.{forks_of-gives, forks_of-order_of, order_of-allowed}
use Rattle.orders.proofs.Bits.{only-forks, forks-only, set-of-string, string-of-set}
use Rattle.orders.proofs.Lent.{holds-order}
use Rattle.orders.proofs.Calls.{JudgedForks, when-bits, bits-when, when-order, order-when}

-- fork bits that were made, handed to the second call with a buffer that is long enough, give the order again
pub made_again : (k : ℕ) (order room string buffer afterwards : List ℕ) (r : Result Unit Refusal) → BitsAreMade k order room string (Ok tt)
    → 2 ^ k ≤ length buffer → OrderIsMade k string buffer afterwards r → (r ≡ Ok tt) × (afterwards ≡ over (order_in k order) buffer)
made_again k order room string buffer afterwards r first fits second =
    let made = when-bits k order room string first in
    let o : List ℕ = order_in k order in
    let F : ℕ = forks_of k o in
    let g = forks_of-gives k o made.0.allowed in
    let size : length (bit_string k F) ≡ byte_count (2 ^ k) = length-bytes_of (byte_count (2 ^ k)) F in
    let set : forks_in k string ≡ F = rw (made.1, over-front (byte_count (2 ^ k)) (bit_string k F) room size) (set-of-string k F g.small) in
    let good : JudgedForks k string (length buffer) = record {
      small = made.0.small;
      long = rw made.1 (over-long (byte_count (2 ^ k)) (bit_string k F) room size);
      places = fits;
      only = rw set (forks-only k F g.even g.small);
    } in
    let again = order-when k string buffer afterwards r good second in
    (again.0, again.1 ∙ ap (λ (x : List ℕ). over x buffer) (ap (order_of k) set ∙ g.given))

-- and the order that was made gives the bits again
pub bits-made-again : (k : ℕ) (bits room order buffer afterwards : List ℕ) (r : Result Unit Refusal) → are_bytes bits ≡ true → OrderIsMade k bits room order (Ok tt)
    → byte_count (2 ^ k) ≤ length buffer → BitsAreMade k order buffer afterwards r
    → (r ≡ Ok tt) × (afterwards ≡ over (take (byte_count (2 ^ k)) bits) buffer)
bits-made-again k bits room order buffer afterwards r bytes first fits second =
    let made = when-order k bits room order first in
    let F : ℕ = forks_in k bits in
    let m : ℕ = byte_count (2 ^ k) in
    let only = only-forks k F made.0.only in
    let good : JudgedOrder k order = rw made.1 (holds-order k (order_of k F) room made.0.small (order_of-allowed k F)) in
    let front : order_in k order ≡ order_of k F = rw made.1 (over-front (2 ^ k) (order_of k F) room (length-order_of k F)) in
    let again = bits-when k order buffer afterwards r good fits second in
    let string : bit_string k (forks_of k (order_in k order)) ≡ take m bits
    = rw (front, forks_of-order_of k F only.0 only.1) (string-of-set k (take m bits) (are_bytes-take m bits bytes) (length-take-le m bits made.0.long)) in
    (again.0, again.1 ∙ ap (λ (x : List ℕ). over x buffer) string)
