-- Laws of the calls: what each promises after a refusal and after success, and what a caller learns from its answer.
use mathlib.Core.Path.{◌≡◌, refl, sym, ap, ◌∙◌}
use mathlib.Core.Bool.{true}
use mathlib.Core.List.{List}
use Prim.Native.Nat.{ℕ, ◌*◌, ◌^◌, ◌≤◌}
use native.Mathlib.Omega.{arith}
use lib.Dec.{leb, eqb}
use lib.ListN.{length}
use borrow.Author.Tests.{le-leb, leb-true}
use Rattle.std.specs.Prelude.{Result, Ok, Err}
use Rattle.base.specs.declared.Refusal.{Refusal}
use Rattle.base.specs.Refusal.{refusal_number, wrong_k, wrong_size}
use Rattle.base.specs.Outcome.{Outcome, gives, refuses, giving, done, said, number, over}
use Rattle.base.specs.Size.{max_k, stop_count}
use Rattle.base.proofs.Size.{stop_count-pow}
use Rattle.base.proofs.Outcome.{passed, number-giving, refused-giving, giving-giving}
use Rattle.tree.specs.Order.{order_of}
use Rattle.tree.specs.Total.{entry, total}
use Rattle.orders.specs.Allowed.{forks_of, judge_order}
use Rattle.orders.specs.Bits.{byte_count, bit_string, only_forks, judge_forks}
use Rattle.orders.specs.Lent.{order_in, forks_in, order_fits, bits_fit, table_fits, lent_order, JudgedOrder}
use Rattle.orders.specs.ForkBits as bits
use Rattle.orders.specs.OrderOfBits as order
use Rattle.orders.specs.OrderTotal as sum
use Rattle.orders.proofs.Bits.{judge-forks, judged-forks}
use Rattle.orders.proofs.Lent.{lent-contents, lent-judged, lent_gives, lent_same}
use Rattle.orders.proofs.Size.{byte_count-is}

-- an answer without a value that says 'done' tells that nothing was refused
pub done-number : {A : Type 0} (o : Outcome A) → gives tt ≡ done o → number o ≡ 0
done-number o e = sym (number-giving (λ a. tt) o) ∙ sym (ap number e)

-- one that says a refusal tells that this was refused
pub done-refused : {A : Type 0} (o : Outcome A) (n : ℕ) → refuses n ≡ done o → o ≡ refuses n
done-refused o n e = refused-giving (λ a. tt) o n (sym e)

-- and one that says 'done' is `Ok`
pub only-ok : (r : Result Unit Refusal) → said r ≡ gives tt → r ≡ Ok tt
only-ok (Ok u) e = refl
only-ok (Err n) e = let z : ◌≡◌ {A = ℕ} 0 1 = cc in absurd (omega arith)

-- ---- fork bits of an order

module _ (k : ℕ) (order : List ℕ) (room : ℕ) where
  -- what it says, with the bytes of a string as code has them
  pub bits-done : (count : ℕ) → count ≡ byte_count (stop_count k) → done (lent_order k order (leb count room)) ≡ done (bits.fork_bits k order room)
  unfolding bits.fork_bits
  bits-done count e =
      ap done (lent_same k order (leb count room) (bits_fit k room) (λ h. ap (λ (x : ℕ). leb x room) (e ∙ byte_count-is k h)))
      ∙ sym (giving-giving (λ o. bit_string k (forks_of k o)) (λ a. tt) (lent_order k order (bits_fit k room)))

  -- what an accepted order has
  pub bits-judged : number (bits.fork_bits k order room) ≡ 0 → JudgedOrder k order × (byte_count (2 ^ k) ≤ room)
  unfolding bits.fork_bits
  bits-judged e =
      let w = lent-judged k order (bits_fit k room) (sym (number-giving (λ o. bit_string k (forks_of k o)) (lent_order k order (bits_fit k room))) ∙ e) in
      (w.0, leb-true _ _ w.1)

  -- and gives
  pub bits-given : JudgedOrder k order → byte_count (2 ^ k) ≤ room → bits.fork_bits k order room ≡ gives (bit_string k (forks_of k (order_in k order)))
  unfolding bits.fork_bits
  bits-given j fits = rw (lent_gives k order (bits_fit k room) j (le-leb _ _ fits))

  -- with long enough buffers a refusal is the order's
  pub bits-order : (n : ℕ) → k ≤ max_k → 2 ^ k ≤ length order → byte_count (2 ^ k) ≤ room → bits.fork_bits k order room ≡ refuses n → judge_order k (order_in k order) ≡ refuses n
  unfolding bits.fork_bits
  bits-order n h long fits e =
      sym (lent-contents k order (bits_fit k room) h long (le-leb _ _ fits))
      ∙ refused-giving (λ o. bit_string k (forks_of k o)) (lent_order k order (bits_fit k room)) n e

module _ (k : ℕ) (order before : List ℕ) where
  -- fork bits that are refused
  pub bits-refused : (r : Refusal) → refuses (refusal_number r) ≡ done (bits.fork_bits k order (length before)) → bits.BitsAreMade k order before before (Err r)
  bits-refused r e = let o = done-refused (bits.fork_bits k order (length before)) (refusal_number r) e in record { said = e; left = rw o }

  -- for callers: what an answer tells, and when the bits are made
  module _ (afterwards : List ℕ) where
    pub bits-told : (n : Refusal) → bits.BitsAreMade k order before afterwards (Err n) → bits.fork_bits k order (length before) ≡ refuses (refusal_number n)
    bits-told n p = done-refused (bits.fork_bits k order (length before)) (refusal_number n) p.said

    pub when-bits : bits.BitsAreMade k order before afterwards (Ok tt)
        → JudgedOrder k order × (afterwards ≡ over (bit_string k (forks_of k (order_in k order))) before)
    when-bits p =
        let j = bits-judged k order (length before) (done-number (bits.fork_bits k order (length before)) p.said) in
        (j.0, p.left ∙ rw (bits-given k order (length before) j.0 j.1))

    pub bits-when : (r : Result Unit Refusal) → JudgedOrder k order → byte_count (2 ^ k) ≤ length before → bits.BitsAreMade k order before afterwards r
        → (r ≡ Ok tt) × (afterwards ≡ over (bit_string k (forks_of k (order_in k order))) before)
    bits-when r j fits p =
        let o = bits-given k order (length before) j fits in
        (only-ok r (p.said ∙ rw o), p.left ∙ rw o)

-- ---- the order of fork bits

module _ (k : ℕ) (string : List ℕ) (room : ℕ) where
  -- what is known of an accepted string
  pub record JudgedForks : Type 0 where
    pub small : k ≤ max_k
    pub long : byte_count (2 ^ k) ≤ length string
    pub places : 2 ^ k ≤ room
    pub only : only_forks k (forks_in k string) ≡ true

  pub order-given : JudgedForks → order.order_of_bits k string room ≡ gives (order_of k (forks_in k string))
  unfolding order.order_of_bits
  order-given j = rw (le-leb _ _ j.small, le-leb _ _ j.long, le-leb _ _ j.places, judge-forks k (forks_in k string) j.only)

  pub order-judged : number (order.order_of_bits k string room) ≡ 0 → JudgedForks
  unfolding order.order_of_bits
  order-judged e =
      let small = passed (leb k max_k) wrong_k _ (omega arith) e in
      let long = passed (bits_fit k (length string)) wrong_size _ (omega arith) small.goes_on in
      let places = passed (order_fits k room) wrong_size (giving (order_of k) (judge_forks k (forks_in k string))) (omega arith) long.goes_on in
      record {
        small = leb-true _ _ small.holds;
        long = leb-true _ _ long.holds;
        places = leb-true _ _ places.holds;
        only = judged-forks k (forks_in k string) (sym (number-giving (order_of k) (judge_forks k (forks_in k string))) ∙ places.goes_on);
      }

module _ (k : ℕ) (string before : List ℕ) where
  -- an order that is refused
  pub order-refused : (r : Refusal) → refuses (refusal_number r) ≡ done (order.order_of_bits k string (length before)) → order.OrderIsMade k string before before (Err r)
  order-refused r e = let o = done-refused (order.order_of_bits k string (length before)) (refusal_number r) e in record { said = e; left = rw o }

  -- an order that is made
  pub order-made : (afterwards : List ℕ) → JudgedForks k string (length before) → afterwards ≡ over (order_of k (forks_in k string)) before
      → order.OrderIsMade k string before afterwards (Ok tt)
  order-made afterwards j w = let o = order-given k string (length before) j in record { said = rw o; left = rw o w }

  -- for callers: what an answer tells, and when the order is made
  module _ (afterwards : List ℕ) where
    pub when-order : order.OrderIsMade k string before afterwards (Ok tt)
        → JudgedForks k string (length before) × (afterwards ≡ over (order_of k (forks_in k string)) before)
    when-order p =
        let j = order-judged k string (length before) (done-number (order.order_of_bits k string (length before)) p.said) in
        (j, p.left ∙ rw (order-given k string (length before) j))

    pub order-when : (r : Result Unit Refusal) → JudgedForks k string (length before) → order.OrderIsMade k string before afterwards r
        → (r ≡ Ok tt) × (afterwards ≡ over (order_of k (forks_in k string)) before)
    order-when r j p =
        let o = order-given k string (length before) j in
        (only-ok r (p.said ∙ rw o), p.left ∙ rw o)

-- ---- the total of an order

module _ (k : ℕ) (order table : List ℕ) where
  -- the test of the lengths, with n as code has it
  pub total-lent : (n : ℕ) → n ≡ stop_count k → lent_order k order (eqb (length table) (n * n)) ≡ lent_order k order (table_fits k (length table))
  total-lent n e =
      lent_same k order (eqb (length table) (n * n)) (table_fits k (length table)) (λ h. ap (λ (x : ℕ). eqb (length table) (x * x)) (e ∙ stop_count-pow k h))

  pub total-refused : (n : ℕ) → refuses n ≡ done (lent_order k order (table_fits k (length table))) → refuses n ≡ sum.order_total k order table
  unfolding sum.order_total
  total-refused n e = rw (done-refused (lent_order k order (table_fits k (length table))) n e)

  pub total-given : (t : ℕ) → number (lent_order k order (table_fits k (length table))) ≡ 0 → t ≡ total (entry (2 ^ k) table) (order_in k order)
      → gives t ≡ sum.order_total k order table
  unfolding sum.order_total
  total-given t e a =
      let j = lent-judged k order (table_fits k (length table)) e in
      rw (lent_gives k order (table_fits k (length table)) j.0 j.1) (ap gives a)
