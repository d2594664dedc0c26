-- Laws of the call that exchanges forks: what it promises after a refusal and after success, and what a caller learns from its answer.
use mathlib.Core.Path.{◌≡◌, sym, ap, ◌∙◌}
use mathlib.Core.Bool.{Bool, true, ◌&&◌}
use mathlib.Core.List.{List}
use Prim.Native.Nat.{ℕ, ◌^◌, ◌≤◌}
use lib.Dec.{leb}
use lib.ListN.{length}
use borrow.Author.Tests.{le-leb, leb-true}
use Rattle.std.specs.Prelude.{Result, Ok, Err}
use Rattle.base.specs.declared.Refusal.{Refusal}
use Rattle.base.specs.Refusal.{refusal_number}
use Rattle.base.specs.Outcome.{Outcome, gives, refuses, giving, done, number, over}
use Rattle.base.specs.Size.{stop_count}
use Rattle.base.proofs.Bools.{both}
use Rattle.base.proofs.Outcome.{number-giving, number-first}
use Rattle.base.proofs.Size.{stop_count-pow}
use Rattle.orders.specs.Bits.{byte_count, only_forks, judge_forks}
use Rattle.orders.specs.Lent.{order_in, forks_in, order_fits, bits_fit, lent_order, JudgedOrder}
use Rattle.orders.specs.Exchange.{exchange, exchange_lent, OrderIsExchanged}
use Rattle.orders.proofs.Bits.{judge-forks, judged-forks}
use Rattle.orders.proofs.Lent.{lent-judged, lent_gives, lent_same}
use Rattle.orders.proofs.Calls.{JudgedForks, done-number, done-refused, only-ok}

module _ (k : ℕ) (order bits : List ℕ) (room : ℕ) where
  -- the test of the other lengths, and the order judged with it
  abbrev others : Bool
  others = bits_fit k (length bits) && order_fits k room

  abbrev pub order_judged : Outcome (List ℕ)
  order_judged = lent_order k order others

  -- as code has it
  pub exchange-fits : (fits : Bool) → fits ≡ (leb (byte_count (stop_count k)) (length bits) && leb (stop_count k) room)
      → lent_order k order fits ≡ order_judged
  exchange-fits fits e = lent_same k order fits others (λ h. rw (← stop_count-pow k h) e)

  -- what is known of an order that is not refused
  pub exchange-order : number order_judged ≡ 0 → JudgedOrder k order × (byte_count (2 ^ k) ≤ length bits) × (2 ^ k ≤ room)
  exchange-order e =
      let j = lent-judged k order others e in
      let fits = both (bits_fit k (length bits)) (order_fits k room) j.1 in
      (j.0, leb-true _ _ fits.0, leb-true _ _ fits.1)

  -- then the set decides
  set-decides : number order_judged ≡ 0 → exchange_lent k order bits room ≡ giving (exchange k (order_in k order)) (judge_forks k (forks_in k bits))
  unfolding exchange_lent
  set-decides e = let j = lent-judged k order others e in rw (lent_gives k order others j.0 j.1)

  -- what is known of an accepted call
  pub record JudgedExchange : Type 0 where
    pub stops : JudgedOrder k order
    pub forks : JudgedForks k bits room

  pub exchange-accepts : number order_judged ≡ 0 → only_forks k (forks_in k bits) ≡ true → JudgedExchange
  exchange-accepts e f =
      let j = exchange-order e in
      record { stops = j.0; forks = record { small = j.0.small; long = j.1; places = j.2; only = f } }

  pub exchange-judged : number (exchange_lent k order bits room) ≡ 0 → JudgedExchange
  unfolding exchange_lent
  exchange-judged e =
      let first = number-first order_judged (λ o. giving (exchange k o) (judge_forks k (forks_in k bits))) e in
      let then = sym (number-giving (exchange k (order_in k order)) (judge_forks k (forks_in k bits))) ∙ ap number (sym (set-decides first)) ∙ e in
      exchange-accepts first (judged-forks k (forks_in k bits) then)

  -- and gives
  pub exchange-given : JudgedExchange → exchange_lent k order bits room ≡ gives (exchange k (order_in k order) (forks_in k bits))
  unfolding exchange_lent
  exchange-given j =
      let f = j.forks in
      let fits : others ≡ true = rw (le-leb _ _ f.long) (le-leb _ _ f.places) in
      rw (lent_gives k order others j.stops fits, judge-forks k (forks_in k bits) f.only)

module _ (k : ℕ) (order bits before : List ℕ) where
  -- an exchange that is refused
  pub exchange-refused : (r : Refusal) → refuses (refusal_number r) ≡ done (exchange_lent k order bits (length before)) → OrderIsExchanged k order bits before before (Err r)
  exchange-refused r e = let o = done-refused (exchange_lent k order bits (length before)) (refusal_number r) e in record { said = e; left = rw o }

  -- for callers: what an answer tells, and when the exchange is made
  module _ (afterwards : List ℕ) where
    pub when-exchanged : OrderIsExchanged k order bits before afterwards (Ok tt)
        → JudgedExchange k order bits (length before) × (afterwards ≡ over (exchange k (order_in k order) (forks_in k bits)) before)
    when-exchanged p =
        let j = exchange-judged k order bits (length before) (done-number (exchange_lent k order bits (length before)) p.said) in
        (j, p.left ∙ rw (exchange-given k order bits (length before) j))

    pub exchanged-when : (r : Result Unit Refusal) → JudgedExchange k order bits (length before) → OrderIsExchanged k order bits before afterwards r
        → (r ≡ Ok tt) × (afterwards ≡ over (exchange k (order_in k order) (forks_in k bits)) before)
    exchanged-when r j p =
        let o = exchange-given k order bits (length before) j in
        (only-ok r (p.said ∙ rw o), p.left ∙ rw o)
