-- Laws of lent records that are judged: which test decides, and what is known of records that passed.
use mathlib.Core.Path.{◌≡◌, refl, sym, ap, ◌∙◌}
use mathlib.Core.Bool.{Bool, true, false, ◌&&◌}
use mathlib.Core.List.{List}
use Prim.Native.Nat.{ℕ, ◌^◌, ◌≤◌, ◌<◌}
use native.Mathlib.Omega.{arith}
use lib.Dec.{leb, ltb}
use lib.ListN.{length, take}
use borrow.Author.Tests.{le-leb, leb-true, lt-ltb, ltb-true}
use Rattle.base.specs.Refusal.{wrong_total, no_such_fork}
use Rattle.base.specs.Outcome.{Outcome, gives, refuses, and_then, done, number}
use Rattle.base.specs.Size.{max_k, stop_count}
use Rattle.base.proofs.Bools.{both}
use Rattle.base.proofs.Outcome.{passed, number-first, done-good, done-refused}
use Rattle.base.proofs.Size.{stop_count-pow}
use Rattle.orders.specs.Allowed.{is_allowed, judge_order}
use Rattle.orders.specs.Lent.{order_in, lent_order, JudgedOrder}
use Rattle.orders.specs.Same.{alike}
use Rattle.orders.proofs.Allowed.{judge-good, judged-good}
use Rattle.orders.proofs.Lent.{lent-contents, lent-judged, lent_gives, lent_same}
use Rattle.orders.proofs.Same.{alike_same, same_alike}
use Rattle.groups.specs.Exchange.{exchange_fork}
use Rattle.group_sums.specs.Travel.{sums_of}
use Rattle.group_sums.proofs.Travel.{sums_same}
use Rattle.screen.specs.Records.{Records, records_of, with_sums, judge_records, lent_records, is_fork, fork_exchanged}

-- ---- the order and its sums

-- records that passed
pub record GoodRecords (t : ℕ → ℕ → ℕ) (k : ℕ) (order sums : List ℕ) : Type 0 where
  pub judged : JudgedOrder k order
  pub long : 2 ^ k ≤ length sums
  pub same : take (2 ^ k) sums ≡ sums_of t k (order_in k order)
  pub accepted : lent_records t k order sums ≡ gives (records_of t k (order_in k order))

module _ (t : ℕ → ℕ → ℕ) (k : ℕ) (order sums : List ℕ) where
  -- the order, with the test that the sums are long enough
  abbrev pub order_judged : Outcome (List ℕ)
  order_judged = lent_order k order (leb (2 ^ k) (length sums))

  -- as the code has that test
  pub records-fit : (n : ℕ) → n ≡ stop_count k → lent_order k order (leb n (length sums)) ≡ order_judged
  records-fit n e = lent_same k order (leb n (length sums)) (leb (2 ^ k) (length sums)) (λ h. ap (λ x. leb x (length sums)) (e ∙ stop_count-pow k h))

  -- a refused order
  pub records-refused : (n : ℕ) → refuses n ≡ done order_judged → lent_records t k order sums ≡ refuses n
  unfolding lent_records
  records-refused n e = rw (done-refused order_judged n e)

  -- one that is not
  pub records-order : number order_judged ≡ 0 → JudgedOrder k order × (2 ^ k ≤ length sums)
  records-order e = let w = lent-judged k order (leb (2 ^ k) (length sums)) e in (w.0, leb-true _ _ w.1)

  module _ (j : JudgedOrder k order) (long : 2 ^ k ≤ length sums) where
    -- leaves the sums to be judged
    records-sums : lent_records t k order sums ≡ with_sums t k sums (order_in k order)
    unfolding lent_records
    records-sums = rw (lent_gives k order (leb (2 ^ k) (length sums)) j (le-leb _ _ long))

    pub records-wrong : alike (take (2 ^ k) sums) (sums_of t k (order_in k order)) ≡ false → lent_records t k order sums ≡ refuses wrong_total
    unfolding with_sums
    records-wrong e = records-sums ∙ rw e

    pub records-good : alike (take (2 ^ k) sums) (sums_of t k (order_in k order)) ≡ true → lent_records t k order sums ≡ gives (records_of t k (order_in k order))
    unfolding with_sums
    records-good e = records-sums ∙ rw e

  -- records that are known to be good
  pub records-are : JudgedOrder k order → 2 ^ k ≤ length sums → take (2 ^ k) sums ≡ sums_of t k (order_in k order) → GoodRecords t k order sums
  records-are j long e = record { judged = j; long = long; same = e; accepted = records-good j long (same_alike _ _ e) }

  pub records-judged : number (lent_records t k order sums) ≡ 0 → GoodRecords t k order sums
  unfolding lent_records with_sums
  records-judged e =
      let w = records-order (number-first order_judged (with_sums t k sums) e) in
      let rest : number (with_sums t k sums (order_in k order)) ≡ 0 = sym (ap number (records-sums w.0 w.1)) ∙ e in
      let s = passed (alike (take (2 ^ k) sums) (sums_of t k (order_in k order))) wrong_total _ (omega arith) rest in
      record { judged = w.0; long = w.1; same = alike_same _ _ s.holds; accepted = records-good w.0 w.1 s.holds }

  pub records-done : gives tt ≡ done (lent_records t k order sums) → GoodRecords t k order sums
  records-done e = records-judged (done-good (lent_records t k order sums) e)

-- ---- a fork

pub fork-out : (k v : ℕ) → (1 ≤ v → v < 2 ^ k → ⊥) → is_fork k v ≡ false
fork-out k v f = go (leb 1 v) (ltb v (2 ^ k)) refl refl
  where
    go : (a b : Bool) → leb 1 v ≡ a → ltb v (2 ^ k) ≡ b → (leb 1 v && ltb v (2 ^ k)) ≡ false
    go false b e g = rw e
    go true false e g = rw (e, g)
    go true true e g = absurd (f (leb-true _ _ e) (ltb-true _ _ g))

pub fork-in : (k v : ℕ) → 1 ≤ v → v < 2 ^ k → is_fork k v ≡ true
fork-in k v a b = rw (le-leb 1 v a, lt-ltb v (2 ^ k) b)

pub in-fork : (k v : ℕ) → is_fork k v ≡ true → (1 ≤ v) × (v < 2 ^ k)
in-fork k v e = let b = both (leb 1 v) (ltb v (2 ^ k)) e in (leb-true _ _ b.0, ltb-true _ _ b.1)

module _ (t : ℕ → ℕ → ℕ) (k fork : ℕ) (order sums : List ℕ) where
  -- the exchange of the fork in lent records
  abbrev pub exchanged : Outcome Records
  exchanged = and_then (lent_records t k order sums) (fork_exchanged t k fork)

  pub exchange-refused : (n : ℕ) → refuses n ≡ done (lent_records t k order sums) → exchanged ≡ refuses n
  exchange-refused n e = rw (done-refused (lent_records t k order sums) n e)

  pub exchange-out : GoodRecords t k order sums → (1 ≤ fork → fork < 2 ^ k → ⊥) → exchanged ≡ refuses no_such_fork
  unfolding fork_exchanged
  exchange-out g f = rw (g.accepted, fork-out k fork f)

  pub exchange-given : GoodRecords t k order sums → 1 ≤ fork → fork < 2 ^ k → exchanged ≡ gives (records_of t k (exchange_fork k (order_in k order) fork))
  unfolding fork_exchanged
  exchange-given g a b = rw (g.accepted, fork-in k fork a b)

  -- an exchange that is not refused
  pub exchange-judged : number exchanged ≡ 0 → GoodRecords t k order sums × (1 ≤ fork) × (fork < 2 ^ k)
  unfolding fork_exchanged
  exchange-judged e =
      let g = records-judged t k order sums (number-first (lent_records t k order sums) (fork_exchanged t k fork) e) in
      let s = passed (is_fork k fork) no_such_fork _ (omega arith) (rw g.accepted at e) in
      let f = in-fork k fork s.holds in
      (g, f.0, f.1)

-- ---- other times

-- where k and the lengths are tested already, only the contents are left
pub records-contents : (t : ℕ → ℕ → ℕ) (k : ℕ) (order sums : List ℕ) → k ≤ max_k → 2 ^ k ≤ length order → 2 ^ k ≤ length sums
    → lent_records t k order sums ≡ judge_records t k order sums
unfolding lent_records judge_records
records-contents t k order sums h a b = rw (lent-contents k order (leb (2 ^ k) (length sums)) h a (le-leb _ _ b))

-- times that agree for the stops of the tree come to the same
pub sums-times : (t u : ℕ → ℕ → ℕ) (k : ℕ) (sums : List ℕ) → ((i j : ℕ) → i < 2 ^ k → j < 2 ^ k → t i j ≡ u i j)
    → (o : List ℕ) → is_allowed k o ≡ true → with_sums t k sums o ≡ with_sums u k sums o
unfolding with_sums
sums-times t u k sums same o allowed = rw (sums_same t u k o allowed same)

pub records-times : (t u : ℕ → ℕ → ℕ) (k : ℕ) (order sums : List ℕ) → ((i j : ℕ) → i < 2 ^ k → j < 2 ^ k → t i j ≡ u i j)
    → judge_records t k order sums ≡ judge_records u k order sums
unfolding judge_records
records-times t u k order sums same = by (judge_order k (order_in k order)) refl
  where
    by : (o : Outcome (List ℕ)) → judge_order k (order_in k order) ≡ o → and_then o (with_sums t k sums) ≡ and_then o (with_sums u k sums)
    by (refuses n) e = refl
    by (gives o) e =
        let g = judged-good k (order_in k order) (ap number e) in
        let is : gives o ≡ gives (order_in k order) = sym e ∙ judge-good k (order_in k order) g.0 g.1 in
        let one : order_in k order ≡ o = cc in
        sums-times t u k sums same o (rw one at g.1)
