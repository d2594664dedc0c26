-- Laws of a lent order that is judged: which test decides, and what is known of one that passed.
use mathlib.Core.Path.{◌≡◌, refl, ap, ◌∙◌}
use mathlib.Core.Bool.{Bool, true, false}
use mathlib.Core.List.{List}
use Prim.Native.Nat.{ℕ, ◌^◌, ◌≤◌, ◌<◌}
use native.Mathlib.Omega.{arith}
use lib.Dec.{leb}
use lib.ListN.{length}
use borrow.Author.Tests.{le-leb, lt-leb, leb-true}
use Rattle.base.specs.Refusal.{wrong_k, wrong_size}
use Rattle.base.specs.Outcome.{Outcome, gives, refuses, need, number, over}
use Rattle.base.specs.Size.{max_k}
use Rattle.base.proofs.Outcome.{passed, over-front, over-long}
use Rattle.orders.specs.Allowed.{is_allowed, judge_order}
use Rattle.orders.specs.Lent.{order_in, order_fits, lent_order, JudgedOrder}
use Rattle.orders.proofs.Allowed.{judge-good, judged-good, allowed-long, allowed-below}

short : Outcome (List ℕ)
short = refuses wrong_size

module _ (k : ℕ) (order : List ℕ) (fits : Bool) where
  -- k first
  pub lent-k : max_k < k → lent_order k order fits ≡ refuses wrong_k
  unfolding lent_order
  lent-k h = rw (lt-leb _ _ h)

  -- and the other lengths
  pub lent-others : k ≤ max_k → fits ≡ false → lent_order k order fits ≡ refuses wrong_size
  unfolding lent_order short
  lent-others h f = rw (le-leb _ _ h, f) (either (order_fits k (length order)))
    where
      either : (t : Bool) → need t wrong_size short ≡ short
      either true = refl
      either false = refl

  -- then the contents
  pub lent-contents : k ≤ max_k → 2 ^ k ≤ length order → fits ≡ true → lent_order k order fits ≡ judge_order k (order_in k order)
  unfolding lent_order
  lent-contents h s f = rw (le-leb _ _ h, le-leb _ _ s, f)

  -- an order that is not refused
  pub lent-judged : number (lent_order k order fits) ≡ 0 → JudgedOrder k order × (fits ≡ true)
  unfolding lent_order
  lent-judged e =
      let small = passed (leb k max_k) wrong_k _ (omega arith) e in
      let long = passed (order_fits k (length order)) wrong_size _ (omega arith) small.goes_on in
      let others = passed fits wrong_size _ (omega arith) long.goes_on in
      let good = judged-good k (order_in k order) others.goes_on in (
        record {
          small = leb-true _ _ small.holds;
          long = leb-true _ _ long.holds;
          below = good.0;
          allowed = good.1;
        },
        others.holds,
      )

  -- is the outcome
  pub lent_gives : JudgedOrder k order → fits ≡ true → lent_order k order fits ≡ gives (order_in k order)
  lent_gives j f =
      lent-contents j.small j.long f ∙ judge-good k (order_in k order) j.below j.allowed

-- two tests of the other lengths that agree up to k = 10 come to the same
pub lent_same : (k : ℕ) (order : List ℕ) (a b : Bool) → (k ≤ max_k → a ≡ b) → lent_order k order a ≡ lent_order k order b
unfolding lent_order
lent_same k order a b e = go (leb k max_k) refl
  where
    rest : Bool → Outcome (List ℕ)
    rest t = need (order_fits k (length order)) wrong_size (need t wrong_size (judge_order k (order_in k order)))

    go : (t : Bool) → leb k max_k ≡ t → need t wrong_k (rest a) ≡ need t wrong_k (rest b)
    go true f = ap rest (e (leb-true _ _ f))
    go false f = refl

-- a buffer that holds an allowed order first passes as a lent order
pub holds-order : (k : ℕ) (o before : List ℕ) → k ≤ max_k → is_allowed k o ≡ true → JudgedOrder k (over o before)
holds-order k o before small allowed =
    let long : length o ≡ 2 ^ k = allowed-long k o allowed in
    let front : order_in k (over o before) ≡ o = over-front (2 ^ k) o before long in
    record {
      small = small;
      long = over-long (2 ^ k) o before long;
      below = rw front (allowed-below k o allowed);
      allowed = rw front allowed;
    }
