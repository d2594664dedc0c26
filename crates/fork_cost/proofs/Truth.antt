-- THE COST OF A FORK IS THE TRUE ONE. The opposite order differs from the returned one and costs no less; of equal costs the rule for equals puts it behind, and the place that
-- decides is the last at which the two part.
use mathlib.Core.Path.{◌≡◌, refl, sym, ap, subst, ◌∙◌}
use mathlib.Core.Bool.{cond}
use mathlib.Core.List.{List}
use mathlib.Core.Logic.{◌≢◌, ◌⊎◌, inl, inr}
use Prim.Native.Nat.{ℕ, zero, suc, ◌-◌, ◌*◌, ◌%◌, ◌^◌, ◌≤◌, ◌<◌}
use native.Mathlib.Nat.{div_self}
use native.Mathlib.Decide.{dec_lt}
use native.Mathlib.Omega.{arith}
use lib.Bits.{bit_xor}
use lib.Dec.{eqb}
use lib.Pow.{pow_pos}
use borrow.Author.Tests.{eq-eqb, ne_eqb}
use Rattle.walks.specs.Places.{Earlier}
use Rattle.tree.specs.Fork.{bit}
use Rattle.tree.specs.Neighbour.{in_place}
use Rattle.tree.specs.Total.{total}
use Rattle.tree.specs.Wanted.{Shortest}
use Rattle.tree.proofs.Open.{wanted-shortest}
use Rattle.tree.proofs.Wanted as any
use Rattle.costs.specs.Costs.{held, InState}
use Rattle.costs.proofs.Held.{held-settled, held-some}
use Rattle.costs.proofs.Other.{held-reason}
use Rattle.orders.specs.Allowed.{forks_of}
use Rattle.orders.specs.Exchange.{exchange}
use Rattle.orders.proofs.Allowed.{forks_of-gives}
use Rattle.groups.specs.Exchange.{exchange_fork}
use Rattle.groups.proofs.Xor.{bit-xor}
use Rattle.fork_cost.specs.Cost.{returned, state_in, opposite, last_apart, reason_for, compared, cost_of}
use Rattle.fork_cost.specs.Truth.{PartAt, TrueReason, TrueCost}
use Rattle.fork_cost.proofs.Both.{returned-allowed, opposite-dearer}

-- one place more or fewer
last_step : (o u : List ℕ) (e m : ℕ) → in_place o e < in_place u e → e ≤ m → (e < m → in_place o m ≡ in_place u m) → (e < m → last_apart o u m ≡ e) → last_apart o u (suc m) ≡ e
last_step o u e m less h alike ih = go (dec_lt e m)
  where
    go : Dec (e < m) → cond (eqb (in_place o m) (in_place u m)) (last_apart o u m) m ≡ e
    go (yes below) = rw (eq-eqb (in_place o m) (in_place u m) (alike below)) (ih below)
    go (no above) =
        let here : m ≡ e = omega arith in
        let differ : in_place o m ≡ in_place u m → ⊥ = λ x. omega (arith, ap (in_place o) here, ap (in_place u) here, x, less) in
        rw (ne_eqb _ _ differ) here

-- the place that decides is the last at which they part
apart-at : (o u : List ℕ) (e n : ℕ) → in_place o e < in_place u e → e < n → ((r : ℕ) → e < r → r < n → in_place o r ≡ in_place u r) → last_apart o u n ≡ e
apart-at o u e zero less h alike = absurd (omega arith)
apart-at o u e (suc m) less h alike =
    last_step o u e m less (omega arith) (λ below. alike m below (omega arith)) (λ below. apart-at o u e m less below (λ r a b. alike r a (omega arith)))

-- a place that decides by the rule for equals is where they part
earlier-parts : {n : ℕ} {o u : List ℕ} → Earlier n (in_place o) (in_place u) → PartAt n o u (last_apart o u n)
earlier-parts {n} {o} {u} e =
    subst (PartAt n o u) (sym (apart-at o u e.place n e.smaller-there e.inside e.alike-after))
    (record { inside = e.inside; smaller = e.smaller-there; alike = e.alike-after })

module _ (k : ℕ) (t : ℕ → ℕ → ℕ) (fork : ℕ) (pos : 1 ≤ fork) (inside : fork < 2 ^ k) where
  -- the state in the returned order, and the one that it has not
  now : ℕ
  now = state_in k (returned k t) fork

  turned : ℕ
  turned = 1 - now

  small : (now < 2) × (turned < 2) × (now ≢ turned)
  unfolding now turned
  small = (omega arith, omega arith, λ e. omega (arith, e))

  has-state : InState k (returned k t) fork now
  unfolding now
  has-state = (forks_of k (returned k t), (forks_of-gives k (returned k t) (returned-allowed k t)).given, refl)

  -- the opposite order is the one that is wanted among those with the fork in the other state
  pub opposite-shortest : Shortest k (total t) (held fork (1 - state_in k (returned k t) fork)) (opposite k t fork) (total t (opposite k t fork))
  unfolding now turned
  opposite-shortest = any.wanted-shortest k (total t) (held fork turned) (held-settled k fork turned pos inside) (turned * 2 ^ fork) (held-some fork turned small.1)

  -- the reason is the true one
  reason : TrueReason (2 ^ k) (returned k t) (opposite k t fork) (total t (opposite k t fork) - total t (returned k t)) (reason_for (total t (opposite k t fork) - total t (returned k t)) (last_apart (returned k t) (opposite k t fork) (2 ^ k)))
  unfolding now turned
  reason = go (held-reason k fork pos inside (total t) turned small.1 has-state small.2)
    where
      more : ℕ
      more = total t (opposite k t fork) - total t (returned k t)

      place : ℕ
      place = last_apart (returned k t) (opposite k t fork) (2 ^ k)

      is-dearer : more ≢ 0 → TrueReason (2 ^ k) (returned k t) (opposite k t fork) more (reason_for more place)
      is-dearer f = rw (ne_eqb more 0 f) (omega (arith, f))

      is-tie : more ≡ 0 → PartAt (2 ^ k) (returned k t) (opposite k t fork) place → TrueReason (2 ^ k) (returned k t) (opposite k t fork) more (reason_for more place)
      is-tie e p = rw (eq-eqb more 0 e) (e, p)

      go : (total t (returned k t) < total t (opposite k t fork))
          ⊎ ((total t (opposite k t fork) ≡ total t (returned k t)) × Earlier (2 ^ k) (in_place (returned k t)) (in_place (opposite k t fork)))
          → TrueReason (2 ^ k) (returned k t) (opposite k t fork) more (reason_for more place)
      go (inl less) = is-dearer (λ e. omega (arith, e))
      go (inr same) = is-tie (omega (arith, same.0)) (earlier-parts same.1)

  -- THE COST THAT IS TOLD IS THE TRUE ONE
  pub cost-true : TrueCost k t fork (cost_of k t fork)
  unfolding cost_of compared now
  cost-true = record {
    order = returned k t;
    sum = total t (returned k t);
    shortest = wanted-shortest k t;
    state = has-state;
    other = opposite k t fork;
    least = opposite-shortest;
    difference = omega (arith, opposite-dearer k t fork pos inside);
    reason = reason;
  }

  -- exchanging the fork alone, in the returned order, is no cheaper than its cost says
  pub exchange-dearer : total t (opposite k t fork) ≤ total t (exchange_fork k (returned k t) fork)
  unfolding exchange now turned
  exchange-dearer = opposite-shortest.least (bit_xor (forks_of k (returned k t)) (2 ^ fork)) (eq-eqb _ _ flipped)
    where
      one : bit (2 ^ fork) fork ≡ 1
      one = ap (λ x. x % 2) (div_self (pow_pos fork))

      flipped : bit (bit_xor (forks_of k (returned k t)) (2 ^ fork)) fork ≡ turned
      flipped = bit-xor (forks_of k (returned k t)) (2 ^ fork) fork ∙ omega (arith, one)
