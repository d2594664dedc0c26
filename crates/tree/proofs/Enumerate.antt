-- What the enumeration finds: an order of a counted set, at its cost, and no counted set gives an order that is preferred to it. Each set
-- more is weighed against what was found; the better of two is at most either, and all that was at most one of them follows.
use mathlib.Core.Path.{◌≡◌, refl, sym, subst, ◌∙◌}
use mathlib.Core.Bool.{Bool, true, false, cond}
use mathlib.Core.List.{List}
use Prim.Native.Nat.{ℕ, zero, suc, ◌*◌, ◌-◌, ◌/◌, ◌^◌, ◌<◌}
use native.Mathlib.Nat.{pow-succ'}
use native.Mathlib.Omega.{arith}
use lib.ListN.{length}
use lib.Pow.{pow_pos}
use Rattle.walks.specs.Best.{Found, none, at}
use Rattle.walks.specs.Prefer.{AtMost}
use Rattle.walks.proofs.Prefer.{Trich, trich, below, equal, above, beforeb-true, beforeb-false, at_most-refl, at_most-trans}
use Rattle.tree.specs.Order.{order_of}
use Rattle.tree.specs.Wanted.{backward}
use Rattle.tree.proofs.Link.{length-order_of}
use Rattle.tree.proofs.Theorem7.{set_of, set_of-lt, set_of-even}
use Rattle.tree.proofs.Theorem7 as seven
use Rattle.tree.proofs.Backward.{backward-length}
use Rattle.tree.specs.Wanted.{preferred, better, best_of, found, Settled}

-- an order read back has as many stops
pub length-backward : (k F : ℕ) → length (backward (order_of k F)) ≡ 2 ^ k
length-backward k F = backward-length (order_of k F) ∙ length-order_of k F

-- every order is that of a set that is tried
pub tried-set : (k F : ℕ) → (j : ℕ) × (j < 2 ^ (2 ^ k - 1)) × (order_of k (2 * j) ≡ order_of k F)
tried-set k F =
    let S : ℕ = set_of k (order_of k F) in
    let n : ℕ = 2 ^ k in
    let e : S ≡ 2 * (S / 2) = omega (arith, set_of-even k (order_of k F)) in
    let h : 2 ^ n ≡ 2 * 2 ^ (n - 1) = subst (λ x. 2 ^ x ≡ 2 * 2 ^ (n - 1)) (omega (arith, pow_pos k)) (pow-succ' 2 (n - 1)) in
    (S / 2, omega (arith, set_of-lt k (order_of k F)), rw (← e) (seven.backward k (order_of k F) (seven.forward k F)))

module _ (k : ℕ) (cost : List ℕ → ℕ) (ok : ℕ → Bool) where
  -- what was found is an order of a counted set, at its cost
  abbrev pub Sound : Found (List ℕ) → Type 0
  Sound none = Unit {0}
  Sound (at c o) = (F : ℕ) × (ok F ≡ true) × (order_of k F ≡ o) × (c ≡ cost o)

  -- and is preferred to the order u or the same
  abbrev pub Over : Found (List ℕ) → List ℕ → Type 0
  Over none u = ⊥
  Over (at c o) u = AtMost c (backward o) (cost u) (backward u)

  -- one counted set F more
  module _ (F : ℕ) (counts : ok F ≡ true) where
    -- what is found stays sound
    better-sound : (x : Found (List ℕ)) → Sound x → Sound (better cost (order_of k F) x)
    unfolding better
    better-sound none s = (F, counts, refl, refl)
    better-sound (at c o) s = go _
      where
        go : (b : Bool) → Sound (cond b (at (cost (order_of k F)) (order_of k F)) (at c o))
        go true = (F, counts, refl, refl)
        go false = s

    -- it is over the new order, and over all that it was over
    better-over : (x : Found (List ℕ)) → Sound x
        → Over (better cost (order_of k F) x) (order_of k F) × ((u : List ℕ) → Over x u → Over (better cost (order_of k F) x) u)
    unfolding better
    better-over none s = (at_most-refl _ _, λ u h. absurd h)
    better-over (at c o) s = go (preferred cost (order_of k F) o) refl
      where
        new : List ℕ
        new = order_of k F

        long : length (backward new) ≡ length (backward o)
        long = length-backward k F ∙ sym (rw (← s.2) (length-backward k s.0))

        go : (b : Bool) → preferred cost new o ≡ b
            → Over (cond b (at (cost new) new) (at c o)) new × ((u : List ℕ) → Over (at c o) u → Over (cond b (at (cost new) new) (at c o)) u)
        go true e = (at_most-refl _ _, λ u h. at_most-trans (rw s.3 (beforeb-true _ _ _ _ e)) h)
        go false e = (rw s.3 (beforeb-false _ _ _ _ long e), λ u h. h)

  -- what the tried sets give
  best_of-sound : (m : ℕ) → Sound (best_of k cost ok m)
  unfolding best_of
  best_of-sound zero = tt
  best_of-sound (suc m) = go (ok (2 * m)) refl (best_of-sound m)
    where
      go : (b : Bool) → ok (2 * m) ≡ b → Sound (best_of k cost ok m)
          → Sound (cond b (better cost (order_of k (2 * m)) (best_of k cost ok m)) (best_of k cost ok m))
      go true e ih = better-sound (2 * m) e (best_of k cost ok m) ih
      go false e ih = ih

  -- is over the order of each that counts
  best_of-over : (m j : ℕ) → j < m → ok (2 * j) ≡ true → Over (best_of k cost ok m) (order_of k (2 * j))
  unfolding best_of
  best_of-over zero j b t = absurd (omega arith)
  best_of-over (suc m) j b t = go (ok (2 * m)) refl (trich j m) (λ h. best_of-over m j h t)
    where
      r : Found (List ℕ)
      r = best_of k cost ok m

      go : (c : Bool) → ok (2 * m) ≡ c → Trich j m → (j < m → Over r (order_of k (2 * j))) → Over (cond c (better cost (order_of k (2 * m)) r) r) (order_of k (2 * j))
      go true e (below h) ih = (better-over (2 * m) e r (best_of-sound m)).1 (order_of k (2 * j)) (ih h)
      go true e (equal h) ih = rw h (better-over (2 * m) e r (best_of-sound m)).0
      go true e (above h) ih = absurd (omega arith)
      go false e (below h) ih = ih h
      go false e (equal h) ih = let q : ok (2 * j) ≡ false = rw h e in let z : ◌≡◌ {A = ℕ} 0 1 = cc in absurd (omega arith)
      go false e (above h) ih = absurd (omega arith)

  -- WHAT IS FOUND IS SOUND
  pub found-sound : Sound (found k cost ok)
  unfolding found
  found-sound = best_of-sound _

  -- AND OVER THE ORDER OF EVERY COUNTED SET
  pub found-over : Settled k ok → (F : ℕ) → ok F ≡ true → Over (found k cost ok) (order_of k F)
  unfolding found
  found-over fair F t =
      let j = tried-set k F in
      subst (Over (best_of k cost ok (2 ^ (2 ^ k - 1)))) j.2 (best_of-over (2 ^ (2 ^ k - 1)) j.0 j.1 (fair (2 * j.0) F j.2 ∙ t))
