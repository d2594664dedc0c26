-- The last stop is the least of the last row, and an order that ends there and holds best walks before it is preferred to every other.
use mathlib.Core.Path.{◌≡◌, refl, sym, ap, subst, ◌∙◌, fun_ext}
use mathlib.Core.Bool.{true}
use mathlib.Core.List.{List, ◌∷◌}
use Prim.Native.Nat.{ℕ, ◌+◌, ◌<◌, suc}
use lib.ListN.{get_or}
use native.Mathlib.Omega.{arith}
use Rattle.walks.proofs.Best.{scan-back}
use Rattle.walks.proofs.Places.{plan-order, plan-wanted, plan-found}
use Rattle.walks.proofs.Rows.{told-scan, told-step, step-told, costs-are}
use Rattle.walks.specs.Best.{Found, none, at, scan, step, best, plan}
use Rattle.walks.specs.Places.{stops_to, cost_to, Admits, Preferred}
use Rattle.walks.specs.Rows.{told, costs, last}
use Rattle.walks.specs.Walk.{Graph}

-- the last stop and the cost are those of the plan
pub last-is : (G : Graph) (n : ℕ) → last G n ≡ told (λ l. get_or l 0 0) (plan G n)
unfolding last plan
last-is G n = ap (λ u. scan u G.bound) (fun_ext alike)
    ∙ sym (told-scan (λ l. get_or l 0 0) (λ i. step true 0 (◌∷◌ i) (best G n i)) G.bound)
  where
    alike : (i : ℕ) → step true 0 (λ a. i) (costs G n i) ≡ told (λ l. get_or l 0 0) (step true 0 (◌∷◌ i) (best G n i))
    alike i = rw (costs-are G n i, step-told, told-step)

-- the plan is the best walk to its last stop
pub data Ended (G : Graph) (n c : ℕ) : List ℕ → Type 0 where
  ended : {i : ℕ} {l : List ℕ} → i < G.bound → best G n i ≡ at c l → Ended G n c (i ∷ l)

-- so is every plan
pub plan-back : (G : Graph) (n : ℕ) {c : ℕ} {l : List ℕ} → plan G n ≡ at c l → Ended G n c l
unfolding plan step
plan-back G n {c} {l} e = go (scan-back (λ i. step true 0 (◌∷◌ i) (best G n i)) G.bound e)
  where
    some : (i : ℕ) → i < G.bound → (y : Found (List ℕ)) → best G n i ≡ y → step true 0 (◌∷◌ i) y ≡ at c l → Ended G n c l
    some i h none q r = let z : ◌≡◌ {A = ℕ} 0 1 = cc in absurd (omega arith)
    some i h (at d m) q r =
        let f : d + 0 ≡ c = cc in
        let f' : d ≡ c = omega arith in
        let g : i ∷ m ≡ l = cc in
        subst (Ended G n c) g (ended h (q ∙ ap (λ x. at x m) f'))

    go : (i : ℕ) × (i < G.bound) × (step true 0 (◌∷◌ i) (best G n i) ≡ at c l) → Ended G n c l
    go r = some r.0 r.1 (best G n r.0) refl r.2

-- what the last row finds is the last stop of the plan
pub last-back : (G : Graph) (n : ℕ) {c i : ℕ} → last G n ≡ at c i → (l : List ℕ) × (best G n i ≡ at c l) × (plan G n ≡ at c (i ∷ l))
unfolding told
last-back G n {c} {i} e = go (plan G n) refl (sym (last-is G n) ∙ e)
  where
    ends : {l : List ℕ} → Ended G n c l → plan G n ≡ at c l → get_or l 0 0 ≡ i
        → (l : List ℕ) × (best G n i ≡ at c l) × (plan G n ≡ at c (i ∷ l))
    ends (ended {l = m} b f) p q = (m, rw (← q) f, rw (← q) p)

    go : (x : Found (List ℕ)) → plan G n ≡ x → told (λ l. get_or l 0 0) x ≡ at c i
        → (l : List ℕ) × (best G n i ≡ at c l) × (plan G n ≡ at c (i ∷ l))
    go none p q = let z : ◌≡◌ {A = ℕ} 0 1 = cc in absurd (omega arith)
    go (at d l) p q =
        let f : d ≡ c = cc in
        let g : get_or l 0 0 ≡ i = cc in
        let h : plan G n ≡ at c l = p ∙ ap (λ x. at x l) f in
        ends (plan-back G n h) h g

-- THE WHOLE, IN WORDS: if place n of the array o holds the last row's choice, and the places before it the best walk to that,
-- then o is allowed, costs what the last row says, and is wanted rather than every other allowed order
pub final : (G : Graph) (n : ℕ) (o : ℕ → ℕ) {c : ℕ} → last G n ≡ at c (o n)
    → ((d : ℕ) (r : List ℕ) → best G n (o n) ≡ at d r → stops_to o n ≡ r)
    → Admits G n o × (cost_to G o n ≡ c) × ((u : ℕ → ℕ) → Admits G n u → Preferred G n o u)
unfolding stops_to
final G n o {c} e f =
    let b = last-back G n e in
    let s : stops_to o (suc n) ≡ o n ∷ b.0 = ap (◌∷◌ (o n)) (f c b.0 b.1) in
    let p = plan-order G n o b.2 s in
    (p.0, p.1, λ u k. plan-wanted G n o u b.2 s k)

-- and where the last row has nothing, no order is allowed
pub final-none : (G : Graph) (n : ℕ) (u : ℕ → ℕ) → last G n ≡ none → Admits G n u → ⊥
unfolding told
final-none G n u e k =
    let p = plan-found G n u k in
    let f : last G n ≡ told (λ l. get_or l 0 0) (at p.0 p.1) = last-is G n ∙ ap (told (λ l. get_or l 0 0)) p.2 in
    let z : ◌≡◌ {A = ℕ} 0 1 = cc in omega arith
