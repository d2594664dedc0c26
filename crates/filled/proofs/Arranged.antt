-- THE LISTS OF A FORK: a list of one side and then one of the other, either way; a stop's list is the stop, if it is filled. All lists here
-- are read from the end, the last stop first.
use mathlib.Core.Path.{◌≡◌, refl, sym, ap, ◌∙◌}
use mathlib.Core.Bool.{Bool, true, false, cond}
use mathlib.Core.List.{List, [], ◌∷◌, ◌++◌}
use Prim.Native.Nat.{ℕ, zero, suc, ◌+◌, ◌*◌, ◌-◌, ◌^◌, ◌≤◌, ◌<◌}
use native.Mathlib.Nat.{pow-succ', mul_assoc, mul_comm, add-mul, one-mul, add-zero}
use native.Mathlib.Omega.{arith}
use lib.ListN.{length, length-append}
use Rattle.tree.specs.Fork.{side, stop_of}
use Rattle.filled.specs.Forks.{filled_below, above}
use Rattle.filled.proofs.Levels.{Level, level-side, level-first, level-leaf, above_half, above_zero}

-- ---- lists of which all stops have a property

abbrev pub All : (ℕ → Type 0) → List ℕ → Type 0
All P [] = Unit {0}
All P (j ∷ l) = P j × All P l

-- two lists, one after the other
pub all_append : (P : ℕ → Type 0) (x y : List ℕ) → All P x → All P y → All P (x ++ y)
all_append P [] y p q = q
all_append P (j ∷ x) y p q = (p.0, all_append P x y p.1 q)

-- what follows from the property
pub all_map : {P Q : ℕ → Type 0} → ((j : ℕ) → P j → Q j) → (l : List ℕ) → All P l → All Q l
all_map f [] p = tt
all_map f (j ∷ l) p = (f j p.0, all_map f l p.1)

-- a list that begins with something is not empty
pub cons-nil : {j : ℕ} {l : List ℕ} → j ∷ l ≡ [] → ⊥
cons-nil h = let z : ◌≡◌ {A = ℕ} 0 1 = cc in omega arith

-- an empty list is made of two empty ones
append-empty : (x y : List ℕ) → [] ≡ x ++ y → ([] ≡ x) × ([] ≡ y)
append-empty [] y e = (refl, e)
append-empty (j ∷ x) y e = absurd (cons-nil (sym e))

-- ---- the lists of a fork

abbrev pub Arranged : ℕ → (ℕ → Bool) → ℕ → ℕ → List ℕ → Type 0
Arranged k s zero v l = l ≡ cond (s (stop_of k v)) (stop_of k v ∷ []) []
Arranged k s (suc m) v l = (b : ℕ) × (x : List ℕ) × (y : List ℕ) × (b < 2) × Arranged k s m (side v b) x × Arranged k s m (side v (1 - b)) y × (l ≡ x ++ y)

-- how many of the d stops from `first` on are filled
unfoldable pub count_in : (ℕ → Bool) → ℕ → ℕ → ℕ
count_in s first zero = 0
count_in s first (suc d) = cond (s first) 1 0 + count_in s (suc first) d

-- of two parts
pub count_in-add : (s : ℕ → Bool) (first d e : ℕ) → count_in s first (d + e) ≡ count_in s first d + count_in s (first + d) e
unfolding count_in
count_in-add s first zero e = let z : 0 + e ≡ e = omega arith in rw (z, add-zero first) (omega arith)
count_in-add s first (suc d) e =
    let z : suc d + e ≡ suc (d + e) = omega arith in
    let y : first + suc d ≡ suc first + d = omega arith in
    rw (z, y) (omega (arith, count_in-add s (suc first) d e))

module _ (k : ℕ) (s : ℕ → Bool) where
  -- they hold filled stops of the fork
  pub arranged-all : (m v : ℕ) (l : List ℕ) → Level k m v → Arranged k s m v l → All (λ j. (above k m j ≡ v) × (s j ≡ true)) l
  arranged-all zero v l h e = go (s (stop_of k v)) refl e
    where
      go : (b : Bool) → s (stop_of k v) ≡ b → l ≡ cond b (stop_of k v ∷ []) [] → All (λ j. (above k 0 j ≡ v) × (s j ≡ true)) l
      go true f e = rw e ((above_zero k (stop_of k v) ∙ level-leaf k v h, f), tt)
      go false f e = rw e tt
  arranged-all (suc m) v l h (b, x, y, c, p, q, e) = rw e (all_append (λ j. (above k (suc m) j ≡ v) × (s j ≡ true)) x y
      (all_map (up b c) x (arranged-all m (side v b) x (level-side k m v b c h) p))
      (all_map (up (1 - b) (omega arith)) y (arranged-all m (side v (1 - b)) y (level-side k m v (1 - b) (omega arith) h) q)))
    where
      up : (b : ℕ) → b < 2 → (j : ℕ) → (above k m j ≡ side v b) × (s j ≡ true) → (above k (suc m) j ≡ v) × (s j ≡ true)
      up b c j r = (sym (above_half k m j) ∙ omega (arith, r.0), r.1)

  -- the first of a list
  pub arranged-head : (m v j : ℕ) (l : List ℕ) → Level k m v → Arranged k s m v (j ∷ l) → (above k m j ≡ v) × (s j ≡ true)
  arranged-head m v j l h p = (arranged-all m v (j ∷ l) h p).0

  -- a fork with the empty list has no filled stop
  pub arranged-nil : (m v : ℕ) → Arranged k s m v [] → filled_below k s m v ≡ false
  unfolding filled_below
  arranged-nil zero v e = go (s (stop_of k v)) e
    where
      go : (b : Bool) → [] ≡ cond b (stop_of k v ∷ []) [] → b ≡ false
      go true e = absurd (cons-nil (sym e))
      go false e = refl
  arranged-nil (suc m) v (zero, x, y, c, p, q, e) = let n = append-empty x y e in
      rw (arranged-nil m (side v 0) (rw n.0 p), arranged-nil m (side v 1) (rw n.1 q))
  arranged-nil (suc m) v (suc zero, x, y, c, p, q, e) = let n = append-empty x y e in
      rw (arranged-nil m (side v 0) (rw n.1 q), arranged-nil m (side v 1) (rw n.0 p))
  arranged-nil (suc m) v (suc (suc b), x, y, c, p, q, e) = absurd (omega arith)

  -- all have as many stops as are filled
  pub arranged-length : (m v : ℕ) (l : List ℕ) → Level k m v → Arranged k s m v l → length l ≡ count_in s (v * 2 ^ m - 2 ^ k) (2 ^ m)
  unfolding count_in
  arranged-length zero v l h e = rw e (go (s (stop_of k v)) refl)
    where
      first : v * 2 ^ 0 - 2 ^ k ≡ stop_of k v
      first = omega arith

      go : (b : Bool) → s (stop_of k v) ≡ b → length (cond b (stop_of k v ∷ []) []) ≡ cond (s (v * 2 ^ 0 - 2 ^ k)) 1 0 + 0
      go true f = rw (first, f)
      go false f = rw (first, f)
  arranged-length (suc m) v l h (b, x, y, c, p, q, e) = rw (e, length-append x y)
      (parts b c (arranged-length m (side v b) x (level-side k m v b c h) p) (arranged-length m (side v (1 - b)) y (level-side k m v (1 - b) (omega arith) h) q))
    where
      n : ℕ
      n = 2 ^ k

      first : v * 2 ^ suc m ≡ side v 0 * 2 ^ m
      first = ap (λ z. v * z) (pow-succ' 2 m) ∙ sym (mul_assoc v 2 (2 ^ m)) ∙ ap (λ z. z * 2 ^ m) (omega (arith, mul_comm v 2))

      second : side v 1 * 2 ^ m ≡ v * 2 ^ suc m + 2 ^ m
      second = ap (λ z. z * 2 ^ m) (omega arith) ∙ add-mul (side v 0) 1 (2 ^ m) ∙ omega (arith, one-mul (2 ^ m), first)

      both : count_in s (side v 0 * 2 ^ m - n) (2 ^ m) + count_in s (side v 1 * 2 ^ m - n) (2 ^ m) ≡ count_in s (v * 2 ^ suc m - n) (2 ^ suc m)
      both =
          let low : n ≤ v * 2 ^ suc m = level-first k (suc m) v h in
          let next : side v 1 * 2 ^ m - n ≡ v * 2 ^ suc m - n + 2 ^ m = omega (arith, second) in
          let size : 2 ^ suc m ≡ 2 ^ m + 2 ^ m = omega (arith, pow-succ' 2 m) in
          ap (λ z. count_in s (z - n) (2 ^ m) + count_in s (side v 1 * 2 ^ m - n) (2 ^ m)) (sym first)
          ∙ ap (λ z. count_in s (v * 2 ^ suc m - n) (2 ^ m) + count_in s z (2 ^ m)) next
          ∙ sym (count_in-add s (v * 2 ^ suc m - n) (2 ^ m) (2 ^ m)) ∙ ap (count_in s (v * 2 ^ suc m - n)) (sym size)

      parts : (b : ℕ) → b < 2 → length x ≡ count_in s (side v b * 2 ^ m - n) (2 ^ m) → length y ≡ count_in s (side v (1 - b) * 2 ^ m - n) (2 ^ m)
          → length x + length y ≡ count_in s (v * 2 ^ suc m - n) (2 ^ suc m)
      parts zero c p q = omega (arith, both)
      parts (suc zero) c p q = omega (arith, both)
      parts (suc (suc b)) c p q = absurd (omega arith)
