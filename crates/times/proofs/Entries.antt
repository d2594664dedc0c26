-- Laws of stops that were judged: four of them, and the entries of the table by them.
use mathlib.Core.Path.{◌≡◌, refl, sym, ◌∙◌}
use mathlib.Core.Bool.{true}
use mathlib.Core.List.{[], ◌∷◌}
use Prim.Native.Nat.{ℕ, zero, suc, ◌+◌, ◌≤◌, ◌<◌}
use native.Mathlib.Nat.{add-zero}
use native.Mathlib.Omega.{arith}
use Rattle.base.specs.Lists.{tabulate}
use Rattle.base.proofs.Lists.{get_or-tabulate}
use Rattle.stop.specs.declared.Stop.{Stop}
use Rattle.stop.specs.Stop.{zero_stop}
use Rattle.stop.specs.Lent.{all_in_range}
use Rattle.times.specs.Time.{time}
use Rattle.times.specs.Columns.{FourInRange, stop_of, times_from}
use Rattle.times.specs.Table.{entry_of}
use Rattle.times.proofs.Time.{time_between-self, time_between-other}
use Rattle.times.proofs.Table.{source-good}

-- ---- four of them

module _ (stops : ℕ → Stop) (i : ℕ) (a b c d : Stop) where
  -- neighbouring ones
  pub record AreFour : Type 0 where
    pub first : a ≡ stops i
    pub second : b ≡ stops (i + 1)
    pub third : c ≡ stops (i + 2)
    pub fourth : d ≡ stops (i + 3)

  module _ (four : AreFour) where
    one-of : (r : ℕ) → r < 4 → stop_of (a ∷ b ∷ c ∷ d ∷ []) r ≡ stops (i + r)
    one-of zero h = rw (add-zero i) four.first
    one-of (suc zero) h = four.second
    one-of (suc (suc zero)) h = four.third
    one-of (suc (suc (suc zero))) h = four.fourth
    one-of (suc (suc (suc (suc r)))) h = absurd (omega arith)

    -- they are in range
    pub four-good : (n : ℕ) → i + 4 ≤ n → all_in_range (tabulate n stops) ≡ true → FourInRange (a ∷ b ∷ c ∷ d ∷ [])
    four-good n h g = record { count = refl; good = λ r l. source-good n stops (i + r) _ g (omega arith) (one-of r l) }

    -- the times from them to another
    pub four-moves : (to : ℕ) (stop : Stop) → stop ≡ stops to → (r : ℕ) → r < 4 → times_from (a ∷ b ∷ c ∷ d ∷ []) stop r ≡ time (stops (i + r)) (stops to)
    four-moves to stop e r l = rw (one-of r l, e)

-- ---- the table's entries

module _ (n : ℕ) (stops : ℕ → Stop) where
  -- 0 on the diagonal, and the times of the moves elsewhere
  pub entry-same : (i : ℕ) → entry_of (tabulate n stops) i i ≡ 0
  unfolding entry_of
  entry-same i = time_between-self i i _ _ refl

  pub entry-moved : (i j : ℕ) → i < n → j < n → (j ≡ i → ⊥) → entry_of (tabulate n stops) i j ≡ time (stops i) (stops j)
  unfolding entry_of
  entry-moved i j h k d =
      time_between-other i j _ _ (λ e. d (sym e)) ∙ rw (get_or-tabulate n stops i zero_stop h, get_or-tabulate n stops j zero_stop k)
