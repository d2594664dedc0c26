-- The layouts of a stop's record: a version has none of the later fields, the blend, or blend and dwell. A law over versions is shown for each of
-- the three.
use mathlib.Core.Path.{◌≡◌, refl, sym, ◌∙◌}
use mathlib.Core.Bool.{Bool, true, false, true≢false, cond}
use Prim.Native.Nat.{ℕ, ◌+◌, ◌≤◌}
use native.Mathlib.Omega.{arith}
use lib.Dec.{leb}
use borrow.Author.Tests.{leb-true, leb-false}
use Rattle.records.specs.Record.{oldest_version, blend_since, dwell_since, later_fields}

pub data Layout (version : ℕ) : Type 0 where
  plain : leb blend_since version ≡ false → leb dwell_since version ≡ false → Layout version
  blended : leb blend_since version ≡ true → leb dwell_since version ≡ false → Layout version
  dwelling : leb blend_since version ≡ true → leb dwell_since version ≡ true → Layout version

pub layout : (version : ℕ) → Layout version
layout version = by (leb blend_since version) refl (leb dwell_since version) refl
  where
    by : (b : Bool) → leb blend_since version ≡ b → (d : Bool) → leb dwell_since version ≡ d → Layout version
    by false p false q = plain p q
    by false p true q = absurd (omega (arith, leb-false blend_since version p, leb-true dwell_since version q))
    by true p false q = blended p q
    by true p true q = dwelling p q

-- two later fields at most
pub later-few : (version : ℕ) → later_fields version ≤ 2
unfolding later_fields
later-few version = by (layout version)
  where
    by : Layout version → later_fields version ≤ 2
    by (plain p q) = rw p (omega arith)
    by (blended p q) = rw (p, q) (omega arith)
    by (dwelling p q) = rw (p, q) (omega arith)

-- the first of them is the blend, the second one the dwell
pub later-blend : (version : ℕ) → leb blend_since version ≡ true → 1 ≤ later_fields version
unfolding later_fields
later-blend version e = rw e (by (leb dwell_since version))
  where
    by : (d : Bool) → 1 ≤ cond d 2 1
    by true = omega arith
    by false = omega arith

pub later-dwell : (version : ℕ) → leb dwell_since version ≡ true → 2 ≤ later_fields version
unfolding later_fields
later-dwell version e = by (layout version)
  where
    by : Layout version → 2 ≤ later_fields version
    by (plain p q) = absurd (true≢false (sym e ∙ q))
    by (blended p q) = absurd (true≢false (sym e ∙ q))
    by (dwelling p q) = rw (p, q) (omega arith)

-- the version of a column of the table of lengths has that many
pub later-again : (version : ℕ) → later_fields (oldest_version + later_fields version) ≡ later_fields version
unfolding later_fields
later-again version = by (layout version)
  where
    by : Layout version → later_fields (oldest_version + later_fields version) ≡ later_fields version
    by (plain p q) = rw p
    by (blended p q) = rw (p, q)
    by (dwelling p q) = rw (p, q)
