-- The fields of a stop's record written out: where each stands in the content, what a version leaves out, and the parts that are written.
use mathlib.Core.Path.{◌≡◌, refl, sym, ◌∙◌}
use mathlib.Core.Bool.{Bool, true, false, cond, ◌&&◌, ◌||◌, not, and-true}
use mathlib.Core.List.{List, [], ◌∷◌, ◌++◌, append_assoc, append-nil}
use Prim.Native.Nat.{ℕ, ◌+◌, ◌≤◌, ◌<◌}
use lib.Dec.{leb, eqb}
use lib.ListN.{take, drop}
use lib.Seq.{drop-drop}
use borrow.Author.Tests.{le-leb, lt-leb, leb-true, not-false}
use native.Mathlib.Omega.{arith}
use Rattle.base.proofs.Bools.{or_left, or_right}
use Rattle.records.specs.Field.{number_of, bytes_of, signed, read_fields, write_fields}
use Rattle.records.specs.Record.{stop_fields, later_fields, blend_since, dwell_since}
use Rattle.records.proofs.Versions.{Layout, plain, blended, dwelling, layout}
use Rattle.stop.specs.declared.Stop.{Stop}
use Rattle.path.specs.Path.{stop_values, stop_of_values, stop_of}
use Rattle.path.specs.Written.{stop_content, point_bytes, pace_bytes, all_zero, loses_field}
use Rattle.path.specs.Local.{field_since, is_lost}
use Rattle.path.proofs.PlaceLaws.{window}

-- ---- what a content means

-- the stop of the fields that every version has, with this blend and dwell
abbrev stop_with : (s : List ℕ) (blend dwell : ℕ) → Stop
stop_with s blend dwell =
    record {
      at = signed (number_of (take 4 s)) ∷ signed (number_of (take 4 (drop 4 s))) ∷ signed (number_of (take 4 (drop 8 s))) ∷ [];
      speed = number_of (take 2 (drop 12 s));
      blend = blend;
      dwell = dwell;
    }

-- the stop that a content means, field by field
pub explicit-stop : (version : ℕ) (s : List ℕ) → stop_of version s ≡ stop_with s (field_since blend_since version (drop 14 s)) (field_since dwell_since version (drop 16 s))
unfolding stop_of stop_of_values read_fields stop_fields later_fields
explicit-stop version s = by (layout version)
  where
    by : Layout version → stop_of version s ≡ stop_with s (field_since blend_since version (drop 14 s)) (field_since dwell_since version (drop 16 s))
    by (plain p q) = rw (p, q, drop-drop 4 4 s, drop-drop 4 8 s)
    by (blended p q) = rw (p, q, drop-drop 4 4 s, drop-drop 4 8 s, drop-drop 2 12 s)
    by (dwelling p q) = rw (p, q, drop-drop 4 4 s, drop-drop 4 8 s, drop-drop 2 12 s, drop-drop 2 14 s)

-- a field that lies in the front, if the version has it, is the same field of the whole
pub since-window : (since version o m : ℕ) (s : List ℕ) → (leb since version ≡ true → o + 2 ≤ m) → field_since since version (drop o (take m s)) ≡ field_since since version (drop o s)
since-window since version o m s h = by (leb since version) refl
  where
    by : (b : Bool) → leb since version ≡ b → cond b (number_of (take 2 (drop o (take m s)))) 0 ≡ cond b (number_of (take 2 (drop o s))) 0
    by true e = rw (window 2 o m s (h e))
    by false e = refl

-- ---- what a stop is written as

-- the parts of its content
pub explicit-content : (version : ℕ) (s : Stop) → stop_content version s ≡ point_bytes s.at ++ pace_bytes version s.speed s.blend s.dwell
unfolding stop_content stop_values write_fields stop_fields point_bytes pace_bytes
explicit-content version s = simp append_assoc

-- what follows the speed
abbrev pub later_bytes : (version blend dwell : ℕ) → List ℕ
later_bytes version blend dwell = cond (leb blend_since version) (bytes_of 2 blend ++ cond (leb dwell_since version) (bytes_of 2 dwell) []) []

pub explicit-pace : (version speed blend dwell : ℕ) → pace_bytes version speed blend dwell ≡ bytes_of 2 speed ++ later_bytes version blend dwell
unfolding pace_bytes write_fields stop_fields later_fields
explicit-pace version speed blend dwell = by (layout version)
  where
    by : Layout version → pace_bytes version speed blend dwell ≡ bytes_of 2 speed ++ later_bytes version blend dwell
    by (plain p q) = rw p
    by (blended p q) = rw (p, q)
    by (dwelling p q) = rw (p, q, append-nil (bytes_of 2 dwell))

pub pace-plain : (version speed blend dwell : ℕ) → version < blend_since → pace_bytes version speed blend dwell ≡ bytes_of 2 speed
pace-plain version speed blend dwell h = explicit-pace version speed blend dwell ∙ rw (lt-leb _ _ h, append-nil)

pub pace-blended : (version speed blend dwell : ℕ) → blend_since ≤ version → version < dwell_since → pace_bytes version speed blend dwell ≡ bytes_of 2 speed ++ bytes_of 2 blend
pace-blended version speed blend dwell h k = explicit-pace version speed blend dwell ∙ rw (le-leb _ _ h, lt-leb _ _ k, append-nil)

pub pace-dwelling : (version speed blend dwell : ℕ) → blend_since ≤ version → dwell_since ≤ version → pace_bytes version speed blend dwell ≡ bytes_of 2 speed ++ bytes_of 2 blend ++ bytes_of 2 dwell
pace-dwelling version speed blend dwell h k = explicit-pace version speed blend dwell ∙ rw (le-leb _ _ h, le-leb _ _ k) (simp append_assoc)

-- ---- what a version leaves out

pub explicit-loss : (version : ℕ) (s : Stop) → loses_field version s ≡ (is_lost blend_since version s.blend || is_lost dwell_since version s.dwell)
unfolding loses_field all_zero stop_fields later_fields stop_values
explicit-loss version s = by (layout version)
  where
    neither : (a b : Bool) → not (a && b) ≡ (not a || not b)
    neither true b = refl
    neither false b = refl

    by : Layout version → loses_field version s ≡ (is_lost blend_since version s.blend || is_lost dwell_since version s.dwell)
    by (plain p q) = rw (p, q, and-true (eqb s.dwell 0)) (neither (eqb s.blend 0) (eqb s.dwell 0))
    by (blended p q) = rw (p, q, and-true (eqb s.dwell 0))
    by (dwelling p q) = rw (p, q)

-- a field that was read is not lost in its own version
pub own-kept : (since version : ℕ) (s : List ℕ) → is_lost since version (field_since since version s) ≡ false
own-kept since version s = by (leb since version)
  where
    by : (b : Bool) → not (b || eqb (cond b (number_of (take 2 s)) 0) 0) ≡ false
    by true = refl
    by false = refl

-- one that a version keeps is kept by every newer version
pub newer-keeps : (since version to value : ℕ) → version ≤ to → is_lost since version value ≡ false → is_lost since to value ≡ false
newer-keeps since version to value h = by (leb since version) refl
  where
    or-true : (b : Bool) → not (b || true) ≡ false
    or-true true = refl
    or-true false = refl

    by : (b : Bool) → leb since version ≡ b → not (b || eqb value 0) ≡ false → is_lost since to value ≡ false
    by true e k = rw (le-leb since to (omega (arith, leb-true since version e)))
    by false e k = rw (not-false (eqb value 0) k) (or-true (leb since to))

-- so a stop that was read loses nothing in its own version
pub field-kept : (version : ℕ) (content : List ℕ) → loses_field version (stop_of version content) ≡ false
field-kept version content =
    explicit-loss version (stop_of version content)
    ∙ rw (explicit-stop version content, own-kept blend_since version (drop 14 content), own-kept dwell_since version (drop 16 content))

-- a version that keeps every field of a stop is followed by versions that do
pub newer-field : (version to : ℕ) (s : Stop) → version ≤ to → loses_field version s ≡ false → loses_field to s ≡ false
newer-field version to s h e =
    let both : (is_lost blend_since version s.blend || is_lost dwell_since version s.dwell) ≡ false = sym (explicit-loss version s) ∙ e in
    let blend = or_left (is_lost blend_since version s.blend) (is_lost dwell_since version s.dwell) both in
    let dwell = or_right (is_lost blend_since version s.blend) (is_lost dwell_since version s.dwell) both in
    explicit-loss to s ∙ rw (newer-keeps blend_since version to s.blend h blend, newer-keeps dwell_since version to s.dwell h dwell)
