-- One stop written and read again, both ways: the content of a stop in range means that stop, and the content that a stop was read from is what
-- it is written as.
use mathlib.Core.Path.{◌≡◌, refl, sym, ap, ◌∙◌}
use mathlib.Core.Bool.{Bool, true, false, cond, ◌||◌, not}
use mathlib.Core.List.{List, [], ◌++◌, append_assoc, append-nil}
use Prim.Native.Nat.{ℕ, ◌+◌, ◌*◌, ◌^◌, ◌≤◌, ◌<◌}
use native.Mathlib.Omega.{arith}
use lib.Dec.{leb, eqb}
use lib.IntN.{ℤ, nat_abs}
use lib.ListN.{length, take, drop, length-append, length-drop, take-append-drop, drop_of_length-le}
use lib.Seq.{take_at, drop_at, drop-drop, take_all, length-take-le}
use borrow.Author.Tests.{leb-true, le-leb, eqb-true, not-false}
use Rattle.records.specs.Field.{number_of, bytes_of, are_bytes, signed, unsigned}
use Rattle.base.proofs.Bools.{or_left, or_right}
use Rattle.records.specs.Record.{record_length, later_fields, blend_since, dwell_since}
use Rattle.records.proofs.FieldLaws.{length-bytes_of, number-bytes_of, bytes_of-number, number_lt, signed-unsigned, unsigned_signed, unsigned-lt, are_bytes-take, are_bytes-drop}
use Rattle.records.proofs.LengthLaws.{stop-length}
use Rattle.records.proofs.Versions.{Layout, plain, blended, dwelling, layout}
use Rattle.stop.specs.declared.Stop.{Stop}
use Rattle.stop.specs.Stop.{in_range, coordinate}
use Rattle.stop.proofs.Limits.{good, Good}
use Rattle.stop.proofs.Lent.{three-is}
use Rattle.path.specs.Path.{stop_of}
use Rattle.path.specs.Written.{point_bytes, pace_bytes, stop_content, loses_field}
use Rattle.path.specs.Local.{field_since, is_lost}
use Rattle.path.proofs.StopFields.{explicit-stop, explicit-content, explicit-pace, explicit-loss, later_bytes}
use Rattle.path.proofs.StopLaws.{same_stop}

-- a field between what stands before it and after it
field_at : (w o : ℕ) (s before field after : List ℕ) → s ≡ before ++ (field ++ after) → length before ≡ o → length field ≡ w → take w (drop o s) ≡ field
field_at w o s before field after e lb lf = rw (e, drop_at before (field ++ after) o lb) (take_at field after w lf)

coordinate-back : (z : ℤ) → nat_abs z ≤ 20000 → z ≡ signed (number_of (bytes_of 4 (unsigned z)))
coordinate-back z h =
    let small : nat_abs z < 2 ^ 31 = omega arith in
    sym (rw (number-bytes_of 4 (unsigned z) (unsigned-lt z small)) (signed-unsigned z small))

-- ---- written, then read

module _ (version : ℕ) (s : Stop) where
  field : ℕ → List ℕ
  field i = bytes_of 4 (unsigned (coordinate s i))

  pace : List ℕ
  pace = pace_bytes version s.speed s.blend s.dwell

  fields-are : stop_content version s ≡ field 0 ++ (field 1 ++ (field 2 ++ pace))
  unfolding point_bytes field pace
  fields-are = rw (explicit-content version s) (simp append_assoc)

  module _ (g : Good s) where
    back-x : coordinate s 0 ≡ signed (number_of (take 4 (stop_content version s)))
    unfolding field
    back-x =
        coordinate-back (coordinate s 0) g.x
        ∙ ap (λ (l : List ℕ). signed (number_of l)) (sym (field_at 4 0 _ [] (field 0) (field 1 ++ (field 2 ++ pace)) fields-are refl (length-bytes_of 4 _)))

    back-y : coordinate s 1 ≡ signed (number_of (take 4 (drop 4 (stop_content version s))))
    unfolding field
    back-y =
        coordinate-back (coordinate s 1) g.y
        ∙ ap (λ (l : List ℕ). signed (number_of l)) (sym (field_at 4 4 _ (field 0) (field 1) (field 2 ++ pace) fields-are (length-bytes_of 4 _) (length-bytes_of 4 _)))

    back-z : coordinate s 2 ≡ signed (number_of (take 4 (drop 8 (stop_content version s))))
    unfolding field
    back-z =
        coordinate-back (coordinate s 2) g.z
        ∙ ap (λ (l : List ℕ). signed (number_of l))
        (sym (field_at 4 8 _ (field 0 ++ field 1) (field 2) pace (fields-are ∙ simp append_assoc) (rw (length-append, length-bytes_of, length-bytes_of)) (length-bytes_of 4 _)))

    front : List ℕ
    front = field 0 ++ field 1 ++ field 2

    length_front : length front ≡ 12
    unfolding front field
    length_front = rw (length-append, length-append, length-bytes_of, length-bytes_of, length-bytes_of)

    pace-after : stop_content version s ≡ front ++ pace
    unfolding front
    pace-after = fields-are ∙ simp append_assoc

    -- the speed, and what follows it
    later : List ℕ
    later = later_bytes version s.blend s.dwell

    speed-after : stop_content version s ≡ front ++ (bytes_of 2 s.speed ++ later)
    unfolding pace later
    speed-after = pace-after ∙ ap (λ (l : List ℕ). front ++ l) (explicit-pace version s.speed s.blend s.dwell)

    back-speed : s.speed ≡ number_of (take 2 (drop 12 (stop_content version s)))
    back-speed =
        sym (ap number_of (field_at 2 12 _ front (bytes_of 2 s.speed) later speed-after length_front (length-bytes_of 2 _))
        ∙ number-bytes_of 2 s.speed (omega (arith, g.fast)))

    -- a field that the version has, where it stands; and any other is 0
    back-since : (since o value : ℕ) → value < 65536 → (leb since version ≡ true → take 2 (drop o (stop_content version s)) ≡ bytes_of 2 value) → is_lost since version value ≡ false → value ≡ field_since since version (drop o (stop_content version s))
    back-since since o value small at = by (leb since version) refl
      where
        by : (b : Bool) → leb since version ≡ b → not (b || eqb value 0) ≡ false → value ≡ cond b (number_of (take 2 (drop o (stop_content version s)))) 0
        by true e k = sym (ap number_of (at e) ∙ number-bytes_of 2 value (omega arith))
        by false e k = eqb-true _ _ (not-false _ k)

    -- the blend stands after the speed
    blend-at : leb blend_since version ≡ true → take 2 (drop 14 (stop_content version s)) ≡ bytes_of 2 s.blend
    unfolding later
    blend-at e =
        field_at 2 14 _ (front ++ bytes_of 2 s.speed) (bytes_of 2 s.blend) (cond (leb dwell_since version) (bytes_of 2 s.dwell) [])
        (speed-after ∙ rw e (sym (append_assoc front (bytes_of 2 s.speed) _)))
        (rw (length-append, length_front, length-bytes_of))
        (length-bytes_of 2 _)

    -- and the dwell after the blend
    dwell-at : leb dwell_since version ≡ true → take 2 (drop 16 (stop_content version s)) ≡ bytes_of 2 s.dwell
    unfolding later
    dwell-at e =
        let newer : leb blend_since version ≡ true = le-leb blend_since version (omega (arith, leb-true dwell_since version e)) in
        field_at 2 16 _ (front ++ bytes_of 2 s.speed ++ bytes_of 2 s.blend) (bytes_of 2 s.dwell) []
        (speed-after ∙ rw (newer, e) (simp (append_assoc, append-nil)))
        (rw (length-append, length-append, length_front, length-bytes_of, length-bytes_of))
        (length-bytes_of 2 _)

  -- the content of a stop in range that loses no field means the stop
  pub stop-back : in_range s ≡ true → loses_field version s ≡ false → stop_of version (stop_content version s) ≡ s
  stop-back r kept =
      let g = good s r in
      let both : (is_lost blend_since version s.blend || is_lost dwell_since version s.dwell) ≡ false = sym (explicit-loss version s) ∙ kept in
      sym (same_stop version (stop_content version s) (back-x g) (back-y g) (back-z g) (back-speed g)
      (back-since g blend_since 14 s.blend (omega (arith, g.blend)) (blend-at g) (or_left (is_lost blend_since version s.blend) (is_lost dwell_since version s.dwell) both))
      (back-since g dwell_since 16 s.dwell (omega (arith, g.dwell)) (dwell-at g) (or_right (is_lost blend_since version s.blend) (is_lost dwell_since version s.dwell) both)))
      ∙ ap (λ (l : List ℤ). record { at = l; speed = s.speed; blend = s.blend; dwell = s.dwell }) (three-is s.at g.three)

-- ---- read, then written

module _ (c : List ℕ) (bytes : are_bytes c ≡ true) where
  pub plain_back : (w o : ℕ) → o + w ≤ length c → bytes_of w (number_of (take w (drop o c))) ≡ take w (drop o c)
  plain_back w o h =
      let len : length (take w (drop o c)) ≡ w = length-take-le w (drop o c) (rw length-drop (omega arith)) in
      ap (λ (n : ℕ). bytes_of n (number_of (take w (drop o c)))) (sym len)
      ∙ bytes_of-number (take w (drop o c)) (are_bytes-take w (drop o c) (are_bytes-drop o c bytes))

  signed_back : (o : ℕ) → o + 4 ≤ length c → bytes_of 4 (unsigned (signed (number_of (take 4 (drop o c))))) ≡ take 4 (drop o c)
  signed_back o h =
      let len : length (take 4 (drop o c)) ≡ 4 = length-take-le 4 (drop o c) (rw length-drop (omega arith)) in
      let small : number_of (take 4 (drop o c)) < 2 ^ 32 = rw len at (number_lt (take 4 (drop o c)) (are_bytes-take 4 (drop o c) (are_bytes-drop o c bytes))) in
      rw (unsigned_signed (number_of (take 4 (drop o c))) small) (plain_back 4 o h)

  -- what comes after a part is that part's next one and what comes after it
  part_then : (w o : ℕ) → take w (drop o c) ++ drop (o + w) c ≡ drop o c
  part_then w o = ap (λ (l : List ℕ). take w (drop o c) ++ l) (sym (drop-drop w o c)) ∙ take-append-drop w (drop o c)

  point-back : 14 ≤ length c → bytes_of 4 (unsigned (signed (number_of (take 4 c)))) ++ bytes_of 4 (unsigned (signed (number_of (take 4 (drop 4 c))))) ++ bytes_of 4 (unsigned (signed (number_of (take 4 (drop 8 c))))) ++ (bytes_of 2 (number_of (take 2 (drop 12 c))) ++ drop 14 c) ≡ c
  point-back h =
      rw (signed_back 0 (omega arith), signed_back 4 (omega arith), signed_back 8 (omega arith), plain_back 2 12 (omega arith), part_then 2 12)
      (simp append_assoc (rw (part_then 4 8, part_then 4 4) (part_then 4 0)))

  -- the rest of a content of the version's length
  rest_back : (version : ℕ) → 2 + length c ≡ record_length 2 version 0 → later_bytes version (field_since blend_since version (drop 14 c)) (field_since dwell_since version (drop 16 c)) ≡ drop 14 c
  unfolding later_fields
  rest_back version size = by (layout version) (stop-length version)
    where
      by : Layout version → record_length 2 version 0 ≡ 16 + 2 * later_fields version → later_bytes version (field_since blend_since version (drop 14 c)) (field_since dwell_since version (drop 16 c)) ≡ drop 14 c
      by (plain p q) l =
          let long : record_length 2 version 0 ≡ 16 = rw p at l in
          rw p (sym (drop_of_length-le c {i = 14} (omega arith)))
      by (blended p q) l =
          let long : record_length 2 version 0 ≡ 18 = rw (p, q) at l in
          rw (p, q, append-nil) (plain_back 2 14 (omega arith) ∙ take_all 2 (drop 14 c) (rw length-drop (omega arith)))
      by (dwelling p q) l =
          let long : record_length 2 version 0 ≡ 20 = rw (p, q) at l in
          let last : take 2 (drop 16 c) ≡ drop 16 c = take_all 2 (drop 16 c) (rw length-drop (omega arith)) in
          rw (p, q, plain_back 2 14 (omega arith), plain_back 2 16 (omega arith), last) (part_then 2 14)

  -- a content of the version's length is that of the stop it means
  pub content-back : (version : ℕ) → 2 + length c ≡ record_length 2 version 0 → stop_content version (stop_of version c) ≡ c
  unfolding point_bytes
  content-back version size =
      rw (explicit-content version (stop_of version c), explicit-stop version c, explicit-pace, rest_back version size) (point-back (omega (arith, stop-length version)))
