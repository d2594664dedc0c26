-- Laws of bytes put into a buffer: one after the other is both at once.
use mathlib.Core.Path.{◌≡◌, refl, sym, ap, ◌∙◌}
use mathlib.Core.List.{List, [], ◌++◌, append_assoc, append-nil}
use Prim.Native.Nat.{ℕ, ◌+◌, ◌≤◌, ◌<◌}
use native.Mathlib.Nat.{zero-add, add-zero, add_assoc}
use native.Mathlib.Omega.{arith}
use lib.ListN.{length, take, drop, length-append, length-drop, take-append-drop}
use lib.Seq.{length-take-le, take_at, drop-drop, drop-append-add}
use lib.Dec.{leb}
use mathlib.Core.Bool.{Bool, true, false, cond}
use borrow.Author.Tests.{le-leb, lt-leb, leb-true}
use Rattle.records.specs.Put.{put}

pub put-fits : (s : List ℕ) (at : ℕ) (v : List ℕ) → at + length v ≤ length s → put s at v ≡ take at s ++ v ++ drop (at + length v) s
unfolding put
put-fits s at v h = rw (le-leb _ _ h)

pub put-short : (s : List ℕ) (at : ℕ) (v : List ℕ) → length s < at + length v → put s at v ≡ s
unfolding put
put-short s at v h = rw (lt-leb _ _ h)

module _ (s : List ℕ) (at : ℕ) (v w : List ℕ) (fits : at + (length v + length w) ≤ length s) where
  front : List ℕ
  front = take at s ++ v

  length_front : length front ≡ at + length v
  unfolding front
  length_front = rw (length-append, length-take-le at s (omega arith))

  -- two puts side by side are one
  pub put-put : put (put s at v) (at + length v) w ≡ put s at (v ++ w)
  unfolding front
  put-put =
      let fits-v : at + length v ≤ length s = omega arith in
      let whole : length (front ++ drop (at + length v) s) ≡ length s = rw (length-append, length_front, length-drop) (omega arith) in
      let fits-w : at + length v + length w ≤ length (front ++ drop (at + length v) s) = rw whole (omega arith) in
      let both : length (v ++ w) ≡ length v + length w = length-append v w in
      let fits_both : at + length (v ++ w) ≤ length s = omega arith in
      let past : drop (at + length v + length w) (front ++ drop (at + length v) s) ≡ drop (at + length v + length w) s =
      ap (λ (n : ℕ). drop (n + length w) (front ++ drop (at + length v) s)) (sym length_front)
      ∙ drop-append-add front (drop (at + length v) s) (length w)
      ∙ drop-drop (length w) (at + length v) s in
      rw (put-fits s at v fits-v)
      (put-fits (front ++ drop (at + length v) s) (at + length v) w fits-w
      ∙ rw (take_at front (drop (at + length v) s) (at + length v) length_front, past)
      (rw (put-fits s at (v ++ w) fits_both, both, ← add_assoc, ← append_assoc)))

pub length-put : (s : List ℕ) (at : ℕ) (v : List ℕ) → length (put s at v) ≡ length s
unfolding put
length-put s at v = pick (leb (at + length v) (length s)) refl
  where
    pick : (b : Bool) → leb (at + length v) (length s) ≡ b → length (cond b (take at s ++ v ++ drop (at + length v) s) s) ≡ length s
    pick true e = let h : at + length v ≤ length s = leb-true _ _ e in rw (length-append, length-append, length-take-le at s (omega arith), length-drop) (omega arith)
    pick false e = refl

-- what is put at the front
pub put_front : (s v : List ℕ) → length v ≤ length s → put s 0 v ≡ v ++ drop (length v) s
put_front s v h = put-fits s 0 v (rw zero-add h) ∙ rw zero-add

-- two puts side by side, and three, from the places that they were made at
pub put_two : (s : List ℕ) (at : ℕ) (v w t u : List ℕ) (i : ℕ) → at + (length v + length w) ≤ length s → i ≡ at + length v → t ≡ put s at v → u ≡ put t i w → u ≡ put s at (v ++ w)
put_two s at v w t u i fits ei et eu = eu ∙ rw (et, ei) (put-put s at v w fits)

pub put_three : (s : List ℕ) (at : ℕ) (v w x t u r : List ℕ) (i j : ℕ) → at + (length v + length w + length x) ≤ length s → i ≡ at + length v → j ≡ at + length v + length w → t ≡ put s at v → u ≡ put t i w → r ≡ put u j x → r ≡ put s at (v ++ w ++ x)
put_three s at v w x t u r i j fits ei ej et eu er =
    let both : length (v ++ w) ≡ length v + length w = length-append v w in
    put_two s at (v ++ w) x u r j (omega arith) (omega arith) (put_two s at v w t u i (omega arith) ei et eu) er

-- nothing put leaves the buffer
pub put-none : (s : List ℕ) (at : ℕ) → at ≤ length s → put s at [] ≡ s
put-none s at h =
    put-fits s at [] (omega (arith, add-zero at)) ∙ rw (add-zero, append-nil) (take-append-drop at s)
