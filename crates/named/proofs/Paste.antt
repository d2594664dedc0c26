-- What a copy into one of several blocks of n numbers leaves: that block is the copy, and every other is as it was.
use mathlib.Core.Path.{◌≡◌, sym, ap, ap₂, ◌∙◌}
use mathlib.Core.List.{List, ◌++◌, append_assoc}
use mathlib.Core.Logic.{◌≢◌}
use Prim.Native.Nat.{ℕ, suc, ◌+◌, ◌*◌, ◌-◌, ◌≤◌, ◌<◌}
use native.Mathlib.Nat.{zero-add, suc-mul, mul-le-mul_right}
use native.Mathlib.Decide.{dec_lt}
use native.Mathlib.Omega.{arith}
use lib.ListN.{length, length-drop, take, drop, take-append-drop}
use lib.Seq.{paste, drop-paste, take-take, length-take-le, take_at, drop_at, take-append-le, drop-append-le, drop-drop}
use borrow.Rule.Slice.PartMut.{put_mid}
use Rattle.std.proofs.lemmas.Slice.{put_mid-paste}
use Rattle.base.specs.Outcome.{over}

-- n places of a buffer, as a range of it has them
pub place-long : (l : List ℕ) (at n : ℕ) → at + n ≤ length l → length (take (at + n - at) (drop at l)) ≡ n
place-long l at n h =
    let e : at + n - at ≡ n = omega arith in
    rw e (length-take-le n (drop at l) (rw (length-drop at l) (omega arith)))

-- n numbers written over them, by the place and the count that they are known by
pub written-at : (at start n m : ℕ) (d s part : List ℕ) → part ≡ take n s → n ≤ length s → at ≡ start → n ≡ m → put_mid at (at + n - at) d part ≡ paste d start s m
written-at at start n m d s part e long f g =
    put_mid-paste at (at + n - at) d part (take n s) n e (omega arith) (sym (length-take-le n s long))
    ∙ ap (λ (l : List ℕ). take at d ++ l ++ drop (at + n) d) (take-take n n s (omega arith))
    ∙ ap₂ (λ (x y : ℕ). paste d x s y) f g

-- a copy to the front
pub paste-front : (d s : List ℕ) (n : ℕ) → n ≤ length s → paste d 0 s n ≡ over (take n s) d
paste-front d s n long = ap (λ (i : ℕ). take n s ++ drop i d) (zero-add n ∙ sym (length-take-le n s long))

module _ (d : List ℕ) (at : ℕ) (s : List ℕ) (n : ℕ) (room : at + n ≤ length d) (long : n ≤ length s) where
  -- the block itself
  pub paste-block : take n (drop at (paste d at s n)) ≡ take n s
  paste-block =
      ap (λ (l : List ℕ). take n (drop at l)) (append_assoc (take at d) (take n s) (drop (at + n) d))
      ∙ ap (take n) (drop_at (take at d) (take n s ++ drop (at + n) d) at (length-take-le at d (omega arith)))
      ∙ take_at (take n s) (drop (at + n) d) n (length-take-le n s long)

  -- what lies behind it
  pub paste-behind : (b : ℕ) → at + n ≤ b → drop b (paste d at s n) ≡ drop b d
  paste-behind b h =
      let j : ℕ = b - (at + n) in
      let e : at + n + j ≡ b = omega arith in
      ap (λ (i : ℕ). drop i (paste d at s n)) (sym e)
      ∙ sym (drop-drop j (at + n) (paste d at s n))
      ∙ ap (drop j) (drop-paste d at s n (omega arith) long)
      ∙ drop-drop j (at + n) d
      ∙ ap (λ (i : ℕ). drop i d) e

  -- a block before it
  pub paste-before : (b : ℕ) → b + n ≤ at → take n (drop b (paste d at s n)) ≡ take n (drop b d)
  paste-before b h =
      ap (λ (l : List ℕ). take n (drop b l)) (append_assoc (take at d) (take n s) (drop (at + n) d))
      ∙ front (take n s ++ drop (at + n) d)
      ∙ sym (front (drop at d))
      ∙ ap (λ (l : List ℕ). take n (drop b l)) (take-append-drop at d)
    where
      front : (rest : List ℕ) → take n (drop b (take at d ++ rest)) ≡ take n (drop b (take at d))
      front rest =
          let e : length (take at d) ≡ at = length-take-le at d (omega arith) in
          let l : n ≤ length (drop b (take at d)) = rw (length-drop b (take at d), e) (omega arith) in
          ap (take n) (drop-append-le b (take at d) rest (omega arith)) ∙ take-append-le n (drop b (take at d)) rest l

-- block a of n numbers ends where a later one begins, or before
pub blocks-apart : (a b n : ℕ) → a < b → a * n + n ≤ b * n
blocks-apart a b n l = rw (← suc-mul a n) (mul-le-mul_right {m = suc a} {n = b} n l)

-- another block of the same size
pub paste-other : (d : List ℕ) (a b : ℕ) (s : List ℕ) (n : ℕ) → a * n + n ≤ length d → n ≤ length s → a ≢ b
    → take n (drop (b * n) (paste d (a * n) s n)) ≡ take n (drop (b * n) d)
paste-other d a b s n room long apart = go (dec_lt a b) (dec_lt b a)
  where
    go : Dec (a < b) → Dec (b < a) → take n (drop (b * n) (paste d (a * n) s n)) ≡ take n (drop (b * n) d)
    go (yes l) _ = ap (take n) (paste-behind d (a * n) s n room long (b * n) (blocks-apart a b n l))
    go (no _) (yes l) = paste-before d (a * n) s n room long (b * n) (blocks-apart b a n l)
    go (no x) (no y) = absurd (apart (omega arith))
