-- Laws of places in path bytes: where the record of a stop begins, and what a place past the end leaves.
use mathlib.Core.Path.{◌≡◌, refl, sym}
use mathlib.Core.Bool.{Bool, true, false}
use mathlib.Core.List.{List, [], ◌∷◌}
use Prim.Native.Nat.{ℕ, zero, suc, ◌+◌, ◌*◌, ◌≤◌, ◌<◌, min}
use native.Mathlib.Nat.{mul-le-mul_left, mul-le-mul_right, suc-mul, zero-add, zero-mul}
use native.Mathlib.Omega.{arith}
use lib.Dec.{leb}
use lib.ListN.{length, take, drop, drop_of_length-le}
use lib.Seq.{take-take}
use borrow.Author.Tests.{leb-true, leb-false, le-leb}
use Rattle.records.specs.Record.{record_length, later_fields, blend_since, dwell_since}
use Rattle.records.proofs.LengthLaws.{stop-length}
use Rattle.records.proofs.Versions.{later-few, later-blend, later-dwell}
use Rattle.path.specs.Path.{stop_place, stop_size}

-- a stop's record takes 18 bytes, and 2 for each of the later fields that its version has
pub size-later : (version : ℕ) → stop_size version ≡ 18 + 2 * later_fields version
unfolding stop_size
size-later version = rw (stop-length version) (omega arith)

-- and so many in the newest version
abbrev pub largest_stop : ℕ
largest_stop = 22

pub size-range : (version : ℕ) → (18 ≤ stop_size version) × (stop_size version ≤ largest_stop)
size-range version = rw (size-later version) (omega (arith, later-few version))

-- a version that has the blend, and one that has the dwell
pub size-blend : (version : ℕ) → blend_since ≤ version → 20 ≤ stop_size version
size-blend version h = rw (size-later version) (omega (arith, later-blend version (le-leb _ _ h)))

pub size-dwell : (version : ℕ) → dwell_since ≤ version → largest_stop ≤ stop_size version
size-dwell version h = rw (size-later version) (omega (arith, later-dwell version (le-leb _ _ h)))

pub size-length : (version : ℕ) → stop_size version ≡ 2 + record_length 2 version 0
unfolding stop_size
size-length version = refl

pub place-zero : (version : ℕ) → stop_place version 0 ≡ 8
unfolding stop_place
place-zero version = rw zero-mul

pub place_is : (version i : ℕ) → stop_place version i ≡ 8 + i * stop_size version
unfolding stop_place
place_is version i = refl

pub place-suc : (version i : ℕ) → stop_place version (suc i) ≡ stop_place version i + stop_size version
unfolding stop_place
place-suc version i = rw suc-mul (omega arith)

-- a stop's place, by the least and the largest size of those before it
pub place-range : (version i : ℕ) → (8 + i * 18 ≤ stop_place version i) × (stop_place version i ≤ 8 + i * largest_stop)
place-range version i =
    let low : i * 18 ≤ i * stop_size version = mul-le-mul_left i (size-range version).0 in
    let high : i * stop_size version ≤ i * largest_stop = mul-le-mul_left i (size-range version).1 in
    rw (place_is version i) (omega arith)

-- one more stop before another lies before it
pub next_place : (i n size : ℕ) → i < n → i * size + size ≤ n * size
next_place i n size h = rw suc-mul at (mul-le-mul_right size h)

-- so the record of stop i lies within bytes that the places of n stops lie within
pub place-within : (version i n room : ℕ) → i < n → stop_place version n ≤ room → stop_place version i + stop_size version ≤ room
place-within version i n room h r =
    let next : i * stop_size version + stop_size version ≤ n * stop_size version = next_place i n (stop_size version) h in
    omega (arith, place_is version i, place_is version n)

-- past the end every place leaves nothing
pub drop-min-add : (d a b : ℕ) (s : List ℕ) → length s ≤ b → drop (d + min a b) s ≡ drop (d + a) s
drop-min-add d a b s h = pick (leb a b) refl
  where
    pick : (t : Bool) → leb a b ≡ t → drop (d + min a b) s ≡ drop (d + a) s
    pick true e =
        let le : a ≤ b = leb-true _ _ e in
        let m : min a b ≡ a = omega arith in
        rw m
    pick false e =
        let lt : b < a = leb-false _ _ e in
        let m : min a b ≡ b = omega arith in
        rw (m, drop_of_length-le s {i = d + b} (omega arith)) (sym (drop_of_length-le s {i = d + a} (omega arith)))

pub drop_min : (a b : ℕ) (s : List ℕ) → length s ≤ b → drop (min a b) s ≡ drop a s
drop_min a b s h = rw (zero-add, zero-add) at (drop-min-add 0 a b s h)

-- a part that lies in the front is a part of the whole
pub window : (w o m : ℕ) (s : List ℕ) → o + w ≤ m → take w (drop o (take m s)) ≡ take w (drop o s)
window w zero m s h = take-take w m s (omega arith)
window w (suc o) zero s h = absurd (omega arith)
window w (suc o) (suc m) [] h = refl
window w (suc o) (suc m) (b ∷ s) h = window w o m s (omega arith)
