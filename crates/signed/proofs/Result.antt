-- Laws of answers as signed numbers: what 64 bits hold, and that the sign tells a refusal.
use mathlib.Core.Path.{◌≡◌, sym, ap}
use Prim.Native.Nat.{ℕ, zero, suc, ◌<◌, ◌^◌}
use native.Mathlib.Omega.{arith}
use lib.IntN.{ℤ, pos, neg_ℤ, ◌-ℤ◌, +ℤ_idl, pos-ne-negsuc}
use lib.Signed.{mag}
use mir.Syntax.{w64}
use mir.Val.{to_z, of_z}
use mir.ValLaws.{to_z_pos, to_z-of_z}
use Rattle.std.specs.Prelude.{Result, Ok, Err, MatchResult, IsOkAnd}
use Rattle.base.specs.declared.Refusal.{Refusal}
use Rattle.base.specs.Outcome.{Outcome, refuses, said}
use Rattle.base.proofs.Numbered.{IsNumber, Numbered, given, refusal}
use Rattle.signed.specs.Result.{itself, negative, largest, signed}
use Rattle.signed.specs.Result as result
use Rattle.signed.proofs.AtMost.{kept-below}

-- ---- 64 bits

-- a number below 2^63 is read as itself
pub read_count : (n : ℕ) → n < 2 ^ 63 → to_z w64 n ≡ pos n
read_count n h = to_z_pos w64 n h

-- 0 less a number is that number made negative
pub from_zero : (n : ℕ) → n < 2 ^ 63 → pos 0 -ℤ to_z w64 n ≡ neg_ℤ (pos n)
from_zero n h = rw (read_count n h) (+ℤ_idl (neg_ℤ (pos n)))

-- a result is handed on as it is
pub handed-on : (z : ℤ) → mag z < 2 ^ 63 → to_z w64 (of_z w64 z) ≡ z
handed-on z f = to_z-of_z w64 z (record { sfits = f })

-- ---- values and refusals

-- a value of 63 bits is given as it is
pub value-given : (v : ℕ) → v < largest → result.given v ≡ pos v
unfolding result.given
value-given v h = ap pos (kept-below largest v h)

-- the sign tells a refusal: a number of the table, made negative, is no value
not-value : (n c : ℕ) → IsNumber n → negative n ≡ pos c → ⊥
not-value zero c i e = let first = i.first in omega arith
not-value (suc n) c i e = pos-ne-negsuc c n (sym e)

pub sign-tells : {A : Type 0} (o : Outcome A) (n c : ℕ) → Numbered o → o ≡ refuses n → negative n ≡ pos c → ⊥
sign-tells o n c (given a) e = absurd (let z : ◌≡◌ {A = ℕ} 0 1 = cc in omega arith)
sign-tells o n c (refusal m i) e = let same : m ≡ n = cc in not-value n c (rw same at i)

-- ---- a value made into a number before it is answered

pub made-number : {A : Type 0} (number : A → ℕ) (gave : A → ℕ → Type 0) (a : Result A Refusal) (b : Result ℕ Refusal) → ((x : A) (n : ℕ) → gave x n → n ≡ number x)
    → MatchResult a (λ x. IsOkAnd b (gave x)) (λ e. b ≡ Err e) → signed itself (said b) ≡ signed number (said a)
unfolding signed
made-number number gave (Ok x) (Ok n) f m = ap result.given (f x n m)
made-number number gave (Ok x) (Err e) f m = absurd m
made-number number gave (Err e) b f m = rw m
