-- Fields of bytes by single bytes: the number of several of them.
use mathlib.Core.Path.{◌≡◌}
use mathlib.Core.List.{List}
use Prim.Native.Nat.{ℕ, suc, ◌+◌, ◌*◌}
use native.Mathlib.Nat.{add-zero}
use lib.ListN.{take, drop, get_or}
use lib.Seq.{get_or-drop}
use Rattle.std.specs.Int.{byte_worth, sum_through}
use Rattle.records.specs.Field.{number_of}
use Rattle.records.proofs.ByteLaws.{number-sum}

pub number-at : (s : List ℕ) (at n : ℕ) → sum_through (λ i. byte_worth i (get_or s (at + i) 0)) n ≡ number_of (take (suc n) (drop at s))
number-at s at n = simp get_or-drop at (number-sum (drop at s) n)

pub number-two : (s : List ℕ) (at : ℕ) → get_or s at 0 + get_or s (at + 1) 0 * 256 ≡ number_of (take 2 (drop at s))
number-two s at = rw add-zero at (number-at s at 1)

pub number-four : (s : List ℕ) (at : ℕ) → get_or s at 0 + get_or s (at + 1) 0 * 256 + get_or s (at + 2) 0 * 65536 + get_or s (at + 3) 0 * 16777216 ≡ number_of (take 4 (drop at s))
number-four s at = rw add-zero at (number-at s at 3)
