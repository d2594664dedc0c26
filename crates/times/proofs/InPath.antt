-- Laws of times of path bytes: of judged bytes they are the times between the stops that the bytes mean.
use mathlib.Core.Path.{◌≡◌, refl}
use mathlib.Core.Bool.{Bool, true, false, cond, ◌&&◌}
use mathlib.Core.List.{List}
use Prim.Native.Nat.{ℕ, ◌+◌, ◌≤◌, ◌<◌}
use native.Mathlib.Omega.{arith}
use lib.Dec.{eqb}
use borrow.Author.Tests.{lt-leb}
use lib.ListN.{length}
use Rattle.base.specs.Refusal.{out_of_range}
use Rattle.base.specs.Outcome.{gives, need, value}
use Rattle.base.proofs.Lists.{get_or-tabulate}
use Rattle.stop.specs.declared.Stop.{Stop}
use Rattle.stop.specs.Stop.{zero_stop, good_coordinate, good_point, in_range}
use Rattle.stop.specs.Lent.{all_in_range}
use Rattle.path.specs.Path.{stop_in, stops_in, stop_place, stop_size}
use Rattle.times.specs.InPath.{time_of, time_in}
use Rattle.times.specs.Table.{entry_of}
use Rattle.times.specs.Time.{time, time_between, move_time, longest_time}
use Rattle.times.proofs.Table.{source-good}
use Rattle.times.proofs.Time.{move-good, time-bound}

pub time-in-path : (version n : ℕ) (bytes : List ℕ) → all_in_range (stops_in version n bytes) ≡ true → (from to : ℕ) → from < n → to < n → time_in version bytes from to ≡ entry_of (stops_in version n bytes) from to
unfolding time_of entry_of time_between
time-in-path version n bytes g from to h k =
    let stops : ℕ → Stop = λ i. stop_in version i bytes in
    let first = source-good n stops from (stops from) g h refl in
    let second = source-good n stops to (stops to) g k refl in
    rw (get_or-tabulate n stops from zero_stop h, get_or-tabulate n stops to zero_stop k, move-good (stops from) (stops to) first second)

-- a time has 32 bits
pub time-small : (i : ℕ) (a : Stop) (j : ℕ) (b : Stop) → time_of i a j b ≤ longest_time
unfolding time_of move_time
time-small i a j b = by_number (eqb i j) (in_range a) refl (in_range b) refl
  where
    by_number : (same first : Bool) → in_range a ≡ first → (second : Bool) → in_range b ≡ second → cond same 0 (value 0 (need (first && second) out_of_range (gives (time a b)))) ≤ longest_time
    by_number true first x second y = omega arith
    by_number false true x true y = time-bound a b x y
    by_number false true x false y = omega arith
    by_number false false x second y = omega arith

-- no bytes, no stop
stop-nowhere : (version i : ℕ) (bytes : List ℕ) → length bytes ≡ 0 → stop_in version i bytes ≡ zero_stop
unfolding stop_in stop_place
stop-nowhere version i bytes e = let out : length bytes < stop_place version i + stop_size version = omega (arith, e) in rw (lt-leb _ _ out)

-- and no time
zero-time : (i j : ℕ) → time_of i zero_stop j zero_stop ≡ 0
unfolding time_of move_time in_range good_point good_coordinate
zero-time i j = by_number (eqb i j)
  where
    by_number : (same : Bool) → cond same 0 (value 0 (move_time zero_stop zero_stop)) ≡ 0
    by_number true = refl
    by_number false = refl
