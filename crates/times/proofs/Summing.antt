-- Laws of an order's moves by the stops of path bytes: the stops of judged bytes, and the sum place by place.
use mathlib.Core.Path.{◌≡◌, refl, sym, ap, ap₂, ◌∙◌}
use mathlib.Core.Bool.{Bool, true, false, cond, ◌&&◌}
use mathlib.Core.List.{List}
use mathlib.Core.Logic.{◌⊎◌, inl, inr}
use native.Mathlib.Numerals.{add-one}
use Prim.Native.Nat.{ℕ, suc, pred, ◌+◌, ◌^◌, ◌≤◌, ◌<◌}
use native.Mathlib.Nat.{mul-le-mul_right}
use native.Mathlib.Omega.{arith}
use lib.Dec.{eqb}
use lib.ListN.{length, get_or}
use borrow.Author.Tests.{lt-leb, eq-eqb}
use Rattle.base.specs.Refusal.{out_of_range}
use Rattle.base.specs.Outcome.{gives, need, value}
use Rattle.stop.specs.declared.Stop.{Stop}
use Rattle.stop.specs.Stop.{in_range, good_point, good_coordinate, zero_stop}
use Rattle.path.specs.Path.{stop_in, stop_place, stop_size}
use Rattle.path.proofs.PlaceLaws.{size-range}
use Rattle.path.proofs.JudgeLaws.{JudgedBody}
use Rattle.tree.specs.Total.{moves, total}
use Rattle.times.specs.Time.{time, move_time}
use Rattle.times.specs.InPath.{time_of, time_in}
use Rattle.times.specs.Summing.{StopOf, Summed}
use Rattle.times.proofs.InPath.{time-small}
use Rattle.times.proofs.Table.{source-good}

-- ---- the stops of judged bytes

-- where a record does not lie within the bytes, no stop is in range
no_stop : in_range zero_stop ≡ false
unfolding in_range good_point good_coordinate
no_stop = refl

stop-past : (version i : ℕ) (bytes : List ℕ) → length bytes < stop_place version i + stop_size version → in_range (stop_in version i bytes) ≡ false
unfolding stop_in
stop-past version i bytes h = rw (lt-leb _ _ h) no_stop

-- of judged bytes the first 2^k are in range, and the others are not there
pub stops-of : (bytes : List ℕ) (version k : ℕ) → JudgedBody bytes version k → (i : ℕ) → StopOf (2 ^ k) i (stop_in version i bytes)
unfolding stop_place
stops-of bytes version k b i = record {
  good = λ h. source-good (2 ^ k) (λ j. stop_in version j bytes) i (stop_in version i bytes) b.range h refl;
  none = λ h. stop-past version i bytes (let far = mul-le-mul_right (stop_size version) h in omega (arith, b.size, (size-range version).0));
}

-- one of two nothings
nothing : (b : Bool) → ◌≡◌ {A = ℕ} (cond b 0 0) 0
nothing true = refl
nothing false = refl

-- from a stop to itself, and from and to a number that is no stop's, no time is taken
pub no-time : (n i j : ℕ) (a b : Stop) → StopOf n i a → StopOf n j b → (i ≡ j) ⊎ (((i ≡ j → ⊥) × (n ≤ i)) ⊎ ((i ≡ j → ⊥) × (i < n) × (n ≤ j))) → 0 ≡ time_of i a j b
unfolding time_of move_time
no-time n i j a b s t (inl e) = rw (eq-eqb i j e)
no-time n i j a b s t (inr (inl h)) = rw (s.none h.1) (sym (nothing (eqb i j)))
no-time n i j a b s t (inr (inr h)) = rw (t.none h.2) (sym (by (in_range a)))
  where
    by : (good : Bool) → cond (eqb i j) 0 (value 0 (need (good && false) out_of_range (gives (time a b)))) ≡ 0
    by true = nothing (eqb i j)
    by false = nothing (eqb i j)

-- ---- place by place

module _ (version : ℕ) (bytes : List ℕ) (order : List ℕ) where
  -- none
  pub summed-none : (first : ℕ) (stop : Stop) → first ≡ get_or order 0 0 → stop ≡ stop_in version first bytes → Summed version bytes order 0 0 first stop
  summed-none first stop f s = record { small = omega arith; sum = refl; number = f; stop = s }

  -- one more
  pub summed-more : (p sum sum' here next : ℕ) (from to : Stop) → Summed version bytes order p sum here from → next ≡ get_or order (p + 1) 0 → to ≡ stop_in version next bytes → sum' ≡ sum + time_of here from next to
      → Summed version bytes order (p + 1) sum' next to
  summed-more p sum sum' here next from to s t f e =
      let bound = time-small here from next to in
      let last : next ≡ get_or order (suc p) 0 = rw (add-one p) at t in
      let same : time_of here from next to ≡ time_in version bytes (get_or order p 0) (get_or order (suc p) 0) = rw (← s.number, ← last, ← f, ← s.stop) in
      record {
        small = omega (arith, s.small, bound, e);
        sum = rw (add-one p) (e ∙ ap₂ (λ (x y : ℕ). x + y) s.sum same);
        number = t;
        stop = f;
      }

  -- all
  pub summed-all : (p sum here : ℕ) (from : Stop) → Summed version bytes order p sum here from → p + 1 ≡ length order → sum ≡ total (time_in version bytes) order
  summed-all p sum here from s e =
      let last : p ≡ pred (length order) = omega arith in
      s.sum ∙ ap (moves (time_in version bytes) order) last
