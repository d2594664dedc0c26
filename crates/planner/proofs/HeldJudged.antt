-- M-101: what an accepted call of planning with a fork held knows, and how its tests follow one another.
use mathlib.Core.Path.{◌≡◌, refl}
use mathlib.Core.List.{List}
use Prim.Native.Nat.{ℕ, ◌+◌, ◌*◌, ◌^◌, ◌≤◌, ◌<◌}
use native.Mathlib.Decide.{dec_le}
use native.Mathlib.Omega.{arith}
use lib.Dec.{ltb}
use borrow.Author.Tests.{ltb-true, lt-ltb, lt-leb, le-leb, eq-eqb}
use Rattle.base.specs.Outcome.{gives, number, done}
use Rattle.base.specs.Size.{stop_count}
use Rattle.base.proofs.Outcome.{number-first, passed, done-good}
use Rattle.base.proofs.Size.{stop_count-pow, pow-le-1024}
use Rattle.path.specs.Path.{body_after_head, stops_in}
use Rattle.path.proofs.JudgeLaws.{JudgedBody, body-good}
use Rattle.planner.specs.Plan.{plan_fits, plan_room}
use Rattle.planner.specs.HeldFork.{held_plan, plan_held}
use Rattle.planner.proofs.Judged.{Fit, judged}

-- the lengths are judged by as many stops as the code counts
pub room-counted : {n : ℕ} (k order totals pivots : ℕ) → n ≡ stop_count k → plan_room k (n * n) order totals pivots ≡ plan_room k (2 ^ k * 2 ^ k) order totals pivots
unfolding plan_room
room-counted {n} k order totals pivots e = rw e (go (dec_le k 10))
  where
    go : Dec (k ≤ 10) → plan_room k (stop_count k * stop_count k) order totals pivots ≡ plan_room k (2 ^ k * 2 ^ k) order totals pivots
    go (yes h) = rw (stop_count-pow k h)
    go (no h) = rw (lt-leb k 10 (omega arith))

-- there are at most 1,024 of them
pub count_small : (k : ℕ) → stop_count k ≤ 1024
unfolding stop_count
count_small k = go (dec_le k 10)
  where
    go : Dec (k ≤ 10) → stop_count k ≤ 1024
    go (yes h) = rw (stop_count-pow k h) (pow-le-1024 k h)
    go (no h) = rw (lt-leb k 10 (omega arith)) (omega arith)

module _ (bytes : List ℕ) (version k fork order totals pivots : ℕ) where
  -- what an accepted call knows
  pub record HeldFit : Type 0 where
    pub fit : Fit k (2 ^ k * 2 ^ k) order totals pivots
    pub body : JudgedBody bytes version k
    pub inside : fork < 2 ^ k

  -- lengths that suffice, judged bytes and a fork that is there are accepted
  pub held-fit : k ≤ 10 → number (body_after_head bytes version k) ≡ 0 → fork < 2 ^ k → 2 ^ k ≤ order → 2 ^ k + 2 ^ k ≤ totals → 2 ^ k + 2 ^ k ≤ pivots → HeldFit
  unfolding plan_room plan_fits
  held-fit small body b o t p = record {
    fit = record {
      small = small;
      square = refl;
      places = o;
      rows = t;
      marks = p;
      same = rw (le-leb _ _ small, eq-eqb (2 ^ k * 2 ^ k) (2 ^ k * 2 ^ k) refl, le-leb _ _ o, le-leb _ _ t, le-leb _ _ p);
    };
    body = body-good bytes version k body;
    inside = b;
  }

  -- and what it gives
  pub held_gives : HeldFit → (state : ℕ) → plan_held bytes version k fork state order totals pivots ≡ gives (held_plan k (stops_in version (2 ^ k) bytes) fork state)
  unfolding plan_held
  held_gives f state = rw (f.fit.same, f.body.stops, lt-ltb fork (2 ^ k) f.inside)

  pub held-judged : (state : ℕ) → number (plan_held bytes version k fork state order totals pivots) ≡ 0 → HeldFit
  unfolding plan_held
  held-judged state e =
      let room = judged k (2 ^ k * 2 ^ k) order totals pivots (number-first (plan_room k (2 ^ k * 2 ^ k) order totals pivots) _ e) in
      let rest = rw room.same at e in
      let body = body-good bytes version k (number-first (body_after_head bytes version k) _ rest) in
      let last = passed (ltb fork (2 ^ k)) 14 _ (omega arith) (rw body.stops at rest) in
      record { fit = room; body = body; inside = ltb-true _ _ last.holds }

-- the same of a `Result` that is no refusal
pub held-ok : {bytes : List ℕ} {version k fork order totals pivots : ℕ} (state : ℕ) {u : Unit} → gives u ≡ done (plan_held bytes version k fork state order totals pivots) → HeldFit bytes version k fork order totals pivots
held-ok {bytes} {version} {k} {fork} {order} {totals} {pivots} state e = held-judged bytes version k fork order totals pivots state (done-good (plan_held bytes version k fork state order totals pivots) e)
