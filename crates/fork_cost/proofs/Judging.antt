-- The call, from the path's judgement on: what it promises after each refusal, and after success.
use mathlib.Core.Path.{◌≡◌, sym, ap, ap₂, ◌∙◌}
use mathlib.Core.List.{List, ◌++◌}
use Prim.Native.Nat.{ℕ, ◌+◌, ◌/◌, ◌^◌, ◌≤◌, ◌<◌, min}
use native.Mathlib.Nat.{min-le_left, min-le_right, le-min}
use native.Mathlib.Decide.{dec_le}
use native.Mathlib.Omega.{arith}
use lib.ListN.{length, drop, length-replicate}
use borrow.Author.Tests.{le-leb, lt-leb, leb-true}
use Rattle.std.specs.Prelude.{Ok, Err}
use Rattle.base.specs.declared.Refusal.{Refusal}
use Rattle.base.specs.declared.Refusal.TheVariants.{NoSuchFork}
use Rattle.base.specs.Refusal.{wrong_size, refusal_number}
use Rattle.base.specs.Outcome.{gives, giving, refuses, number}
use Rattle.base.proofs.Numbered.{Numbered, given, need-numbered}
use Rattle.base.proofs.Outcome.{passed}
use Rattle.base.proofs.Size.{pow-le-1024}
use Rattle.path.specs.declared.PathBytes.{PathBytes}
use Rattle.path.specs.Bytes.{heading_of}
use Rattle.path.specs.Path.{read_path}
use Rattle.path.specs.Reading.{heading}
use lib.Dec.{leb}
use Rattle.screen.specs.Screen.{places_room}
use Rattle.screen.proofs.Screen.{GoodPath, good-path, places-few, places-good}
use Rattle.screen.proofs.Records.{fork-in, fork-out}
use Rattle.fork_cost.specs.declared.ForkCost.{ForkCost}
use Rattle.fork_cost.specs.Cost.{cost_room, cost_of_fork, fork_cost, cost_of, told, CostIsGiven}
use Rattle.fork_cost.specs.Local.{Judged, times_of, times_by, CostLeft}

-- ---- lengths

-- lengths that suffice
pub room-good : (totals pivots orders k : ℕ) → 2 ^ k + 2 ^ k ≤ totals → 2 ^ k + 2 ^ k ≤ pivots → 2 ^ k + 2 ^ k ≤ orders → cost_room totals pivots orders k ≡ gives tt
unfolding cost_room
room-good totals pivots orders k a b c = rw (le-leb _ _ a, le-leb _ _ b, le-leb _ _ c)

-- half of the least of them tells, as code has it
pub room-places : (totals pivots orders k : ℕ) → cost_room totals pivots orders k ≡ places_room (min (min totals pivots) orders / 2) k
unfolding cost_room
room-places totals pivots orders k = go (dec_le (2 ^ k + 2 ^ k) totals) (dec_le (2 ^ k + 2 ^ k) pivots) (dec_le (2 ^ k + 2 ^ k) orders)
  where
    least : ℕ
    least = min (min totals pivots) orders

    less : (least ≤ totals) × (least ≤ pivots) × (least ≤ orders)
    less =
        let a = min-le_left (min totals pivots) orders in
        (omega (arith, a, min-le_left totals pivots), omega (arith, a, min-le_right totals pivots), min-le_right (min totals pivots) orders)

    go : Dec (2 ^ k + 2 ^ k ≤ totals) → Dec (2 ^ k + 2 ^ k ≤ pivots) → Dec (2 ^ k + 2 ^ k ≤ orders) → cost_room totals pivots orders k ≡ places_room (least / 2) k
    go (no a) _ _ = rw (lt-leb (2 ^ k + 2 ^ k) totals (omega arith)) (sym (places-few (least / 2) k (omega (arith, less))))
    go (yes a) (no b) _ = rw (le-leb _ _ a, lt-leb (2 ^ k + 2 ^ k) pivots (omega arith)) (sym (places-few (least / 2) k (omega (arith, less))))
    go (yes a) (yes b) (no c) = rw (le-leb _ _ a, le-leb _ _ b, lt-leb (2 ^ k + 2 ^ k) orders (omega arith)) (sym (places-few (least / 2) k (omega (arith, less))))
    go (yes a) (yes b) (yes c) = let l : 2 ^ k + 2 ^ k ≤ least = le-min (le-min a b) c in room-good totals pivots orders k a b c ∙ sym (places-good (least / 2) k (omega (arith, l)))

-- a path that was judged with the least of the three lengths
pub path-good : (bytes : List ℕ) (highest totals pivots orders : ℕ) {two three : ℕ} → two ≡ min totals pivots → three ≡ min two orders → (p : PathBytes)
    → gives (heading_of p) ≡ giving heading (read_path bytes highest (places_room (three / 2))) → p.bytes.now ≡ bytes → GoodPath bytes highest (cost_room totals pivots orders) p
path-good bytes highest totals pivots orders e f p g h =
    good-path _ _ _ _ (room-places totals pivots orders) _ (ap (λ x. x / 2) (f ∙ ap (λ x. min x orders) e)) p g h

-- lengths that are not refused suffice
pub room-long : (totals pivots orders k : ℕ) → cost_room totals pivots orders k ≡ gives tt → (2 ^ k + 2 ^ k ≤ totals) × (2 ^ k + 2 ^ k ≤ pivots) × (2 ^ k + 2 ^ k ≤ orders)
unfolding cost_room
room-long totals pivots orders k e =
    let a = passed _ wrong_size _ (omega arith) (ap number e) in
    let b = passed _ wrong_size _ (omega arith) a.goes_on in
    let c = passed _ wrong_size _ (omega arith) b.goes_on in
    (leb-true _ _ a.holds, leb-true _ _ b.holds, leb-true _ _ c.holds)

-- a refusal of theirs has a number of the table
pub room-numbered : (totals pivots orders k : ℕ) → Numbered (cost_room totals pivots orders k)
unfolding cost_room
room-numbered totals pivots orders k =
    need-numbered (leb (2 ^ k + 2 ^ k) totals) wrong_size _ (omega arith) (omega arith)
    (need-numbered (leb (2 ^ k + 2 ^ k) pivots) wrong_size _ (omega arith) (omega arith)
    (need-numbered (leb (2 ^ k + 2 ^ k) orders) wrong_size (gives tt) (omega arith) (omega arith) (given tt)))

-- ---- refused

module _ (bytes : List ℕ) (highest fork : ℕ) (totals pivots orders : List ℕ) where
  -- the path is
  pub path-refused : (r : Refusal) → read_path bytes highest (cost_room (length totals) (length pivots) (length orders)) ≡ refuses (refusal_number r)
      → CostIsGiven (fork_cost bytes highest fork (length totals) (length pivots) (length orders)) totals pivots orders totals pivots orders (Err r)
  unfolding fork_cost
  path-refused r e = record { said = rw e; cleared_totals = rw e; cleared_pivots = rw e; cleared_orders = rw e }

  module _ (p : PathBytes) (good : GoodPath bytes highest (cost_room (length totals) (length pivots) (length orders)) p) where
    -- the fork is
    pub fork-refused : (1 ≤ fork → fork < 2 ^ p.k → ⊥) → CostIsGiven (fork_cost bytes highest fork (length totals) (length pivots) (length orders)) totals pivots orders totals pivots orders (Err NoSuchFork)
    unfolding fork_cost cost_of_fork
    fork-refused f = let e = fork-out p.k fork f in record { said = rw (good.reads, e); cleared_totals = rw (good.reads, e); cleared_pivots = rw (good.reads, e); cleared_orders = rw (good.reads, e) }

    -- for a number n that is 2^k the orders have 2n places, and n is small
    pub long : {n : ℕ} → n ≡ 2 ^ p.k → (n + n ≤ length orders) × (n ≤ 1024)
    long e = let l = room-long _ _ _ p.k good.takes in (omega (arith, e, l.2), omega (arith, e, pow-le-1024 p.k good.small))

    module _ (same : p.bytes.now ≡ bytes) where
      -- what the plans ask
      pub judged : Judged p (length totals) (length pivots)
      judged =
          let l = room-long _ _ _ p.k good.takes in
          record { small = good.small; body = rw same (ap number good.body.stops); rows = l.0; marks = l.1 }

      -- ---- answered
      pub cost-given : {n : ℕ} {totals' pivots' orders' : List ℕ} {r : ForkCost} → 1 ≤ fork → fork < 2 ^ p.k → n ≡ 2 ^ p.k → CostLeft p.k (times_by p) fork orders' totals pivots totals' pivots' r
          → CostIsGiven (fork_cost bytes highest fork (length totals) (length pivots) (length orders)) totals pivots orders totals' pivots' (orders' ++ drop (n + n) orders) (Ok r)
      unfolding fork_cost cost_of_fork
      cost-given {r = r} a b e l =
          let f = fork-in p.k fork a b in
          let given : told r ≡ cost_of p.k (times_of bytes p.version p.k) fork = rw same at l.given in
          record {
            said = rw (good.reads, f) (ap gives given);
            cleared_totals = rw (good.reads, f) l.space.rows;
            cleared_pivots = rw (good.reads, f) l.space.marks;
            cleared_orders = rw (good.reads, f) (ap₂ ◌++◌ l.orders (ap (λ m. drop m orders) (ap (λ x. x + x) e ∙ sym (length-replicate (2 ^ p.k + 2 ^ p.k) 0))));
          }
