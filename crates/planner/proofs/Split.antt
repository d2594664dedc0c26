-- Fixing the middle place of a block: what the pass asks, and that the pivot of the last place's stop is the right one.
use mathlib.Core.Path.{◌≡◌, sym, ap, ap₂, subst, ◌∙◌}
use mathlib.Core.Bool.{true}
use mathlib.Core.List.{List}
use Prim.Native.Nat.{ℕ, zero, suc, ◌+◌, ◌*◌, ◌-◌, ◌/◌, ◌^◌, ◌≤◌, ◌<◌}
use native.Mathlib.Omega.{arith}
use lib.ListN.{get_or, set}
use lib.Pow.{pow_pos}
use Rattle.tree.specs.Neighbour.{may_follow, in_place}
use Rattle.tree.proofs.Block.{block_of}
use Rattle.rows.specs.Costing.{Costing, block_graph}
use Rattle.rows.specs.Pass.{AlignedBlock, PassReady, RowHolds}
use Rattle.rows.proofs.Blocks.{pow-half}
use Rattle.planner.specs.Method.{stop_before, HoldsStops, LentSizes, LastReached, MiddleFixed}
use Rattle.planner.proofs.Halving.{base-follows, block_in, whole-block, pivot-found}
use Rattle.planner.proofs.Sizes.{sizes-small, sizes-pos, sizes-rows}

-- the stop before is a stop
before-below : {n : ℕ} {o : List ℕ} (left : ℕ) → 0 < n → left ≤ n → HoldsStops n o → stop_before o left < n
before-below zero pos h s = pos
before-below (suc l) pos h s = s.below l (omega arith)

-- two halves make a block
pub halves-size : {m half : ℕ} → 0 < m → half ≡ 2 ^ (m - 1) → half + half ≡ 2 ^ m
halves-size {m} h e = omega (arith, e, pow-half m h)

-- and with it fit the places
pub halves-fit : {n order totals pivots left m half : ℕ} → LentSizes n order totals pivots → 0 < m → AlignedBlock n left m → half ≡ 2 ^ (m - 1)
    → (half + half ≡ 2 ^ m) × (left + 2 ^ m ≤ n) × (n ≤ 1024)
halves-fit z some a h = (halves-size some h, a.inside, sizes-small z)

-- the block of stops around the last place's stop, and the stop before the block of places
pub record Around (n : ℕ) (o : List ℕ) (left m base before : ℕ) : Type 0 where
  pub stops : AlignedBlock n base m
  pub low : base ≤ in_place o (left + 2 ^ m - 1)
  pub high : in_place o (left + 2 ^ m - 1) < base + 2 ^ m
  pub earlier : before ≡ stop_before o left
  pub below : before < n
  pub follows : 0 < left → may_follow left before base ≡ true

-- the last place holds a stop
pub last-stop : {n left m : ℕ} {o : List ℕ} (last size : ℕ) → AlignedBlock n left m → HoldsStops n o → size ≡ 2 ^ m → last ≡ in_place o (left + size - 1) → last < n
last-stop {left = left} {m = m} last size a s e is = rw is (s.below (left + size - 1) (omega (arith, a.inside, pow_pos m, e)))

-- they are there
pub around : (C : Costing) {n left m before : ℕ} {o : List ℕ} (k last size : ℕ) → n ≡ 2 ^ k → AlignedBlock n left m → HoldsStops n o → LastReached C o left m → size ≡ 2 ^ m
    → last ≡ in_place o (left + size - 1) → before ≡ stop_before o left → Around n o left m (last / size * size) before
around C {n} {left} {m} {before} {o} k last size whole a s f e is earlier = record {
  stops = block;
  low = low;
  high = high;
  earlier = earlier;
  below = rw earlier (before-below left (omega (arith, a.inside, pow_pos m)) (omega (arith, a.inside)) s);
  follows = λ pos. rw earlier (base-follows C a block f low high pos);
}
  where
    end : last ≡ in_place o (left + 2 ^ m - 1)
    end = is ∙ ap (λ x. in_place o (left + x - 1)) e

    block : AlignedBlock n (last / size * size) m
    block = subst (λ x. AlignedBlock n (last / x * x) m) (sym e) (block_in k last whole a (last-stop last size a s e is))

    near : (last / size * size ≤ last) × (last < last / size * size + 2 ^ m)
    near = subst (λ x. (last / x * x ≤ last) × (last < last / x * x + 2 ^ m)) (sym e) (block_of m last)

    low : last / size * size ≤ in_place o (left + 2 ^ m - 1)
    low = omega (arith, near.0, end)

    high : in_place o (left + 2 ^ m - 1) < last / size * size + 2 ^ m
    high = omega (arith, near.1, end)

-- so the pass can be asked for
pub pass-ready : {n order totals pivots before left base m : ℕ} {o : List ℕ} → LentSizes n order totals pivots → 0 < m → AlignedBlock n left m
    → Around n o left m base before → PassReady n totals pivots before left base m
pass-ready z some a d = record { space = sizes-rows z; some = some; places = a; stops = d.stops; earlier = d.below; follows = d.follows }

-- and its row has the right pivot
pub middle-fixed : (C : Costing) {n left m base before half : ℕ} {o u B P : List ℕ} → 0 < m → half ≡ 2 ^ (m - 1) → Around n o left m base before
    → RowHolds (block_graph C before left) (2 ^ (m - 1) - 1) (2 ^ m - 1) n base (2 ^ m) B P → u ≡ set o (left + half - 1) (get_or P (n + in_place o (left + half + half - 1)) 0) → MiddleFixed C left m o u
middle-fixed C {n} {left} {m} {base} {before} {half} {o} {u} {B} {P} some h d row e =
    let last : ℕ = in_place o (left + 2 ^ m - 1) in
    let middle : left + half - 1 ≡ left + 2 ^ (m - 1) - 1 = ap (λ x. left + x - 1) h in
    let size : half + half ≡ 2 ^ m = halves-size some h in
    let end : left + half + half - 1 ≡ left + 2 ^ m - 1 = omega (arith, size) in
    record {
      pivot = get_or P (n + last) 0;
      stored = e ∙ ap₂ (λ x y. set o x (get_or P (n + in_place o y) 0)) middle end;
      right = λ c l x. pivot-found m last some (subst (λ z. RowHolds (block_graph C z left) (2 ^ (m - 1) - 1) (2 ^ m - 1) n base (2 ^ m) B P) d.earlier row) d.low d.high c l x;
    }

-- the pass over all places can be asked for
pub pass-whole : {n order totals pivots k : ℕ} → LentSizes n order totals pivots → 0 < k → n ≡ 2 ^ k → PassReady n totals pivots 0 0 0 k
pass-whole {k = k} z some e = record {
  space = sizes-rows z;
  some = some;
  places = whole-block e;
  stops = whole-block e;
  earlier = sizes-pos z;
  follows = λ pos. absurd (omega arith);
}
