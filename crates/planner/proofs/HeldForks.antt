-- M-101: A FORK HELD IN A STATE, by the bytes of a path. What fits a place is the admissible pairs of costs, so the walks are those of the graph that draws the
-- total of the sets that hold the fork, and the best one is the order that is wanted among them.
use mathlib.Core.Path.{◌≡◌, refl, sym, ap, ap₂, ◌∙◌}
use mathlib.Core.Bool.{Bool, true, false}
use mathlib.Core.List.{List}
use Prim.Native.Nat.{ℕ, zero, suc, ◌+◌, ◌*◌, ◌-◌, ◌/◌, ◌%◌, ◌^◌, ◌≤◌, ◌<◌}
use native.Mathlib.Nat.{mul-add-div_right, mul-le-mul_left, mul-le-mul_right, mul-add, le_of_mul-le-mul_right, lt_of_mul-lt-mul_right}
use native.Mathlib.Decide.{dec_lt}
use native.Mathlib.Omega.{arith}
use lib.ListN.{length}
use lib.Pow.{pow_pos, pow_mono, pow-add}
use Rattle.walks.specs.Best.{at, plan}
use Rattle.stop.specs.declared.Stop.{Stop}
use Rattle.stop.specs.Lent.{all_in_range}
use Rattle.path.specs.Path.{stops_in}
use Rattle.times.specs.InPath.{time_in}
use Rattle.times.specs.Table.{entry_of}
use Rattle.times.proofs.InPath.{time-in-path}
use Rattle.tree.specs.Fork.{fork_above}
use Rattle.tree.specs.Layers.{layers}
use Rattle.tree.specs.Order.{order_of}
use Rattle.tree.specs.Total.{total}
use Rattle.tree.specs.Wanted.{wanted, backward, Settled}
use Rattle.tree.proofs.Compare.{wanted-alike}
use Rattle.tree.proofs.Diagonal.{total-same}
use Rattle.tree.proofs.Layers.{tree_graph-open}
use Rattle.tree.proofs.Open.{open-plan}
use Rattle.tree.proofs.Wanted.{length-wanted}
use Rattle.costs.specs.Graphs.{AtDepth, admissible}
use Rattle.costs.proofs.Held.{held-plan, held-some, held-settled}
use Rattle.std.specs.Prelude.{Option, None, Some, Ok}
use Rattle.rows.specs.declared.fork.Held.{Held}
use Rattle.rows.specs.Source.{held_fits, path_costing}
use Rattle.base.specs.Outcome.{Outcome, gives}
use Rattle.planner.specs.declared.Planned.{Planned}
use Rattle.planner.specs.Method.{all_walks, LeftByMethod}
use Rattle.planner.specs.Places.{OrderIsWritten}
use Rattle.planner.specs.HeldFork.{LevelOf, HoldsFork, holding, state_of, held_plan}
use Rattle.planner.specs.Plan.{Plan}
use Rattle.planner.proofs.ByTable.{walks-layers, layers-same}
use Rattle.planner.proofs.Written.{written-best}

-- ---- the level of a fork

-- 2^level is below 1,024
pub level-small : {n fork level : ℕ} → n ≤ 1024 → 0 < fork → fork * 2 ^ level < n → level < 10
level-small {n} {fork} {level} h pos l = go (dec_lt level 10)
  where
    go : Dec (level < 10) → level < 10
    go (yes x) = x
    go (no x) =
        let tall : 2 ^ 10 ≤ 2 ^ level = pow_mono {i = 10} {j = level} (omega arith) in
        let wide : 1 * 2 ^ level ≤ fork * 2 ^ level = mul-le-mul_right (2 ^ level) pos in
        absurd (omega (arith, tall, wide, l, h))

-- the level is that of the largest number by which the fork's own stays below n
pub level-found : {n fork level : ℕ} → 0 < fork → fork < n → 2 ^ level ≤ (n - 1) / fork → (n - 1) / fork < 2 * 2 ^ level → LevelOf n fork level
level-found {n} {fork} {level} pos h a b =
    let x : ℕ = (n - 1) / fork in
    let parts : fork * x + (n - 1) % fork ≡ n - 1 = omega arith in
    let rest : (n - 1) % fork < fork = omega arith in
    let low : fork * 2 ^ level ≤ fork * x = mul-le-mul_left fork a in
    let high : fork * (x + 1) ≤ fork * 2 ^ (level + 1) = mul-le-mul_left fork (omega (arith, pow-add 2 level 1)) in
    record { inside = omega arith; whole = omega (arith, mul-add fork x 1) }

-- a state is 0 or 1
pub state-small : (exchanged : Bool) {state : ℕ} → state ≡ state_of exchanged → state < 2
state-small true e = omega (arith, e)
state-small false e = omega (arith, e)

-- where the fork stands: its depth
pub record Deep (k fork level : ℕ) : Type 0 where
  pub h : ℕ
  pub deep : h < k
  pub depth : AtDepth fork h
  pub side : k - 1 - h ≡ level
  pub group : k - h ≡ level + 1

-- the fork's number tells it
pub level-deep : (k : ℕ) {fork level : ℕ} → 0 < fork → LevelOf (2 ^ k) fork level → Deep k fork level
level-deep k {fork} {level} pos l = go (dec_lt level k)
  where
    go : Dec (level < k) → Deep k fork level
    go (no x) =
        let tall : 2 ^ k ≤ 2 ^ level = pow_mono {i = k} {j = level} (omega arith) in
        let wide : 1 * 2 ^ level ≤ fork * 2 ^ level = mul-le-mul_right (2 ^ level) pos in
        absurd (omega (arith, tall, wide, l.inside))
    go (yes x) =
        let h : ℕ = k - 1 - level in
        let both : h + (level + 1) ≡ k = omega arith in
        let each : suc h + level ≡ k = omega arith in
        let low : 2 ^ h * 2 ^ (level + 1) ≤ fork * 2 ^ (level + 1) = rw (← (pow-add 2 h (level + 1)), both) l.whole in
        let high : fork * 2 ^ level < 2 ^ suc h * 2 ^ level = rw (← (pow-add 2 (suc h) level), each) l.inside in
        record {
          h = h;
          deep = omega arith;
          depth = (le_of_mul-le-mul_right low (pow_pos (level + 1)), lt_of_mul-lt-mul_right (2 ^ level) high);
          side = omega arith;
          group = omega arith;
        }

-- ---- what fits a place

-- the fork above a stop, from the number of the stop past the forks
fork-above : (k h level i : ℕ) → h + (level + 1) ≡ k → (2 ^ k + i) / 2 ^ (level + 1) ≡ 2 ^ h + i / 2 ^ (level + 1)
fork-above k h level i e = rw (← e, pow-add 2 h (level + 1)) (mul-add-div_right (pow_pos (level + 1)) (2 ^ h) i)

-- a stop fits a place exactly if the pair is admissible
pub fits-admissible : (k v : ℕ) (f : Held) → f.fork ≡ v → (d : Deep k v f.level) → (p i : ℕ) → held_fits (2 ^ k) (Some f) p i ≡ admissible k v d.h (state_of f.exchanged) p i
unfolding held_fits admissible
fits-admissible k v f e d p i =
    let up : (2 ^ k + i) / 2 ^ (f.level + 1) ≡ fork_above k i d.h = rw d.group (fork-above k d.h f.level i (omega (arith, d.group, d.deep))) in
    rw (e, up, d.side)

-- ---- the sets that count

-- whether a set counts is settled by its order
pub holding-settled : (k fork state : ℕ) → fork < 2 ^ k → Settled k (holding fork state)
unfolding holding
holding-settled k zero state b F G e = refl
holding-settled k (suc v) state b F G e = held-settled k (suc v) state (omega arith) b F G e

-- some set counts
pub holding-some : (fork state : ℕ) → state < 2 → (F : ℕ) × (holding fork state F ≡ true)
unfolding holding
holding-some zero state h = (0, refl)
holding-some (suc v) state h = (state * 2 ^ suc v, held-some (suc v) state h)

-- and the order that is wanted among them is as long as the places
pub holding-long : (k : ℕ) (cost : List ℕ → ℕ) (fork state : ℕ) → fork < 2 ^ k → state < 2 → length (wanted k cost (holding fork state)) ≡ 2 ^ k
holding-long k cost fork state b h =
    let some = holding-some fork state h in
    length-wanted k cost (holding fork state) (holding-settled k fork state b) some.0 some.1

-- the best of the walks in which the stops fit their places is the order that is wanted among the sets that count
layers-wanted : (k : ℕ) (t : ℕ → ℕ → ℕ) (v : ℕ) (exchanged : Bool) (f : Option Held) → HoldsFork (2 ^ k) v exchanged f → let w = wanted k (total t) (holding v (state_of exchanged)) in
    plan (layers k (held_fits (2 ^ k) f) (λ i. 0) (λ p. t)) (2 ^ k - 1) ≡ at (total t w) (backward w)
unfolding held_fits holding
layers-wanted k t v exchanged None e = rw e (ap (λ x. plan x (2 ^ k - 1)) (sym (tree_graph-open k t)) ∙ open-plan k t)
layers-wanted k t zero exchanged (Some f) h = absurd (omega (arith, h.0))
layers-wanted k t (suc v) exchanged (Some f) h =
    let d = level-deep k h.0 h.3 in
    rw (← h.2)
    (ap (λ x. plan x (2 ^ k - 1)) (layers-same k {s = λ i. 0} {w = λ p. t} (λ p i. fits-admissible k (suc v) f h.1 d p i) (λ i. refl) (λ p j i. refl))
    ∙ held-plan k (suc v) d.h (state_of f.exchanged) d.deep d.depth (state-small f.exchanged refl) t)

-- COSTS BY A PATH'S BYTES, of 2^k stops, with a fork of theirs held or none
module _ (k version : ℕ) (bytes : List ℕ) (fork : ℕ) (exchanged : Bool) (held : Option Held) (inside : fork < 2 ^ k) (holds : HoldsFork (2 ^ k) fork exchanged held) where
  -- the time of a move, and the order that is wanted by it
  abbrev times : ℕ → ℕ → ℕ
  times = time_in version bytes

  abbrev counts : ℕ → Bool
  counts = holding fork (state_of exchanged)

  abbrev wanted_in : List ℕ
  wanted_in = wanted k (total times) counts

  -- so it is the plan of the costs
  pub path-plan : {n : ℕ} → n ≡ 2 ^ k → plan (all_walks (path_costing n version bytes held)) (n - 1) ≡ at (total times wanted_in) (backward wanted_in)
  path-plan e = rw e (ap (λ G. plan G (2 ^ k - 1)) (walks-layers (path_costing (2 ^ k) version bytes held) k refl) ∙ layers-wanted k times fork exchanged held holds)

  -- by judged bytes the times are those between the stops
  module _ (range : all_in_range (stops_in version (2 ^ k) bytes) ≡ true) where
    abbrev stops : List Stop
    stops = stops_in version (2 ^ k) bytes

    abbrev planned : Plan
    planned = held_plan k stops fork (state_of exchanged)

    wanted-stops : (planned.order ≡ wanted_in) × (planned.total ≡ total times wanted_in)
    wanted-stops =
        let some = holding-some fork (state_of exchanged) (state-small exchanged refl) in
        let alike : (G : ℕ) → counts G ≡ true → total (entry_of stops) (order_of k G) ≡ total times (order_of k G) = λ G e. total-same k (entry_of stops) times (λ a b x y d. sym (time-in-path version (2 ^ k) bytes range a b x y)) G in
        wanted-alike k counts (holding-settled k fork (state_of exchanged) inside) some.0 some.1 (total times) (total (entry_of stops)) alike

    -- it is as long as the places
    pub path-long : length planned.order ≡ 2 ^ k
    path-long = holding-long k (total (entry_of stops)) fork (state_of exchanged) inside (state-small exchanged refl)

    -- AND THE PLAN OF THE COSTS IS THE ORDER THAT IS WANTED BY THEM
    pub path-wanted : {n : ℕ} → n ≡ 2 ^ k → plan (all_walks (path_costing n version bytes held)) (n - 1) ≡ at planned.total (backward planned.order)
    path-wanted e = let w = wanted-stops in path-plan e ∙ ap₂ (λ x y. at x (backward y)) (sym w.1) (sym w.0)

    -- SO THE METHOD LEAVES THE ORDER THAT IS WANTED BY THEM
    pub path-left : {n : ℕ} {o : Outcome Plan} {order totals pivots order' totals' pivots' : List ℕ} (r : Planned) → n ≡ 2 ^ k → o ≡ gives planned
        → LeftByMethod (path_costing n version bytes held) k order totals pivots order' totals' pivots' r → OrderIsWritten k o order totals pivots order' totals' pivots' (Ok r.total)
    path-left r e g m = written-best planned r e g path-long (path-wanted e) (λ s w. s) m
