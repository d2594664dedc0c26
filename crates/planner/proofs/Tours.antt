-- M-104: the method for tours. Each last stop is weighed by the last row of a pass of its own; the order that is then solved for the least of them is
-- the wanted tour.
use mathlib.Core.Path.{◌≡◌, refl, sym, ap, ap₂, subst, ◌∙◌}
use mathlib.Core.Bool.{Bool, true, false, cond}
use mathlib.Core.List.{List, [], ◌∷◌}
use Prim.Native.Nat.{ℕ, zero, suc, ◌+◌, ◌-◌, ◌^◌, ◌≤◌, ◌<◌}
use native.Mathlib.Numerals.{add-one}
use native.Mathlib.Omega.{arith}
use lib.Dec.{ltb}
use lib.ListN.{length, get_or, set}
use lib.Pow.{pow_pos}
use lib.Seq.{get_or-set_same}
use Rattle.std.specs.Prelude.{Some}
use Rattle.base.proofs.Size.{pow-le-1024}
use Rattle.walks.specs.Best.{at, scan, best}
use Rattle.walks.specs.Places.{stops_to}
use Rattle.walks.specs.Rows.{turn, line, Codes}
use Rattle.tree.specs.Neighbour.{in_place}
use Rattle.tree.specs.Total.{entry}
use Rattle.tree.specs.Wanted.{backward, wanted, every}
use Rattle.tree.proofs.Backward.{backward-same}
use Rattle.tree.proofs.Draws.{backward-last}
use Rattle.tree.proofs.Open.{wanted-one}
use Rattle.costs.specs.Costs.{closed_total}
use Rattle.costs.specs.Graphs.{home}
use Rattle.costs.specs.Ends.{best_end}
use Rattle.costs.proofs.Ends.{ends_more, TourEnd, tour-end}
use Rattle.costs.proofs.Tour.{tour-long, tour-one}
use Rattle.rows.specs.Costing.{Costing}
use Rattle.rows.specs.Source.{table_costing}
use Rattle.rows.specs.Row.{unreached}
use Rattle.rows.specs.Pass.{PassReady, PassMade}
use Rattle.planner.specs.declared.halve.Choice.{Choice}
use Rattle.planner.specs.Method.{all_walks, LastReached, BlockSolved}
use Rattle.planner.specs.Tour.{TourSizes, tours_to, EndWeighed, EndHeld, TourWritten}
use Rattle.planner.proofs.Halving.{whole-block}
use Rattle.planner.proofs.ByTable.{walks-layers, layers-same}

-- the costs of tours that end with stop e
abbrev pub closing : ℕ → List ℕ → ℕ → Costing
closing n table e = table_costing n table (Some e)

-- at most 1,024 stops, and at least one
pub tour-few : {n k l : ℕ} → TourSizes n k l → n ≤ 1024
tour-few {k = k} s = rw s.stops (pow-le-1024 k s.small)

pub tour-pos : {n k l : ℕ} → TourSizes n k l → 0 < n
tour-pos {k = k} s = rw s.stops (pow_pos k)

module _ (n k : ℕ) (table : List ℕ) (sizes : TourSizes n k (length table)) where
  -- the walks are those of the tours
  pub tour-walks : (e : ℕ) → all_walks (closing n table e) ≡ tours_to n k table e
  unfolding home
  tour-walks e = walks-layers (closing n table e) k sizes.stops ∙ layers-same k (λ p i. refl) (begins k sizes.some) (λ p j i. refl)
    where
      begins : (m : ℕ) → 0 < m → (i : ℕ) → entry n table e i ≡ home m (entry n table) e i
      begins zero h i = absurd (omega arith)
      begins (suc m) h i = refl

  -- a pass over all places is asked for rightly
  pub tour-ready : (totals pivots : ℕ) → totals ≡ n + n → pivots ≡ n + n → PassReady n totals pivots 0 0 0 k
  tour-ready totals pivots b p = record {
    space = record { rows = omega (arith, b); marks = omega (arith, p) };
    some = sizes.some;
    places = whole-block sizes.stops;
    stops = whole-block sizes.stops;
    earlier = tour-pos sizes;
    follows = λ h. absurd (omega arith);
  }

  -- its last row weighs the last stop
  pub end-weighed : (e : ℕ) {B P B' P' : List ℕ} {r : ℕ} → e < n → length B ≡ n + n → length P ≡ n + n → PassMade (closing n table e) 0 0 0 k B P B' P' r → EndWeighed n k table e (get_or B' (n + e) 0)
  end-weighed e {B} {P} {B'} {P'} h b p made =
      let row = (made.made (tour-ready (length B) (length P) b p)).row in
      record {
        pivot = get_or P' (n + e) 0;
        codes = subst (λ G. Codes unreached (get_or B' (n + e) 0) (get_or P' (n + e) 0) (line G (2 ^ (k - 1) - 1) (2 ^ k - 1) e)) (tour-walks e) (row.holds e (omega arith) (omega (arith, sizes.stops)));
      }

-- nothing is held yet
pub held_none : {n k : ℕ} {table : List ℕ} {held : Choice} → held.total ≡ unreached → held.stop ≡ 0 → 0 < n → EndHeld n k table 0 held
unfolding best_end scan
held_none e f h = record { codes = omega (arith, e); below = omega (arith, f) }

-- one last stop more
pub held_more : {n k : ℕ} {table : List ℕ} {e v : ℕ} {held r : Choice} → EndHeld n k table e held → EndWeighed n k table e v → e < n
    → (r.total, r.stop) ≡ turn true v e (held.total, held.stop) → EndHeld n k table (e + 1) r
unfolding turn
held_more {n} {k} {table} {e} {v} {held} {r} h w small q = record {
  codes = rw (add-one e) (subst (λ (x : ℕ × ℕ). Codes unreached x.0 x.1 (best_end (tours_to n k table) (2 ^ (k - 1) - 1) (2 ^ k - 1) (suc e))) (sym q)
      (ends_more (tours_to n k table) (2 ^ (k - 1) - 1) (2 ^ k - 1) unreached e v w.pivot (held.total, held.stop) h.codes w.codes));
  below = rw (ap (λ (x : ℕ × ℕ). x.1) q) (go (ltb v held.total));
}
  where
    go : (b : Bool) → (cond {A = ℕ × ℕ} b (v, e) (held.total, held.stop)).1 < n
    go true = small
    go false = h.below

-- the last stop that is held ends the wanted tour
pub held-end : {n k l : ℕ} {table : List ℕ} {held : Choice} → TourSizes n k l → EndHeld n k table n held → TourEnd k (entry n table) held.total held.stop
held-end {n} {k} {l} {table} {held} z h =
    tour-end k (entry n table) unreached (2 ^ (k - 1) - 1) held.total held.stop
    (subst (λ m. Codes unreached held.total held.stop (best_end (tours_to n k table) (2 ^ (k - 1) - 1) (2 ^ k - 1) m)) z.stops h.codes)

module _ (n k : ℕ) (table : List ℕ) (sizes : TourSizes n k (length table)) (held : Choice) (h : EndHeld n k table n held) where
  -- the best walk to that stop, in the last place of an order
  tour-found : (o : List ℕ) → length o ≡ n
      → best (all_walks (closing n table held.stop)) (2 ^ k - 1) (in_place (set o (n - 1) held.stop) (0 + 2 ^ k - 1)) ≡ at held.total (held-end sizes h).rest
  tour-found o long =
      let place : 0 + 2 ^ k - 1 ≡ n - 1 = omega (arith, sizes.stops) in
      let last : in_place (set o (n - 1) held.stop) (0 + 2 ^ k - 1) ≡ held.stop = rw place (get_or-set_same o (n - 1) held.stop 0 (omega (arith, tour-pos sizes))) in
      ap₂ (λ G i. best G (2 ^ k - 1) i) (tour-walks n k table sizes held.stop) last ∙ (held-end sizes h).found

  -- so such an order can be solved
  pub tour-reached : (o : List ℕ) → length o ≡ n → LastReached (closing n table held.stop) (set o (n - 1) held.stop) 0 k
  tour-reached o long = record { cost = held.total; walk = (held-end sizes h).rest; found = tour-found o long }

  -- and then it is the wanted tour
  pub tour-solved : (o u : List ℕ) → length o ≡ n → length u ≡ n → BlockSolved n (closing n table held.stop) 0 k (set o (n - 1) held.stop) u → TourWritten n k table u held.total
  tour-solved o u long same b =
      let e = held-end sizes h in
      let w : List ℕ = wanted k (closed_total (entry n table)) every in
      let z : 2 ^ k - 1 ≡ n - 1 = omega (arith, sizes.stops) in
      let ends : in_place u (2 ^ k - 1) ≡ held.stop = b.after (2 ^ k - 1) (omega (arith, pow_pos k)) ∙ rw z (get_or-set_same o (n - 1) held.stop 0 (omega (arith, tour-pos sizes))) in
      let rest : stops_to (in_place u) (2 ^ k - 1) ≡ e.rest = b.filled held.total e.rest (tour-found o long) in
      let back : backward u ≡ held.stop ∷ e.rest = backward-last k u (same ∙ sizes.stops) ∙ ap₂ ◌∷◌ ends rest in
      record { tour = backward-same u w (same ∙ sizes.stops ∙ sym (tour-long k (entry n table))) (back ∙ sym e.back); total = e.sum }

-- one stop is its own tour
pub tour-alone : {n k : ℕ} (table order : List ℕ) → n ≡ 2 ^ k → k ≡ 0 → order ≡ 0 ∷ [] → TourWritten n k table order 0
tour-alone {n} table order e z o = rw z (record { tour = o ∙ sym (wanted-one (closed_total (entry n table))); total = sym (tour-one (entry n table)) })
