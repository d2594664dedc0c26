-- The walk back reads the wanted list off the table: it begins at the list's last stop, each step comes to the stop before, and it ends at the
-- list's first stop.
use mathlib.Core.Path.{◌≡◌, refl, sym, ap, subst, ◌∙◌}
use mathlib.Core.Bool.{Bool, true}
use mathlib.Core.List.{List, [], ◌∷◌, ◌++◌, append_assoc}
use Prim.Native.Nat.{ℕ, zero, suc, ◌+◌, ◌-◌, ◌^◌, ◌≤◌, ◌<◌}
use native.Mathlib.Decide.{ℕ_discrete}
use native.Mathlib.Omega.{arith}
use lib.Count.{ones}
use lib.Dec.{eqb, leb}
use lib.ListN.{length, get_or, set, drop, length-append, length-set}
use lib.Pow.{pow_pos}
use lib.Seq.{get_or-set_same, get_or-set_other, get_or-append_seam, drop-set-lt}
use Rattle.base.specs.Outcome.{over}
use Rattle.tree.specs.Neighbour.{in_place}
use Rattle.tree.specs.Total.{total}
use Rattle.tree.specs.Wanted.{backward}
use Rattle.tree.proofs.Backward.{backward-length}
use Rattle.walks.specs.Best.{Found, at, step}
use Rattle.walks.specs.Places.{stops_to}
use Rattle.walks.proofs.Best.{scan-back}
use Rattle.filled.specs.declared.tray.Tray.{Tray}
use Rattle.filled.specs.Forks.{filled_below, above}
use Rattle.filled.specs.Lists.{wanted_list}
use Rattle.filled.specs.Row.{filled_of, times_of, cell_of, total_in, standing, least_in, RowIsMade}
use Rattle.filled.specs.Table.{beside_filled, table_at, last_row}
use Rattle.filled.specs.Walk.{wanted_of, count_of, Reached, Walking}
use Rattle.filled.proofs.Arranged.{All, all_map, Arranged, arranged-all, arranged-head}
use Rattle.filled.proofs.Bitset.{set_own, set-count}
use Rattle.filled.proofs.Levels.{level-root, level-stop, stop-filled}
use Rattle.filled.proofs.Made.{tray-few, tray-short}
use Rattle.filled.proofs.Numbers.{loop-same, step_back, table-back, cell-filled, first-list, least-last}
use Rattle.filled.proofs.Sets.{list-arranged}
use Rattle.filled.proofs.Wanted.{wanted_list-given, length-wanted_list, last_row-wanted}

-- ---- the wanted list

module _ (k : ℕ) (s : ℕ → Bool) (t : ℕ → ℕ → ℕ) where
  -- it is a list of the tree
  wanted-arranged : Arranged k s k 1 (backward (wanted_list k s t))
  wanted-arranged = let g = wanted_list-given k s t in subst (λ l. Arranged k s k 1 (backward l)) g.1 (list-arranged k s g.0)

  -- so its stops are below n
  all-places : (P : ℕ → Type 0) (o : ℕ → ℕ) (n : ℕ) → All P (stops_to o n) → (p : ℕ) → p < n → P (o p)
  unfolding stops_to
  all-places P o zero a p b = absurd (omega arith)
  all-places P o (suc n) a p b = go (ℕ_discrete p n) (λ c. all-places P o n a.1 p c)
    where
      go : Dec (p ≡ n) → (p < n → P (o p)) → P (o p)
      go (yes e) ih = subst (λ x. P (o x)) (sym e) a.0
      go (no e) ih = ih (omega arith)

  pub wanted-below : (p : ℕ) → p < length (wanted_list k s t) → in_place (wanted_list k s t) p < 2 ^ k
  wanted-below = all-places (λ j. j < 2 ^ k) (in_place (wanted_list k s t)) (length (wanted_list k s t))
      (all_map (λ j r. level-stop k k 1 j (level-root k) r.0) (backward (wanted_list k s t)) (arranged-all k s k 1 (backward (wanted_list k s t)) (level-root k) wanted-arranged))

  -- where it is not empty, a stop is filled
  pub wanted-some : 0 < length (wanted_list k s t) → filled_below k s k 1 ≡ true
  wanted-some b = go (backward (wanted_list k s t)) wanted-arranged (rw (backward-length (wanted_list k s t)) b)
    where
      go : (l : List ℕ) → Arranged k s k 1 l → 0 < length l → filled_below k s k 1 ≡ true
      go [] a b = absurd (omega arith)
      go (j ∷ l) a b = let r = arranged-head k s k 1 j l (level-root k) a in stop-filled k s k 1 j (level-root k) r.0 r.1

  -- its last stop, and the cell of that in the last place
  pub record Ends (last : ℕ) : Type 0 where
    pub inside : last < 2 ^ k
    pub cost : ℕ
    pub rest : List ℕ
    pub cell : table_at k s t (2 ^ k - 1) last ≡ at cost rest
    pub whole : backward (wanted_list k s t) ≡ last ∷ rest

  pub ends : filled_below k s k 1 ≡ true → Ends (get_or (backward (wanted_list k s t)) 0 0)
  unfolding last_row
  ends f =
      let y : ℕ → Found (List ℕ) = table_at k s t (2 ^ k - 1) in
      let r = scan-back (λ j. step (eqb (above k k j) 1) 0 (◌∷◌ j) (y j)) (2 ^ k) (last_row-wanted k s t f) in
      let q = step_back (eqb (above k k r.0) 1) 0 r.0 (y r.0) (total t (wanted_list k s t)) (backward (wanted_list k s t)) r.2 in
      let e : get_or (backward (wanted_list k s t)) 0 0 ≡ r.0 = ap (λ l. get_or l 0 0) (sym q.5) in
      rw e (record { inside = r.1; cost = q.1; rest = q.2; cell = q.3; whole = sym q.5 })

-- a list read from its end, by places
get_or-stops : (o : ℕ → ℕ) (n d : ℕ) → d < n → get_or (stops_to o n) d 0 ≡ o (n - suc d)
unfolding stops_to
get_or-stops o zero d b = absurd (omega arith)
get_or-stops o (suc n) zero b = ap o (omega arith)
get_or-stops o (suc n) (suc d) b = get_or-stops o n d (omega arith) ∙ ap o (omega arith)

-- ---- the walk

-- what a step back comes to: the stop before, j, may be written, and then the walk has come to it
pub record Next (tray : Tray) (before cur : List ℕ) (q j here : ℕ) : Type 0 where
  pub stop : j < 64
  pub room : here - 1 < length cur
  pub more : (next : List ℕ) → next ≡ set cur (here - 1) j → Walking tray before next (q - 1) j (here - 1)

module _ (tray : Tray) where
  abbrev w : List ℕ
  w = wanted_of tray

  -- where a stop stands that is reached after the stops `seen`
  reached-at : (seen : List ℕ) (p i here : ℕ) → Reached tray seen p i → length seen + (here + 1) ≡ length w → in_place w here ≡ i
  reached-at seen p i here r e =
      let z : length w - suc (length seen) ≡ here = omega arith in
      ap (in_place w) (sym z) ∙ sym (get_or-stops (in_place w) (length w) (length seen) (omega arith)) ∙ ap (λ l. get_or l (length seen) 0) r.whole ∙ get_or-append_seam seen i r.rest 0

  -- as many stops are left as stand before it
  reached-left : (seen : List ℕ) (p i here : ℕ) (r : Reached tray seen p i) → length seen + (here + 1) ≡ length w → length r.rest ≡ here
  reached-left seen p i here r e = omega (arith, sym (backward-length w) ∙ ap length r.whole ∙ length-append seen (i ∷ r.rest))

  module _ (before cur : List ℕ) (p i here q : ℕ) (v : Walking tray before cur p i here) (some : 0 < here)
      (same : cell_of tray q i ≡ cell_of tray p i) where
    -- there is a stop before
    pub walking-place : 0 < q
    walking-place = go q same
      where
        go : (q : ℕ) → cell_of tray q i ≡ cell_of tray p i → 0 < q
        go zero e =
            let r = v.reached in
            let f = first-list tray.k (filled_of tray) (times_of tray) i r.cost r.rest (e ∙ r.cell) in
            absurd (omega (arith, reached-left v.seen p i here r v.left, ap length f.1))
        go (suc q) e = omega arith

    module _ (low : q ≤ p) (beside : beside_filled tray.k (filled_of tray) q i ≡ true) (j : ℕ)
        (prev : (c : ℕ) (l : List ℕ) → cell_of tray q i ≡ at c l → j ≡ get_or l 0 0) where
      -- the step back
      step-reached : Reached tray (v.seen ++ i ∷ []) (q - 1) j
      step-reached =
          let r = v.reached in
          let e : cell_of tray q i ≡ at r.cost r.rest = same ∙ r.cell in
          let b = table-back tray.k (filled_of tray) (times_of tray) q i r.cost r.rest walking-place (cell-filled tray.k (filled_of tray) (times_of tray) q i r.cost r.rest e) beside e in
          let f : j ≡ b.stop = prev r.cost r.rest e ∙ ap (λ l. get_or l 0 0) (sym b.list) in
          rw f (record {
            place = omega (arith, r.place);
            stop = omega (arith, tray.stops, b.below);
            cost = b.cost;
            rest = b.rest;
            cell = b.cell;
            whole = r.whole ∙ ap (λ l. v.seen ++ i ∷ l) (sym b.list) ∙ sym (append_assoc v.seen (i ∷ []) (b.stop ∷ b.rest));
          })

      step_left : length (v.seen ++ i ∷ []) + (here - 1 + 1) ≡ length w
      step_left = omega (arith, length-append v.seen (i ∷ []), v.left)

      step_room : here - 1 < length cur
      step_room = omega (arith, v.left, v.long, v.room)

      -- one stop more is written
      step-written : (next : List ℕ) → next ≡ set cur (here - 1) j → Walking tray before next (q - 1) j (here - 1)
      step-written next e = rw e (record {
        seen = v.seen ++ i ∷ [];
        reached = step-reached;
        left = step_left;
        long = length-set cur (here - 1) j ∙ v.long;
        room = v.room;
        written = λ x a b. new x a b (ℕ_discrete x (here - 1));
        beyond = λ x a. get_or-set_other cur (here - 1) x j 0 (λ z. absurd (omega (arith, v.left))) ∙ v.beyond x a;
      })
        where
          new : (x : ℕ) → here - 1 ≤ x → x < length w → Dec (x ≡ here - 1) → get_or (set cur (here - 1) j) x 0 ≡ in_place w x
          new x a b (yes z) = rw z (get_or-set_same cur (here - 1) j 0 step_room ∙ sym (reached-at (v.seen ++ i ∷ []) (q - 1) j (here - 1) step-reached step_left))
          new x a b (no z) = get_or-set_other cur (here - 1) x j 0 z ∙ v.written x (omega arith) b

      -- THE STEP BACK
      pub walking-step : Next tray before cur q j here
      walking-step = record { stop = omega (arith, step-reached.stop, tray-few tray); room = step_room; more = step-written }

  -- as many stops as are filled
  pub count-is : count_of tray ≡ length w
  count-is =
      let n : ℕ = 2 ^ tray.k in
      let F : ℕ = tray.filled in
      ap ones (set_own F n (rw tray.stops at tray.inside)) ∙ set-count (filled_of tray) 0 n ∙ sym (length-wanted_list tray.k (filled_of tray) (times_of tray))

  -- what is held after the last row: the total of the list, and its last stop
  pub last-held : (row : List ℕ) (total' last m : ℕ) → 0 < count_of tray → m ≡ tray.n → (total', last) ≡ least_in (standing row) 0 m → RowIsMade tray row (tray.n - 1)
      → (total' ≡ total (times_of tray) w) × (last ≡ get_or (backward w) 0 0) × (last < 64)
  last-held row total' last m b a e r =
      let k : ℕ = tray.k in
      let t : ℕ → ℕ → ℕ = times_of tray in
      let f : filled_below k (filled_of tray) k 1 ≡ true = wanted-some k (filled_of tray) t (omega (arith, count-is)) in
      let made : least_in (standing row) 0 tray.n ≡ least_in (λ j. total_in (cell_of tray (tray.n - 1) j)) 0 tray.n
      = loop-same (leb 0) (leb 0) (standing row) (λ j. total_in (cell_of tray (tray.n - 1) j)) (0 + tray.n) (λ j c. refl) (λ j c. r.made j (omega arith)) in
      let q : ◌≡◌ {A = ℕ × ℕ} (total', last) (total t w, get_or (backward w) 0 0)
      = e ∙ ap (least_in (standing row) 0) a ∙ made ∙ ap (λ m. least_in (λ j. total_in (cell_of tray (m - 1) j)) 0 m) tray.stops ∙ least-last k (filled_of tray) t tray.small (tray-short tray) f in
      let x = ends k (filled_of tray) t f in
      let l : last ≡ get_or (backward w) 0 0 = ap (λ (z : ℕ × ℕ). z.1) q in
      (ap (λ (z : ℕ × ℕ). z.0) q, l, omega (arith, x.inside, tray-few tray, tray.stops))

  -- it is reached in the last place
  last-reached : (last : ℕ) → 0 < count_of tray → last ≡ get_or (backward w) 0 0 → Reached tray [] (tray.n - 1) last
  last-reached last b e =
      let k : ℕ = tray.k in
      let x = ends k (filled_of tray) (times_of tray) (wanted-some k (filled_of tray) (times_of tray) (omega (arith, count-is))) in
      rw e (record {
        place = omega (arith, tray.stops, pow_pos k);
        stop = omega (arith, tray.stops, x.inside);
        cost = x.cost;
        rest = x.rest;
        cell = ap (λ m. cell_of tray (m - 1) (get_or (backward w) 0 0)) tray.stops ∙ x.cell;
        whole = x.whole;
      })

  -- THE WALK BEGINS at the last stop of the list, which is written
  pub walking_start : (list before : List ℕ) (count last : ℕ) → count ≡ count_of tray → 0 < count → count ≤ length list → last ≡ get_or (backward w) 0 0 → before ≡ set list (count - 1) last
      → Walking tray before before (tray.n - 1) last (count - 1)
  walking_start list before count last e b l d f =
      let r : Reached tray [] (tray.n - 1) last = last-reached last (omega arith) d in
      let left : 0 + (count - 1 + 1) ≡ length w = omega (arith, count-is) in
      let long : length before ≡ length list = ap length f ∙ length-set list (count - 1) last in
      record {
        seen = [];
        reached = r;
        left = left;
        long = refl;
        room = omega arith;
        written = λ x a c. let z : x ≡ count - 1 = omega arith in
            rw (z, f) (get_or-set_same list (count - 1) last 0 (omega arith) ∙ sym (reached-at [] (tray.n - 1) last (count - 1) r left));
        beyond = λ x a. refl;
      }

  -- ---- no filled stop

  -- the list is empty, and its total 0
  pub none-wanted : count_of tray ≡ 0 → (0 ≡ total (times_of tray) w) × ((list : List ℕ) → list ≡ over w list)
  none-wanted e = go w (omega (arith, count-is))
    where
      go : (l : List ℕ) → length l ≡ 0 → (0 ≡ total (times_of tray) l) × ((list : List ℕ) → list ≡ over l list)
      go [] b = (refl, λ list. refl)
      go (i ∷ l) b = absurd (omega arith)

  -- what is written over the list's last place is written anyway
  pub over_last : (list before after : List ℕ) (here v : ℕ) → after ≡ over w before → here < length w → before ≡ set list here v → after ≡ over w list
  over_last list before after here v f b e = f ∙ ap (λ l. w ++ drop (length w) l) e ∙ ap (λ l. w ++ l) (drop-set-lt (length w) list here v b)
