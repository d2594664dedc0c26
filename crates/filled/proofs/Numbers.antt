-- THE PROGRAM'S NUMBERS. A cell is kept as its total, and `unreached` stands for an empty stop. To weigh the stops of the group beside, one after
-- another, gives the total of the cell and the last stop of its list; the numbers of empty stops never win.
use mathlib.Core.Path.{◌≡◌, refl, sym, ap, ap₂, subst, ◌∙◌, fun_ext}
use mathlib.Core.Bool.{Bool, true, false, cond}
use mathlib.Core.List.{List, [], ◌∷◌}
use mathlib.Core.Logic.{◌⊎◌, inl, inr}
use Prim.Native.Nat.{ℕ, zero, suc, ◌+◌, ◌*◌, ◌-◌, ◌^◌, ◌≤◌, ◌<◌}
use native.Mathlib.Nat.{mul-le-mul_right, suc-mul, zero-add, add-zero}
use native.Mathlib.Decide.{dec_le}
use native.Mathlib.Omega.{arith}
use borrow.Author.Tests.{eq-eqb, ne_eqb, eqb-true, le-leb, lt-leb}
use lib.Dec.{eqb, leb, ltb}
use lib.ListN.{get_or}
use lib.Pow.{pow_pos, pow_mono}
use Rattle.tree.specs.Block.{beside_of}
use Rattle.tree.specs.Neighbour.{trail, reach}
use Rattle.tree.specs.Total.{total}
use Rattle.tree.specs.Wanted.{backward}
use Rattle.tree.proofs.Beside.{trail-lt}
use Rattle.tree.proofs.Block.{beside-block}
use Rattle.walks.specs.Best.{Found, none, at, keep, first, scan, step}
use Rattle.walks.specs.Rows.{told, turn, loop, Codes}
use Rattle.walks.proofs.Best.{scan-back}
use Rattle.walks.proofs.Prefer.{Trich, trich, below, equal, above as over}
use Rattle.walks.proofs.Rows.{told-scan, told-step, step-told}
use Rattle.walks.proofs.Numbers.{loop-codes, loop-skip}
use Rattle.orders.proofs.Shift.{reach-pos}
use Rattle.filled.specs.Forks.{filled_below, above}
use Rattle.filled.specs.Lists.{wanted_list}
use Rattle.filled.specs.Row.{unreached, total_in, least_in}
use Rattle.filled.specs.Table.{sibling, beside_filled, from_beside, table_at, last_row}
use Rattle.filled.proofs.Bools.{two}
use Rattle.filled.proofs.Levels.{Level, level-stop, level-sibling, above_root, filled-stop, sibling-beside, beside-sibling, beside-room}
use Rattle.filled.proofs.Recurrence.{table-zero, table_empty, table_beside, table-skip}
use Rattle.filled.proofs.Wanted.{last_row-wanted}

-- a cell that holds a list is not empty
none-at : {c : ℕ} {l : List ℕ} → ◌≡◌ {A = Found (List ℕ)} none (at c l) → ⊥
none-at e = let z : ◌≡◌ {A = ℕ} 0 1 = cc in omega arith

-- how an allowed step came to a cell
pub step_back : (b : Bool) (x j : ℕ) (y : Found (List ℕ)) (c : ℕ) (l : List ℕ) → step b x (◌∷◌ j) y ≡ at c l
    → (b ≡ true) × (d : ℕ) × (r : List ℕ) × (y ≡ at d r) × (d + x ≡ c) × (j ∷ r ≡ l)
unfolding step
step_back false x j y c l e = absurd (none-at e)
step_back true x j none c l e = absurd (none-at e)
step_back true x j (at d r) c l e = (refl, d, r, refl, cc, cc)

-- numbers that are allowed alike, and are alike where they are
pub loop-same : (a b : ℕ → Bool) (x y : ℕ → ℕ) (n : ℕ) → ((j : ℕ) → j < n → a j ≡ b j) → ((j : ℕ) → j < n → x j ≡ y j)
    → loop unreached a x (λ j. j) n ≡ loop unreached b y (λ j. j) n
unfolding loop
loop-same a b x y zero h g = refl
loop-same a b x y (suc n) h g = rw (h n (omega arith), g n (omega arith))
    (ap (turn (b n) (y n) n) (loop-same a b x y n (λ j c. h j (omega arith)) (λ j c. g j (omega arith))))

-- the loop over the stops of which only a group may be left is the loop over the group
group-least : (k : ℕ) (x : ℕ → ℕ) (m i : ℕ) → m < k → i < 2 ^ k
    → loop unreached (λ j. eqb (above k m j) (sibling k m i)) x (λ j. j) (2 ^ k) ≡ least_in x (beside_of i m) (2 ^ m)
group-least k x m i h b =
    loop-skip unreached test x (λ j. j) end (2 ^ k) (beside-room k m i h b) (λ j p q. out j (λ w. absurd (omega (arith, w.1))))
    ∙ loop-same test (leb (beside_of i m)) x x end (λ j p. agree j p (dec_le (beside_of i m) j)) (λ j p. refl)
  where
    test : ℕ → Bool
    test j = eqb (above k m j) (sibling k m i)

    end : ℕ
    end = beside_of i m + 2 ^ m

    out : (j : ℕ) → ((beside_of i m ≤ j) × (j < beside_of i m + 2 ^ m) → ⊥) → test j ≡ false
    out j f = ne_eqb (above k m j) (sibling k m i) (λ e. f ((beside-block m j i).0 (sibling-beside k m j i h e)))

    agree : (j : ℕ) → j < end → Dec (beside_of i m ≤ j) → test j ≡ leb (beside_of i m) j
    agree j p (yes q) = rw (le-leb (beside_of i m) j q) (eq-eqb (above k m j) (sibling k m i) (beside-sibling k m j i h ((beside-block m j i).1 (q, p))))
    agree j p (no q) = rw (lt-leb (beside_of i m) j (omega arith)) (out j (λ w. q w.0))

-- where the better of two is none, both are
keep-nothing : (x y : Found (List ℕ)) → keep x y ≡ none → (x ≡ none) × (y ≡ none)
unfolding keep
keep-nothing none y e = (refl, e)
keep-nothing (at c l) none e = absurd (none-at (sym e))
keep-nothing (at c l) (at d m) e = go (ltb d c) e
  where
    go : (b : Bool) → cond b (at d m) (at c l) ≡ none → (at c l ≡ none) × (◌≡◌ {A = Found (List ℕ)} (at d m) none)
    go true e = absurd (none-at (sym e))
    go false e = absurd (none-at (sym e))

-- where a scan finds nothing, there is nothing
scan-nothing : (f : ℕ → Found (List ℕ)) (n j : ℕ) → j < n → scan f n ≡ none → f j ≡ none
unfolding scan
scan-nothing f zero j b e = absurd (omega arith)
scan-nothing f (suc n) j b e = go (trich j n) (keep-nothing (scan f n) (f n) e) (λ c. scan-nothing f n j c)
  where
    go : Trich j n → (scan f n ≡ none) × (f n ≡ none) → (j < n → scan f n ≡ none → f j ≡ none) → f j ≡ none
    go (below c) p ih = ih c p.0
    go (equal c) p ih = rw c p.1
    go (over c) p ih = absurd (omega arith)

-- a cell holds a list
abbrev pub Some : Found (List ℕ) → Type 0
Some y = (c : ℕ) × (l : List ℕ) × (y ≡ at c l)

-- a scan over allowed steps from a row finds something, where one of them leads from a list
scan-some : (a : ℕ → Bool) (w : ℕ → ℕ) (y : ℕ → Found (List ℕ)) (n j : ℕ) → j < n → a j ≡ true → Some (y j) → Some (scan (λ j. step (a j) (w j) (◌∷◌ j) (y j)) n)
unfolding step
scan-some a w y n j b e (c, l, f) = go (scan (λ j. step (a j) (w j) (◌∷◌ j) (y j)) n) refl
  where
    go : (z : Found (List ℕ)) → scan (λ j. step (a j) (w j) (◌∷◌ j) (y j)) n ≡ z → Some z
    go (at d m) q = (d, m, refl)
    go none q =
        let here : step (a j) (w j) (◌∷◌ j) (y j) ≡ at (c + w j) (j ∷ l) = rw (e, f) in
        absurd (none-at (sym (scan-nothing (λ j. step (a j) (w j) (◌∷◌ j) (y j)) n j b q) ∙ here))

module _ (k : ℕ) (s : ℕ → Bool) (t : ℕ → ℕ → ℕ) where
  -- how a cell goes back to the group beside: the stop before, its own cell, and the move
  pub record Back (p i c : ℕ) (l : List ℕ) : Type 0 where
    pub stop : ℕ
    pub below : stop < 2 ^ k
    pub beside : above k (trail p) stop ≡ sibling k (trail p) i
    pub cost : ℕ
    pub rest : List ℕ
    pub cell : table_at k s t (p - 1) stop ≡ at cost rest
    pub summed : cost + t stop i ≡ c
    pub list : stop ∷ rest ≡ l

  -- EVERY CELL WITH A FILLED GROUP BESIDE IT GOES BACK TO ONE OF THAT GROUP
  pub table-back : (p i c : ℕ) (l : List ℕ) → 0 < p → s i ≡ true → beside_filled k s p i ≡ true → table_at k s t p i ≡ at c l → Back p i c l
  unfolding from_beside
  table-back p i c l b f g e =
      let y : ℕ → Found (List ℕ) = table_at k s t (p - 1) in
      let a : ℕ → Bool = λ j. eqb (above k (trail p) j) (sibling k (trail p) i) in
      let r = scan-back (λ j. step (a j) (t j i) (◌∷◌ j) (y j)) (2 ^ k) (sym (table_beside k s t p i b f g) ∙ e) in
      let q = step_back (a r.0) (t r.0 i) r.0 (y r.0) c l r.2 in
      record { stop = r.0; below = r.1; beside = eqb-true _ _ q.0; cost = q.1; rest = q.2; cell = q.3; summed = q.4; list = q.5 }

  -- an empty stop has no cell
  pub cell-filled : (p i c : ℕ) (l : List ℕ) → table_at k s t p i ≡ at c l → s i ≡ true
  cell-filled p i c l e = go (s i) refl
    where
      go : (b : Bool) → s i ≡ b → s i ≡ true
      go true f = f
      go false f = absurd (none-at (sym (table_empty k s t p i f) ∙ e))

  -- the first row
  pub first-list : (i c : ℕ) (l : List ℕ) → table_at k s t 0 i ≡ at c l → (c ≡ 0) × (l ≡ [])
  unfolding first
  first-list i c l e = go (s i) (sym (table-zero k s t i) ∙ e)
    where
      go : (b : Bool) → first b 0 [] ≡ at c l → (c ≡ 0) × (l ≡ [])
      go true e = (cc, cc)
      go false e = absurd (none-at e)

  -- EVERY CELL OF A FILLED STOP HOLDS A LIST
  table-made : (d p i : ℕ) → p < d → p < 2 ^ k → i < 2 ^ k → s i ≡ true → Some (table_at k s t p i)
  unfolding first from_beside
  table-made zero p i a b c f = absurd (omega arith)
  table-made (suc d) zero i a b c f = (0, [], table-zero k s t i ∙ rw f)
  table-made (suc d) (suc p) i a b c f = go (two (beside_filled k s (suc p) i)) (λ q j l. table-made d q j (omega arith) (omega arith))
    where
      m : ℕ
      m = trail (suc p)

      below-k : m < k
      below-k = trail-lt k (suc p) (omega arith) b

      go : (beside_filled k s (suc p) i ≡ true) ⊎ (beside_filled k s (suc p) i ≡ false)
          → ((q j : ℕ) → q < suc p → j < 2 ^ k → s j ≡ true → Some (table_at k s t q j)) → Some (table_at k s t (suc p) i)
      go (inr g) ih = rw (table-skip k s t (suc p) i (omega arith) g) (ih (suc p - reach (suc p)) i (omega (arith, reach-pos (suc p))) c f)
      go (inl g) ih =
          let l : Level k m (sibling k m i) = level-sibling k m i below-k c in
          let r = filled-stop k s m (sibling k m i) l g in
          let j : ℕ = r.0 in
          let z : suc p - 1 ≡ p = omega arith in
          rw (table_beside k s t (suc p) i (omega arith) f g, z)
          (scan-some (λ j. eqb (above k m j) (sibling k m i)) (λ j. t j i) (table_at k s t p) (2 ^ k) j (level-stop k m (sibling k m i) j l r.1)
          (eq-eqb (above k m j) (sibling k m i) r.1) (ih p j (omega arith) (level-stop k m (sibling k m i) j l r.1) r.2))

  pub table-some : (p i : ℕ) → p < 2 ^ k → i < 2 ^ k → s i ≡ true → Some (table_at k s t p i)
  table-some p i = table-made (suc p) p i (omega arith)

  -- a bound on the totals
  cost-bound : (B : ℕ) → ((a b : ℕ) → t a b ≤ B) → (d p i c : ℕ) (l : List ℕ) → p < d → table_at k s t p i ≡ at c l → c ≤ p * B
  cost-bound B h zero p i c l b e = absurd (omega arith)
  cost-bound B h (suc d) zero i c l b e = omega (arith, first-list i c l e)
  cost-bound B h (suc d) (suc p) i c l b e = go (two (beside_filled k s (suc p) i)) (λ q j x r f. cost-bound B h d q j x r (omega arith))
    where
      go : (beside_filled k s (suc p) i ≡ true) ⊎ (beside_filled k s (suc p) i ≡ false)
          → ((q j x : ℕ) (r : List ℕ) → q < suc p → table_at k s t q j ≡ at x r → x ≤ q * B) → c ≤ suc p * B
      go (inl g) ih =
          let r = table-back (suc p) i c l (omega arith) (cell-filled (suc p) i c l e) g e in
          let z : suc p - 1 ≡ p = omega arith in
          omega (arith, ih p r.stop r.cost r.rest (omega arith) (rw z at r.cell), r.summed, h r.stop i, suc-mul p B)
      go (inr g) ih =
          let q : ℕ = suc p - reach (suc p) in
          let f : table_at k s t q i ≡ at c l = sym (table-skip k s t (suc p) i (omega arith) g) ∙ e in
          let m : q * B ≤ suc p * B = mul-le-mul_right B (omega arith) in
          omega (arith, ih q i c l (omega (arith, reach-pos (suc p))) f)

  -- ---- where no total comes near `unreached`: k is at most 6, and times have 32 bits

  module _ (small : k ≤ 6) (short : (a b : ℕ) → t a b < 2 ^ 32) where
    -- no sum reaches `unreached`
    pub cost-fits : (p i c : ℕ) (l : List ℕ) → p < 2 ^ k → table_at k s t p i ≡ at c l → (j : ℕ) → c + t i j < unreached
    cost-fits p i c l b e j =
        let n : 2 ^ k ≤ 2 ^ 6 = pow_mono small in
        let u : p ≤ 63 = omega arith in
        let m : p * 4294967295 ≤ 63 * 4294967295 = mul-le-mul_right 4294967295 u in
        omega (arith, cost-bound 4294967295 (λ a b. omega (arith, short a b)) (suc p) p i c l (omega arith) e, short i j)

    -- no number is above it
    pub total-le : (p i : ℕ) → p < 2 ^ k → total_in (table_at k s t p i) ≤ unreached
    unfolding total_in
    total-le p i b = go (table_at k s t p i) refl
      where
        go : (y : Found (List ℕ)) → table_at k s t p i ≡ y → total_in y ≤ unreached
        go none e = omega arith
        go (at c l) e = omega (arith, cost-fits p i c l b e 0)

    -- the number of a cell stands for it
    cell-codes : (p j : ℕ) → p < 2 ^ k → Codes unreached (total_in (table_at k s t p j)) j (told (λ l. j) (table_at k s t p j))
    unfolding total_in told
    cell-codes p j b = go (table_at k s t p j) refl
      where
        go : (y : Found (List ℕ)) → table_at k s t p j ≡ y → Codes unreached (total_in y) j (told (λ l. j) y)
        go none e = omega arith
        go (at c l) e = (refl, refl, omega (arith, cost-fits p j c l b e 0))

    -- THE LOOP OVER ALLOWED STOPS OF A ROW has the total and the last stop of what the scan finds
    loop-scan : (p : ℕ) → p < 2 ^ k → (a : ℕ → Bool) (w : ℕ → ℕ) → ((j : ℕ) (c : ℕ) (l : List ℕ) → table_at k s t p j ≡ at c l → c + w j < unreached)
        → (y : Found (List ℕ)) → y ≡ scan (λ j. step (a j) (w j) (◌∷◌ j) (table_at k s t p j)) (2 ^ k)
        → Codes unreached (loop unreached a (λ j. total_in (table_at k s t p j) + w j) (λ j. j) (2 ^ k)).0
        (loop unreached a (λ j. total_in (table_at k s t p j) + w j) (λ j. j) (2 ^ k)).1 (told (λ l. get_or l 0 0) y)
    unfolding total_in
    loop-scan p b a w h y e =
        subst (Codes unreached (loop unreached a (λ j. total_in (table_at k s t p j) + w j) (λ j. j) (2 ^ k)).0
        (loop unreached a (λ j. total_in (table_at k s t p j) + w j) (λ j. j) (2 ^ k)).1) (heads ∙ ap (told (λ l. get_or l 0 0)) (sym e))
        (loop-codes unreached (λ j. told (λ l. j) (table_at k s t p j)) a (λ j. total_in (table_at k s t p j)) (λ j. j) w (2 ^ k)
        (λ j c f. cell-codes p j b) (λ j c f g. fits j g (table_at k s t p j) refl))
      where
        heads : scan (λ j. step (a j) (w j) (λ r. r) (told (λ l. j) (table_at k s t p j))) (2 ^ k)
            ≡ told (λ l. get_or l 0 0) (scan (λ j. step (a j) (w j) (◌∷◌ j) (table_at k s t p j)) (2 ^ k))
        heads = ap (λ u. scan u (2 ^ k)) (fun_ext (λ j. step-told (λ r. r) (λ l. j) (a j) (w j) (table_at k s t p j) ∙ sym (told-step (λ l. get_or l 0 0) (◌∷◌ j) (a j) (w j) (table_at k s t p j))))
            ∙ sym (told-scan (λ l. get_or l 0 0) (λ j. step (a j) (w j) (◌∷◌ j) (table_at k s t p j)) (2 ^ k))

        fits : (j : ℕ) → total_in (table_at k s t p j) < unreached → (y : Found (List ℕ)) → table_at k s t p j ≡ y → total_in (table_at k s t p j) + w j < unreached
        fits j g none f = absurd (omega (arith, rw f at g))
        fits j g (at c l) f = rw f (h j c l f)

    -- ---- what the program's loops find

    -- a filled stop i in place p with a filled group beside it: the total of its cell, and the last stop of its list
    least-beside : (p i : ℕ) → 0 < p → p < 2 ^ k → i < 2 ^ k → s i ≡ true → beside_filled k s p i ≡ true
        → Codes unreached (least_in (λ j. total_in (table_at k s t (p - 1) j) + t j i) (beside_of i (trail p)) (2 ^ trail p)).0
        (least_in (λ j. total_in (table_at k s t (p - 1) j) + t j i) (beside_of i (trail p)) (2 ^ trail p)).1 (told (λ l. get_or l 0 0) (table_at k s t p i))
    unfolding from_beside
    least-beside p i b c d f g =
        rw (← group-least k (λ j. total_in (table_at k s t (p - 1) j) + t j i) (trail p) i (trail-lt k p b c) d)
        (loop-scan (p - 1) (omega arith) (λ j. eqb (above k (trail p) j) (sibling k (trail p) i)) (λ j. t j i) (λ j x l e. cost-fits (p - 1) j x l (omega arith) e i)
        (table_at k s t p i) (table_beside k s t p i b f g))

    -- the total
    pub total-beside : (p i : ℕ) → 0 < p → p < 2 ^ k → i < 2 ^ k → s i ≡ true → beside_filled k s p i ≡ true
        → (least_in (λ j. total_in (table_at k s t (p - 1) j) + t j i) (beside_of i (trail p)) (2 ^ trail p)).0 ≡ total_in (table_at k s t p i)
    unfolding total_in told
    total-beside p i b c d f g =
        let r = table-some p i c d f in
        let q = rw r.2 at (least-beside p i b c d f g) in
        rw r.2 q.0

    -- the stop before
    pub stop-beside : (p i c : ℕ) (l : List ℕ) → 0 < p → p < 2 ^ k → i < 2 ^ k → beside_filled k s p i ≡ true → table_at k s t p i ≡ at c l
        → (least_in (λ j. total_in (table_at k s t (p - 1) j) + t j i) (beside_of i (trail p)) (2 ^ trail p)).1 ≡ get_or l 0 0
    unfolding told
    stop-beside p i c l b d e g f = (rw f at (least-beside p i b d e (cell-filled p i c l f) g)).1

    -- the last row: the total of the wanted list, and its last stop
    pub least-last : filled_below k s k 1 ≡ true
        → least_in (λ j. total_in (table_at k s t (2 ^ k - 1) j)) 0 (2 ^ k) ≡ (total t (wanted_list k s t), get_or (backward (wanted_list k s t)) 0 0)
    unfolding last_row told
    least-last f =
        let x : ℕ → ℕ = λ j. total_in (table_at k s t (2 ^ k - 1) j) in
        let a : ℕ → Bool = λ j. eqb (above k k j) 1 in
        let r = loop-scan (2 ^ k - 1) (omega (arith, pow_pos k)) a (λ j. 0) (λ j c l e. omega (arith, cost-fits (2 ^ k - 1) j c l (omega (arith, pow_pos k)) e 0))
        (at (total t (wanted_list k s t)) (backward (wanted_list k s t))) (sym (last_row-wanted k s t f)) in
        ap (loop unreached (leb 0) x (λ j. j)) (zero-add (2 ^ k))
        ∙ loop-same (leb 0) a x (λ j. x j + 0) (2 ^ k) (λ j b. le-leb 0 j (omega arith) ∙ sym (eq-eqb (above k k j) 1 (above_root k j b))) (λ j b. sym (add-zero (x j)))
        ∙ ap₂ (λ u v. (u, v)) r.0 r.1
