-- M-104: ROUND TRIPS. The idea: once the last stop e is fixed, the move that closes the tour is known when the first stop is chosen, so it
-- is the start's cost in the graph of e. The best tour is the least of the best walks to each e in its own graph. Lists read from the
-- last place back begin with e, so that of equals the smaller e comes first is the rule for equals.
use mathlib.Core.Path.{◌≡◌, refl, sym, ap, subst, subst₂, ◌∙◌}
use mathlib.Core.Bool.{true, false, cond}
use mathlib.Core.List.{List, [], ◌∷◌}
use mathlib.Core.Logic.{◌≢◌}
use Prim.Native.Nat.{ℕ, zero, suc, pred, ◌+◌, ◌-◌, ◌^◌, ◌≤◌}
use native.Mathlib.Nat.{pow-succ'}
use native.Mathlib.Numerals.{sub-one}
use native.Mathlib.Omega.{arith}
use lib.Dec.{leb}
use lib.ListN.{length}
use lib.Pow.{pow_pos, suc_ones}
use borrow.Author.Tests.{lt-leb, le-ltb, eq-eqb}
use Rattle.walks.specs.Best.{at}
use Rattle.walks.specs.Places.{stops_to}
use Rattle.walks.specs.Prefer.{lexb, beforeb}
use Rattle.tree.specs.Neighbour.{in_place}
use Rattle.tree.specs.Order.{order_of}
use Rattle.tree.specs.Total.{total}
use Rattle.tree.specs.Wanted.{backward}
use Rattle.tree.proofs.Link.{length-order_of}
use Rattle.tree.proofs.Sides.{stop-only}
use Rattle.tree.proofs.Theorem7.{forward}
use Rattle.tree.specs.Wanted.{preferred, better, best_of, found, order_in, wanted, every, Shortest}
use Rattle.tree.specs.Draws.{plans, last_of, Draws}
use Rattle.costs.specs.Costs.{closed_total}
use Rattle.tree.specs.Layers.{anywhere}
use Rattle.costs.specs.Graphs.{home, tour_graph}
use Rattle.tree.proofs.Layers.{cost_to-moves, layers-draw}
use Rattle.tree.proofs.Draws.{plans-wanted}
use Rattle.tree.proofs.Wanted.{wanted-shortest}
use Rattle.tree.proofs.Moves.{Carries, total-carry}
use Rattle.tree.proofs.Open.{every-settled, wanted-one, moves-total}

-- the closed total of an order: the open one, and the move home
pub closed-home : (k : ℕ) (t : ℕ → ℕ → ℕ) (F : ℕ)
    → closed_total t (order_of k F) ≡ total t (order_of k F) + home k t (last_of k (order_of k F)) (in_place (order_of k F) 0)
unfolding home
closed-home zero t F = refl
closed-home (suc k) t F =
    let o : List ℕ = order_of (suc k) F in
    let e : leb (length o) 1 ≡ false = lt-leb (length o) 1 (omega (arith, length-order_of (suc k) F, pow-succ' 2 k, pow_pos k)) in
    let p : pred (length o) ≡ 2 ^ suc k - 1 = ap pred (length-order_of (suc k) F) ∙ sym (sub-one (2 ^ suc k)) in
    ap (λ x. total t o + cond x 0 (t (in_place o (pred (length o))) (in_place o 0))) e ∙ ap (λ x. total t o + t (in_place o x) (in_place o 0)) p

module _ (k : ℕ) (t : ℕ → ℕ → ℕ) where
  -- the graphs draw the closed total
  pub tour-draws : Draws k (closed_total t) every (tour_graph k t)
  tour-draws = layers-draw k (closed_total t) every anywhere (home k t) (λ p. t) (λ F c p b. refl) (λ F f. refl)
      (λ F. cost_to-moves k anywhere (home k t (last_of k (order_of k F))) t (order_of k F) (2 ^ k - 1)
      ∙ ap (λ x. x + home k t (last_of k (order_of k F)) (in_place (order_of k F) 0)) (moves-total k t F)
      ∙ sym (closed-home k t F))

  -- THE WANTED TOUR IS THE LEAST, OVER THE LAST STOPS IN INCREASING NUMBER, OF THE BEST WALKS TO THEM
  pub tour-plan : plans (tour_graph k t) (2 ^ k) (2 ^ k - 1) ≡ at (closed_total t (wanted k (closed_total t) every)) (backward (wanted k (closed_total t) every))
  tour-plan = plans-wanted k (closed_total t) every (tour_graph k t) tour-draws (every-settled k) 0 refl

  -- demand 3 for the closed total
  pub tour-shortest : Shortest k (closed_total t) every (wanted k (closed_total t) every) (closed_total t (wanted k (closed_total t) every))
  tour-shortest = wanted-shortest k (closed_total t) every (every-settled k) 0 refl

  -- the wanted tour has every place
  pub tour-long : length (wanted k (closed_total t) every) ≡ 2 ^ k
  tour-long = ap length (sym tour-shortest.given) ∙ length-order_of k tour-shortest.forks

-- closing an order makes it no shorter
pub closed-above : (t : ℕ → ℕ → ℕ) (o : List ℕ) → total t o ≤ closed_total t o
closed-above t o = omega arith

-- 'for n = 1 it is 0'
pub tour-one : (t : ℕ → ℕ → ℕ) → closed_total t (wanted 0 (closed_total t) every) ≡ 0
tour-one t = rw (wanted-one (closed_total t)) refl

-- of equal costs the one with the smaller stop in the last place is preferred
beforeb-equal : (c d : ℕ) (l m : List ℕ) → c ≡ d → lexb l m ≡ true → beforeb c l d m ≡ true
unfolding beforeb
beforeb-equal c d l m e h = rw (le-ltb c d (omega arith), eq-eqb c d e) h

-- 0, 1 comes before 1, 0
lexed : lexb (backward (1 ∷ 0 ∷ [])) (backward (0 ∷ 1 ∷ [])) ≡ true
unfolding lexb stops_to
lexed = refl

-- 'For k = 1 the two totals are equal, so the tour is 1, 0'
pub tour-two : (t : ℕ → ℕ → ℕ) → wanted 1 (closed_total t) every ≡ 1 ∷ 0 ∷ []
unfolding wanted found best_of better order_in
tour-two t =
    let e : preferred (closed_total t) (1 ∷ 0 ∷ []) (0 ∷ 1 ∷ []) ≡ true
    = beforeb-equal (closed_total t (1 ∷ 0 ∷ [])) (closed_total t (0 ∷ 1 ∷ [])) (backward (1 ∷ 0 ∷ [])) (backward (0 ∷ 1 ∷ [])) (omega arith) lexed in
    ap (λ b. order_in (cond b (at (closed_total t (1 ∷ 0 ∷ [])) (1 ∷ 0 ∷ [])) (at (closed_total t (0 ∷ 1 ∷ [])) (0 ∷ 1 ∷ [])))) e

-- the last stop of an order of two stops or more is not its first
pub ends-differ : (k F : ℕ) → last_of (suc k) (order_of (suc k) F) ≢ in_place (order_of (suc k) F) 0
ends-differ k F e =
    let i : ℕ = in_place (order_of (suc k) F) 0 in
    let n : 2 ≤ 2 ^ suc k = omega (arith, pow-succ' 2 k, pow_pos k) in
    absurd (omega (arith, stop-only (suc k) F i (2 ^ suc k - 1) (omega arith) e, stop-only (suc k) F i 0 (omega arith) refl))

-- what carries over moves off the diagonal holds of the closed totals of two stops or more, after n moves
pub closed-carry : (t u : ℕ → ℕ → ℕ) (R : ℕ → ℕ → ℕ → Type 0) (none : R 0 0 0) (k : ℕ) → Carries t u R (suc k)
    → (F : ℕ) → R (2 ^ suc k) (closed_total t (order_of (suc k) F)) (closed_total u (order_of (suc k) F))
unfolding home
closed-carry t u R none k step F =
    let o : List ℕ = order_of (suc k) F in
    let n : ℕ = 2 ^ suc k - 1 in
    let small = (forward (suc k) F).small in
    let r = step n _ _ (in_place o n) (in_place o 0) (small n (omega (arith, pow_pos (suc k)))) (small 0 (pow_pos (suc k))) (ends-differ k F)
    (total-carry t u R none (suc k) step F) in
    subst (λ z. R z (closed_total t o) (closed_total u o)) (suc_ones (suc k))
    (subst₂ (R (suc n)) (sym (closed-home (suc k) t F)) (sym (closed-home (suc k) u F)) r)
