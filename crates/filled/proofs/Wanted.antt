-- THE WANTED LIST of the plain enumeration over all sets of forks is what the table's last row holds; nothing else is preferred to all lists. With
-- no empty stop it is the wanted order; with no filled stop it is empty.
use mathlib.Core.Path.{◌≡◌, refl, sym, ap, subst, ◌∙◌}
use mathlib.Core.Bool.{Bool, true, false, cond}
use mathlib.Core.List.{List, []}
use mathlib.Core.Logic.{◌≢◌}
use Prim.Native.Nat.{ℕ, zero, suc, ◌*◌, ◌-◌, ◌/◌, ◌^◌, ◌<◌}
use native.Mathlib.Nat.{pow-succ'}
use native.Mathlib.Omega.{arith}
use lib.ListN.{length}
use lib.Pow.{pow_pos}
use Rattle.walks.specs.Best.{at}
use Rattle.walks.specs.Prefer.{Lex, AtMost, less, same, cheaper, smaller, Compared, former, even, latter}
use Rattle.walks.specs.Places.{stops_to, Earlier}
use Rattle.walks.proofs.Best.{least-only}
use Rattle.walks.proofs.Prefer.{Trich, trich, below, equal, above, beforeb-true, beforeb-false, at_most-refl, at_most-trans, at_most-antisym, at_most-cost, before-total, lex_irrefl, lex-trans, lex-differ}
use Rattle.walks.proofs.Places.{earlier-lex, lex-earlier}
use Rattle.tree.specs.Neighbour.{in_place}
use Rattle.tree.specs.Order.{order_of}
use Rattle.tree.specs.Total.{total}
use Rattle.tree.specs.Wanted.{backward, preferred}
use Rattle.tree.specs.Open.{wanted, Shortest}
use Rattle.tree.proofs.Link.{length-order_of}
use Rattle.tree.proofs.Theorem7.{set_of, set_of-lt, set_of-even}
use Rattle.tree.proofs.Theorem7 as seven
use Rattle.tree.proofs.Backward.{backward-same, backward-length}
use Rattle.tree.proofs.Open.{shortest-wanted}
use Rattle.filled.specs.Lists.{keep_filled, list_of, better, best_list, wanted_list, ShortestList}
use Rattle.filled.specs.Forks.{filled_below}
use Rattle.filled.specs.Moves.{moves_forks}
use Rattle.filled.specs.Table.{last_row}
use Rattle.filled.proofs.Arranged.{count_in}
use Rattle.filled.proofs.Backward.{joined, joined-total}
use Rattle.filled.proofs.Least.{Costed, last_row-least}
use Rattle.filled.proofs.Meant.{list-given}
use Rattle.filled.proofs.Sets.{list-arranged, length-list_of, list_of-full, list_of-empty}

-- o is preferred to u, or is the same
abbrev NotWorse : (ℕ → ℕ → ℕ) → List ℕ → List ℕ → Type 0
NotWorse t o u = AtMost (total t o) (backward o) (total t u) (backward u)

-- what is not worse than another list of the same total stands before it in the rule for equals
not_worse-first : (t : ℕ → ℕ → ℕ) (o u : List ℕ) → length u ≡ length o → NotWorse t o u → total t u ≡ total t o → u ≢ o
    → Earlier (length o) (in_place o) (in_place u)
not_worse-first t o u f (less (cheaper h)) c d = absurd (omega arith)
not_worse-first t o u f (less (smaller h l)) c d = lex-earlier (length o) (in_place o) (in_place u) (rw f at l)
not_worse-first t o u f (same h l) c d = absurd (d (backward-same u o f (sym l)))

module _ (k : ℕ) (s : ℕ → Bool) where
  module _ (t : ℕ → ℕ → ℕ) where
    -- what the enumeration finds is given by a set of forks
    best_list-given : (m : ℕ) → (F : ℕ) × (list_of k s F ≡ best_list k s t m)
    unfolding best_list
    best_list-given zero = (0, refl)
    best_list-given (suc m) = go (preferred (total t) (list_of k s (2 * m)) (best_list k s t m)) (best_list-given m)
      where
        go : (b : Bool) → (F : ℕ) × (list_of k s F ≡ best_list k s t m) → (F : ℕ) × (list_of k s F ≡ cond b (list_of k s (2 * m)) (best_list k s t m))
        go true h = (2 * m, refl)
        go false h = h

    -- the better of two lists is not worse than either
    better-not_worse : (o u : List ℕ) → length o ≡ length u → NotWorse t (better t o u) o × NotWorse t (better t o u) u
    better-not_worse o u e = go (preferred (total t) o u) refl
      where
        go : (b : Bool) → preferred (total t) o u ≡ b → NotWorse t (cond b o u) o × NotWorse t (cond b o u) u
        go true h = (at_most-refl _ _, beforeb-true _ _ _ _ h)
        go false h = (beforeb-false _ _ _ _ (backward-length o ∙ e ∙ sym (backward-length u)) h, at_most-refl _ _)

    -- no set that was tried gives a preferred one
    best_list-least : (m j : ℕ) → j < m → NotWorse t (best_list k s t m) (list_of k s (2 * j))
    unfolding best_list
    best_list-least zero j b = absurd (omega arith)
    best_list-least (suc m) j b = go (trich j m) (λ h. best_list-least m j h)
      where
        u : List ℕ
        u = list_of k s (2 * m)

        w : List ℕ
        w = best_list k s t m

        each : NotWorse t (better t u w) u × NotWorse t (better t u w) w
        each = let g = best_list-given m in better-not_worse u w (length-list_of k s (2 * m) ∙ sym (length-list_of k s g.0) ∙ ap length g.1)

        go : Trich j m → (j < m → NotWorse t w (list_of k s (2 * j))) → NotWorse t (better t u w) (list_of k s (2 * j))
        go (below h) ih = at_most-trans each.1 (ih h)
        go (equal h) ih = rw h each.0
        go (above h) ih = absurd (omega arith)

    -- the wanted list is given by a set of forks
    pub wanted_list-given : (F : ℕ) × (list_of k s F ≡ wanted_list k s t)
    unfolding wanted_list
    wanted_list-given = best_list-given (2 ^ (2 ^ k - 1))

    -- NO SET OF FORKS GIVES A LIST THAT IS PREFERRED TO IT
    pub wanted_list-least : (F : ℕ) → NotWorse t (wanted_list k s t) (list_of k s F)
    unfolding wanted_list
    wanted_list-least F =
        let S : ℕ = set_of k (order_of k F) in
        let n : ℕ = 2 ^ k in
        let e : S ≡ 2 * (S / 2) = omega (arith, set_of-even k (order_of k F)) in
        let h : 2 ^ n ≡ 2 * 2 ^ (n - 1) = subst (λ x. 2 ^ x ≡ 2 * 2 ^ (n - 1)) (omega (arith, pow_pos k)) (pow-succ' 2 (n - 1)) in
        let b : S / 2 < 2 ^ (n - 1) = omega (arith, set_of-lt k (order_of k F)) in
        let g : order_of k (2 * (S / 2)) ≡ order_of k F = rw (← e) (seven.backward k (order_of k F) (seven.forward k F)) in
        subst (λ o. NotWorse t (best_list k s t (2 ^ (n - 1))) (keep_filled s o)) g (best_list-least (2 ^ (n - 1)) (S / 2) b)

    -- it has as many stops as are filled
    pub length-wanted_list : length (wanted_list k s t) ≡ count_in s 0 (2 ^ k)
    length-wanted_list = let g = wanted_list-given in sym (ap length g.1) ∙ length-list_of k s g.0

    -- THE LAST ROW HOLDS THE WANTED LIST, with its total
    pub last_row-wanted : filled_below k s k 1 ≡ true → last_row k s t ≡ at (total t (wanted_list k s t)) (backward (wanted_list k s t))
    last_row-wanted f = least-only (Costed k s t) (last_row k s t) (last_row-least k s t f) costed at_most
      where
        w : List ℕ
        w = wanted_list k s t

        costed : Costed k s t (total t w) (backward w)
        costed = let g = wanted_list-given in (rw (← g.1) (list-arranged k s g.0), sym (joined-total t w))

        at_most : (e : ℕ) (r : List ℕ) → Costed k s t e r → AtMost (total t w) (backward w) e r
        at_most e r c =
            let u : List ℕ = list_of k s (moves_forks k r) in
            let g : backward u ≡ r = list-given k s r c.0 in
            let h : total t u ≡ e = sym (joined-total t u) ∙ ap (joined t) g ∙ sym c.1 in
            rw (← g, ← h) (wanted_list-least (moves_forks k r))

    -- THE WANTED LIST IS WHAT IS ASKED FOR
    pub wanted_list-shortest : ShortestList k s t (wanted_list k s t) (total t (wanted_list k s t))
    wanted_list-shortest = let g = wanted_list-given in record {
      forks = g.0;
      given = g.1;
      summed = refl;
      least = λ F. at_most-cost (wanted_list-least F);
      first = λ F. not_worse-first t (wanted_list k s t) (list_of k s F)
          (length-list_of k s F ∙ sym (length-list_of k s g.0) ∙ ap length g.1) (wanted_list-least F);
    }

    -- what is asked for, as the preference
    pub shortest_list-not_worse : (o : List ℕ) (c : ℕ) → ShortestList k s t o c → (F : ℕ) → NotWorse t o (list_of k s F)
    shortest_list-not_worse o c h F = go (before-total (total t o) (backward o) (total t u) (backward u) (backward-length o ∙ f ∙ sym (backward-length u)))
      where
        u : List ℕ
        u = list_of k s F

        f : length o ≡ length u
        f = sym (ap length h.given) ∙ length-list_of k s h.forks ∙ sym (length-list_of k s F)

        go : Compared (total t o) (backward o) (total t u) (backward u) → NotWorse t o u
        go (former x) = less x
        go (even x l) = same x l
        go (latter (cheaper x)) = absurd (omega (arith, h.least F, h.summed))
        go (latter (smaller x l)) =
            let apart : u ≢ o = λ y. lex-differ l (ap backward y) in
            let before : Lex (stops_to (in_place o) (length o)) (stops_to (in_place u) (length o)) = earlier-lex (length o) (in_place o) (in_place u) (h.first F (x ∙ sym h.summed) apart) in
            let first : Lex (backward o) (backward u) = rw (← f) before in
            absurd (lex_irrefl (backward o) (lex-trans first l))

    -- AND NOTHING ELSE IS
    pub shortest_list-wanted : (o : List ℕ) (c : ℕ) → ShortestList k s t o c → (o ≡ wanted_list k s t) × (c ≡ total t (wanted_list k s t))
    shortest_list-wanted o c h =
        let w = wanted_list-given in
        let there : NotWorse t o (wanted_list k s t) = subst (NotWorse t o) w.1 (shortest_list-not_worse o c h w.0) in
        let back : NotWorse t (wanted_list k s t) o = subst (NotWorse t (wanted_list k s t)) h.given (wanted_list-least h.forks) in
        let f : length o ≡ length (wanted_list k s t) = sym (ap length h.given) ∙ length-list_of k s h.forks ∙ sym (length-list_of k s w.0) ∙ ap length w.1 in
        let e : o ≡ wanted_list k s t = backward-same o (wanted_list k s t) f (at_most-antisym there back).1 in
        (e, h.summed ∙ ap (total t) e)

    -- WITH NO EMPTY STOP it is the wanted order: what is asked of both is the same
    pub wanted_list-full : ((i : ℕ) → i < 2 ^ k → s i ≡ true) → wanted_list k s t ≡ wanted k t
    wanted_list-full h = (shortest-wanted k t (wanted_list k s t) (total t (wanted_list k s t)) shortest).0
      where
        w : ShortestList k s t (wanted_list k s t) (total t (wanted_list k s t))
        w = wanted_list-shortest

        long : length (wanted_list k s t) ≡ 2 ^ k
        long = sym (ap length w.given) ∙ ap length (list_of-full k s h w.forks) ∙ length-order_of k w.forks

        shortest : Shortest k t (wanted_list k s t) (total t (wanted_list k s t))
        shortest = record {
          forks = w.forks;
          counted = refl;
          given = sym (list_of-full k s h w.forks) ∙ w.given;
          costs = w.summed;
          least = λ F c. rw (list_of-full k s h F) at (w.least F);
          first = λ F c e d.
              let x : Earlier (length (wanted_list k s t)) (in_place (wanted_list k s t)) (in_place (order_of k F)) = rw (list_of-full k s h F) at (w.first F) e d in
              rw long at x;
        }

    -- WITH NO FILLED STOP it is empty; its total is 0, since `total t []` is
    pub wanted_list-empty : ((i : ℕ) → i < 2 ^ k → s i ≡ false) → wanted_list k s t ≡ []
    wanted_list-empty h = let g = wanted_list-given in sym g.1 ∙ list_of-empty k s h g.0
