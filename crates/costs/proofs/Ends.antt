-- Tours by their last stops: the least over the rows is the best tour, and the best walk to its last stop is the rest of it.
use mathlib.Core.Path.{◌≡◌, refl, sym, ap, subst, fun_ext, ◌∙◌}
use mathlib.Core.Bool.{true}
use mathlib.Core.List.{List, ◌∷◌}
use Prim.Native.Nat.{ℕ, suc, ◌+◌, ◌-◌, ◌^◌, ◌<◌}
use native.Mathlib.Nat.{add-zero}
use native.Mathlib.Omega.{arith}
use lib.ListN.{get_or}
use Rattle.walks.specs.Walk.{Graph}
use Rattle.walks.specs.Best.{Found, none, at, scan, step, best}
use Rattle.walks.specs.Rows.{told, line, turn, Codes}
use Rattle.walks.specs.Places.{stops_to}
use Rattle.walks.proofs.Best.{scan-back}
use Rattle.walks.proofs.Rows.{told-told, told-scan, told-step, step-told, line-is}
use Rattle.walks.proofs.Numbers.{turn-codes, codes-told}
use Rattle.tree.specs.Draws.{plans, last_of}
use Rattle.tree.specs.Neighbour.{in_place}
use Rattle.tree.specs.Wanted.{backward, wanted, every}
use Rattle.tree.proofs.Draws.{backward-last}
use Rattle.costs.specs.Costs.{closed_total}
use Rattle.costs.specs.Graphs.{tour_graph}
use Rattle.costs.specs.Ends.{ending, best_end}
use Rattle.costs.proofs.Tour.{tour-plan, tour-long}

module _ (G : ℕ → Graph) (mid n : ℕ) where
  -- they are the last stops of the best walks
  pub ends-are : (N : ℕ) → best_end G mid n N ≡ told (λ l. get_or l 0 0) (plans G N n)
  unfolding plans best_end
  ends-are N = ap (λ u. scan u N) (fun_ext alike) ∙ sym (told-scan (λ l. get_or l 0 0) (λ e. step true 0 (◌∷◌ e) (best (G e) n e)) N)
    where
      alike : (e : ℕ) → step true 0 (λ r. r) (ending G mid n e) ≡ told (λ l. get_or l 0 0) (step true 0 (◌∷◌ e) (best (G e) n e))
      alike e = rw (line-is (G e) mid n e, told-told, step-told, told-step)

  -- one last stop more
  pub ends_more : (inf N v q : ℕ) (s : ℕ × ℕ) → Codes inf s.0 s.1 (best_end G mid n N) → Codes inf v q (line (G N) mid n N)
      → Codes inf (turn true v N s).0 (turn true v N s).1 (best_end G mid n (suc N))
  unfolding best_end scan
  ends_more inf N v q s h c =
      rw (add-zero v) at
      (turn-codes inf (best_end G mid n N) (ending G mid n N) s true v N 0 h (λ t. codes-told inf v q (λ r. N) (line (G N) mid n N) c) (λ t b. omega (arith, b)))

-- the rest of what is found is the best walk to its last stop
plans-back : (G : ℕ → Graph) (n N : ℕ) {c e : ℕ} {l : List ℕ} → plans G N n ≡ at c (e ∷ l) → best (G e) n e ≡ at c l
unfolding plans step
plans-back G n N {c} {e} {l} h = go (scan-back (λ i. step true 0 (◌∷◌ i) (best (G i) n i)) N h)
  where
    some : (i : ℕ) (y : Found (List ℕ)) → best (G i) n i ≡ y → step true 0 (◌∷◌ i) y ≡ at c (e ∷ l) → best (G e) n e ≡ at c l
    some i none q r = let z : ◌≡◌ {A = ℕ} 0 1 = cc in absurd (omega arith)
    some i (at d m) q r =
        let f : d + 0 ≡ c = cc in
        let f' : d ≡ c = omega arith in
        let g : i ≡ e = cc in
        let g' : m ≡ l = cc in
        subst (λ x. best (G x) n x ≡ at c l) g (q ∙ ap (λ x. at x m) f' ∙ ap (at c) g')

    go : (i : ℕ) × (i < N) × (step true 0 (◌∷◌ i) (best (G i) n i) ≡ at c (e ∷ l)) → best (G e) n e ≡ at c l
    go r = some r.0 (best (G r.0) n r.0) refl r.2

-- the wanted tour by its last stop e: its cost is c, and the best walk to e in the graph of e is what stands before it
pub record TourEnd (k : ℕ) (t : ℕ → ℕ → ℕ) (c e : ℕ) : Type 0 where
  pub rest : List ℕ
  pub found : best (tour_graph k t e) (2 ^ k - 1) e ≡ at c rest
  pub back : backward (wanted k (closed_total t) every) ≡ e ∷ rest
  pub sum : c ≡ closed_total t (wanted k (closed_total t) every)

-- numbers that stand for the least over all last stops
pub tour-end : (k : ℕ) (t : ℕ → ℕ → ℕ) (inf mid c e : ℕ) → Codes inf c e (best_end (tour_graph k t) mid (2 ^ k - 1) (2 ^ k)) → TourEnd k t c e
unfolding told
tour-end k t inf mid c e h =
    let w : List ℕ = wanted k (closed_total t) every in
    let z : ℕ = closed_total t w in
    let rest : List ℕ = stops_to (in_place w) (2 ^ k - 1) in
    let back : backward w ≡ last_of k w ∷ rest = backward-last k w (tour-long k t) in
    let all : plans (tour_graph k t) (2 ^ k) (2 ^ k - 1) ≡ at z (last_of k w ∷ rest) = tour-plan k t ∙ ap (at z) back in
    let is : best_end (tour_graph k t) mid (2 ^ k - 1) (2 ^ k) ≡ at z (last_of k w) = ends-are (tour_graph k t) mid (2 ^ k - 1) (2 ^ k) ∙ ap (told (λ l. get_or l 0 0)) all in
    let q : Codes inf c e (at z (last_of k w)) = subst (Codes inf c e) is h in
    let same : last_of k w ≡ e = sym q.1 in
    record {
      rest = rest;
      found = plans-back (tour_graph k t) (2 ^ k - 1) (2 ^ k) (all ∙ ap (λ x. at x (last_of k w ∷ rest)) (sym q.0) ∙ ap (λ x. at c (x ∷ rest)) same);
      back = back ∙ ap (λ x. x ∷ rest) same;
      sum = q.0;
    }
