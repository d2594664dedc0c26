-- To try all walks, one by one, and keep the least finds the same walk as the recurrence.
use mathlib.Core.Path.{◌≡◌, refl, sym, ap}
use mathlib.Core.Bool.{Bool, true, false, cond}
use mathlib.Core.List.Memᴰ
use mathlib.Core.List.{List, [], ◌∷◌, Memᴰ}
use mathlib.Core.Logic.{⊎_elim}
use Prim.Native.Nat.{ℕ, suc}
use lib.ListN.{length}
use native.Mathlib.Omega.{arith}
use Rattle.walks.proofs.Best.{least_iff, best-least, plan-least, least-unique}
use Rattle.walks.proofs.Prefer.{at_most-trans, beforeb-true, beforeb-false}
use Rattle.walks.proofs.Walk.{walk-length}
use Rattle.walks.specs.Best.{Found, none, at, best, Whole, whole, plan, Least}
use Rattle.walks.specs.Brute.{pick, brute}
use Rattle.walks.specs.Prefer.{beforeb, AtMost, same}
use Rattle.walks.specs.Walk.{Graph, Walk}

-- it is least for what is in the list, if all have one length
pub brute-least : (n : ℕ) (s : List (ℕ × List ℕ)) → ((c : ℕ) (l : List ℕ) → Memᴰ (c, l) s → length l ≡ n)
    → Least (λ c l. Memᴰ (c, l) s) (brute s)
unfolding brute pick
brute-least n [] h = λ c l p. Memᴰ.not-nil p
brute-least n (p ∷ s) h = go (brute s) (brute-least n s (λ c l q. h c l (Memᴰ.tail q)))
  where
    top : Memᴰ (p.0, p.1) (p ∷ s)
    top = Memᴰ.head refl

    its : (d : ℕ) (m : List ℕ) → (d, m) ≡ p → AtMost p.0 p.1 d m
    its d m e = same (ap (λ x. x.0) (sym e)) (ap (λ x. x.1) (sym e))

    go : (x : Found (List ℕ)) → Least (λ c l. Memᴰ (c, l) s) x → Least (λ c l. Memᴰ (c, l) (p ∷ s)) (pick p.0 p.1 x)
    go none k = (top, λ d m q. ⊎_elim (its d m) (λ r. absurd (k d m r)) (Memᴰ.cases_cons q))
    go (at c l) k = two (beforeb p.0 p.1 c l) refl
      where
        two : (t : Bool) → beforeb p.0 p.1 c l ≡ t
            → Least (λ c l. Memᴰ (c, l) (p ∷ s)) (cond t (at p.0 p.1) (at c l))
        two true e = (
          top,
          λ d m q. ⊎_elim (its d m) (λ r. at_most-trans (beforeb-true p.0 p.1 c l e) (k.1 d m r))
              (Memᴰ.cases_cons q),
        )
        two false e =
            let n₁ = h p.0 p.1 top in
            let n₂ = h c l (Memᴰ.tail k.0) in (
              Memᴰ.tail k.0,
              λ d m q. ⊎_elim
                  (λ r. at_most-trans (beforeb-false p.0 p.1 c l (omega arith) e) (its d m r)) (k.1 d m) (Memᴰ.cases_cons q),
            )

-- the least of a list that holds the walks of n moves to i, and nothing else, is what the recurrence finds
pub brute-best : (G : Graph) (n i : ℕ) (s : List (ℕ × List ℕ)) → ((c : ℕ) (l : List ℕ) → Memᴰ (c, l) s → Walk G n i c l)
    → ((c : ℕ) (l : List ℕ) → Walk G n i c l → Memᴰ (c, l) s) → brute s ≡ best G n i
brute-best G n i s f g = least-unique (Walk G n i) (brute s) (best G n i)
    (least_iff (brute s) f g (brute-least n s (λ c l p. walk-length (f c l p)))) (best-least G n i)

-- and of a list that holds the whole walks of n moves, and nothing else, the DP's last choice
pub brute-plan : (G : Graph) (n : ℕ) (s : List (ℕ × List ℕ)) → ((c : ℕ) (l : List ℕ) → Memᴰ (c, l) s → Whole G n c l)
    → ((c : ℕ) (l : List ℕ) → Whole G n c l → Memᴰ (c, l) s) → brute s ≡ plan G n
brute-plan G n s f g = least-unique (Whole G n) (brute s) (plan G n)
    (least_iff (brute s) f g (brute-least (suc n) s (λ c l p. long (f c l p)))) (plan-least G n)
  where
    long : {c : ℕ} {l : List ℕ} → Whole G n c l → length l ≡ suc n
    long (whole b v) = ap suc (walk-length v)
