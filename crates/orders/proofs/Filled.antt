-- A buffer whose first n places were filled one by one.
use mathlib.Core.Path.{◌≡◌, sym, ap, ◌∙◌}
use mathlib.Core.List.{List, [], ◌∷◌, ◌++◌, append-nil}
use Prim.Native.Nat.{ℕ, suc, ◌+◌, ◌≤◌, ◌<◌}
use native.Mathlib.Numerals.{add-one}
use native.Mathlib.Omega.{arith}
use lib.ListN.{length, get_or, set, take, drop, drop_of_length-le}
use lib.Seq.{length-take-le, take-suc, take_all, drop-cons, set_at, append_snoc}
use Rattle.base.specs.Outcome.{over}
use Rattle.base.specs.Lists.{tabulate}
use Rattle.base.proofs.Lists.{length-tabulate}
use Rattle.base.proofs.Outcome.{over-at}

-- once p is n, the places hold f, and the buffer beyond is as it was
pub filled : (n p : ℕ) (f : ℕ → ℕ) (places buffer : List ℕ) → n ≤ length buffer → p ≡ n → places ≡ tabulate p f ++ drop p (take n buffer)
    → places ++ drop n buffer ≡ over (tabulate n f) buffer
filled n p f places buffer fits e h =
    let none : length (take n buffer) ≤ n = omega (arith, length-take-le n buffer fits) in
    rw (h, e, drop_of_length-le (take n buffer) none, append-nil (tabulate n f)) (sym (over-at n (tabulate n f) buffer (length-tabulate n f)))

-- ---- filled from another list

-- one element more
pub copied-more : {A : Type 0} (d s : List A) (i : ℕ) (x z : A) → i < length d → i < length s → x ≡ get_or s i z → set (take i s ++ drop i d) i x ≡ take (i + 1) s ++ drop (i + 1) d
copied-more {A} d s i x z a b e =
    let rest : List A = drop (suc i) d in
    ap (λ (l : List A). set (take i s ++ l) i x) (drop-cons d i x a)
    ∙ set_at (take i s) (get_or d i x) rest x i (length-take-le i s (omega arith))
    ∙ sym (append_snoc (take i s) x rest)
    ∙ ap (λ (l : List A). l ++ rest) (ap (λ (y : A). take i s ++ y ∷ []) e ∙ sym (take-suc s i z b))
    ∙ ap (λ (j : ℕ). take j s ++ drop j d) (sym (add-one i))

-- all of it, into a buffer as long
pub copied-all : {A : Type 0} (d s : List A) (i : ℕ) → length d ≤ i → length d ≡ length s → take i s ++ drop i d ≡ s
copied-all d s i h e = rw (take_all i s (omega arith), drop_of_length-le d h) (append-nil s)

-- its first n, and the buffer beyond is as it was
pub copied-front : (n i : ℕ) (s places buffer : List ℕ) → n ≤ length buffer → n ≤ length s → i ≡ n → places ≡ take i s ++ drop i (take n buffer)
    → places ++ drop n buffer ≡ over (take n s) buffer
copied-front n i s places buffer fits long e h =
    let none : length (take n buffer) ≤ n = omega (arith, length-take-le n buffer fits) in
    rw (h, e, drop_of_length-le (take n buffer) none, append-nil (take n s)) (sym (over-at n (take n s) buffer (length-take-le n s long)))
