-- Orders and lists read from the last place back are one to one: a list read back is an order, and two orders that read the same are
-- the same.
use mathlib.Core.Path.{◌≡◌, refl, sym, ap, ap₂, ◌∙◌}
use mathlib.Core.List.{List, [], ◌∷◌}
use Prim.Native.Nat.{ℕ, zero, suc, ◌-◌, ◌<◌}
use native.Mathlib.Omega.{arith}
use lib.ListN.{length, get_or}
use Rattle.base.specs.Lists.{tabulate}
use Rattle.base.proofs.Lists.{length-tabulate, get_or-tabulate}
use Rattle.walks.specs.Places.{stops_to}
use Rattle.walks.proofs.Places.{stops_same, stops-alike, stops-length}
use lib.Seq.{ext_get_or}
use Rattle.tree.specs.Neighbour.{in_place}
use Rattle.tree.specs.Wanted.{backward}

-- the stops of a list taken from its end are the list
stops-get_or : (l : List ℕ) (n : ℕ) → length l ≡ n → stops_to (λ p. get_or l (n - suc p) 0) n ≡ l
unfolding stops_to
stops-get_or [] zero e = refl
stops-get_or [] (suc n) e = absurd (omega arith)
stops-get_or (i ∷ l) zero e = absurd (omega arith)
stops-get_or (i ∷ l) (suc n) e = ap₂ ◌∷◌ top (stops_same _ (λ p. get_or l (n - suc p) 0) n rest ∙ stops-get_or l n (omega arith))
  where
    top : get_or (i ∷ l) (suc n - suc n) 0 ≡ i
    top = let z : suc n - suc n ≡ 0 = omega arith in rw z

    rest : (p : ℕ) → p < n → get_or (i ∷ l) (suc n - suc p) 0 ≡ get_or l (n - suc p) 0
    rest p b = let z : suc n - suc p ≡ suc (n - suc p) = omega arith in rw z

-- the order whose stops, the last first, are l
unfoldable pub turned : List ℕ → ℕ → List ℕ
turned l n = tabulate n (λ p. get_or l (n - suc p) 0)

-- it has n stops
pub length-turned : (l : List ℕ) (n : ℕ) → length (turned l n) ≡ n
unfolding turned
length-turned l n = length-tabulate n _

-- and reads back as l
pub stops-turned : (l : List ℕ) (n : ℕ) → length l ≡ n → stops_to (in_place (turned l n)) n ≡ l
unfolding turned
stops-turned l n e = stops_same _ (λ p. get_or l (n - suc p) 0) n (λ p b. get_or-tabulate n _ p 0 b) ∙ stops-get_or l n e

-- two orders that read the same from the last place back are the same
pub backward-same : (o u : List ℕ) → length o ≡ length u → backward o ≡ backward u → o ≡ u
backward-same o u e h =
    ext_get_or 0 o u e (stops-alike (in_place o) (in_place u) (length o) (h ∙ ap (stops_to (in_place u)) (sym e)))

-- an order read back is as long
pub backward-length : (o : List ℕ) → length (backward o) ≡ length o
backward-length o = stops-length (in_place o) (length o)
