-- An order from the root down: the order of what is below a fork is that of one side and then that of the other, and each stop
-- stands in it once.
use mathlib.Core.Path.{◌≡◌, refl, sym, ap, ◌∙◌}
use mathlib.Core.List.{List, ◌++◌, map}
use Prim.Native.Nat.{ℕ, zero, suc, ◌+◌, ◌-◌, ◌/◌, ◌%◌, ◌^◌, ◌<◌}
use native.Mathlib.Nat.{zero-sub, pow-succ', div-eq_of_lt, div-eq_of_lt-le}
use native.Mathlib.Decide.{dec_lt}
use native.Mathlib.Omega.{arith}
use lib.ListN.{length, get_or, length-append, length-map, get_or-append, get_or-map}
use lib.Seq.{get_or-append-add}
use Rattle.tree.specs.Fork.{bit, side, stop_of}
use Rattle.base.proofs.Lists.{tabulate-of}
use Rattle.tree.specs.Order.{place_of, down, stop_in, order_of, below}
use Rattle.tree.specs.Neighbour.{in_place}
use Rattle.tree.proofs.Bit.{shr-add}
use Rattle.tree.proofs.Theorem7.{place_of-lt, place_of-stop_in, stop_in-place_of}
use Rattle.tree.proofs.Link.{get_or-order_of}

-- only the lowest d bits of the place matter for the way down d depths
down-same : (F p q d v : ℕ) → ((b : ℕ) → b < d → bit p b ≡ bit q b) → down F p d v ≡ down F q d v
down-same F p q zero v s = refl
down-same F p q (suc d) v s = rw (s d (omega arith)) (down-same F p q d _ (λ b c. s b (omega arith)))

-- the bits below the highest
bit-add : (m q b : ℕ) → b < m → bit (2 ^ m + q) b ≡ bit q b
bit-add m q b c =
    let e : ℕ = m - suc b in
    let h : m ≡ suc e + b = omega arith in
    let w : (2 ^ m + q) / 2 ^ b ≡ 2 ^ suc e + q / 2 ^ b = ap (λ x. (2 ^ x + q) / 2 ^ b) h ∙ shr-add (suc e) b q in
    omega (arith, pow-succ' 2 e)

-- they are 2^m
pub length-below : (F m v : ℕ) → length (below F m v) ≡ 2 ^ m
unfolding below
length-below F zero v = refl
length-below F (suc m) v = rw length-append (omega (arith, length-below F m (side v (bit F v)), length-below F m (side v (1 - bit F v)), pow-succ' 2 m))

-- in place p of those below v is what the bits of p lead to from v
pub get_or-below : (F m v p : ℕ) → p < 2 ^ m → get_or (below F m v) p 0 ≡ down F p m v
unfolding below
get_or-below F zero v p b = let e : p ≡ 0 = omega arith in rw e
get_or-below F (suc m) v p b = go (get_or-below F m) (dec_lt p (2 ^ m))
  where
    l : List ℕ
    l = below F m (side v (bit F v))

    r : List ℕ
    r = below F m (side v (1 - bit F v))

    to : ℕ
    to = side v ((bit p m + bit F v) % 2)

    go : ((w q : ℕ) → q < 2 ^ m → get_or (below F m w) q 0 ≡ down F q m w) → Dec (p < 2 ^ m) → get_or (l ++ r) p 0 ≡ down F p m to
    go ih (yes h) =
        let z : p / 2 ^ m ≡ 0 = div-eq_of_lt h in
        let w : side v (bit F v) ≡ to = omega arith in
        get_or-append l r 0 p (rw (length-below F m (side v (bit F v))) h) ∙ ih _ p h ∙ ap (down F p m) w
    go ih (no h) =
        let q : ℕ = p - 2 ^ m in
        let e : p ≡ 2 ^ m + q = omega arith in
        let y : p / 2 ^ m ≡ 1 = div-eq_of_lt-le (2 ^ m) (omega arith) (omega (arith, pow-succ' 2 m)) in
        let w : side v (1 - bit F v) ≡ to = omega arith in
        let j : p ≡ length l + q = omega (arith, length-below F m (side v (bit F v))) in
        ap (λ x. get_or (l ++ r) x 0) j ∙ get_or-append-add l r q 0 ∙ ih _ q (omega (arith, pow-succ' 2 m)) ∙ ap (down F q m) w
        ∙ down-same F q p m to (λ c d. sym (ap (λ x. bit x c) e ∙ bit-add m q c d))

-- an order is that list from the root: one side and then the other, swapped exactly at the exchanged forks
pub order_of-sides : (k F : ℕ) → map (stop_of k) (below F k 1) ≡ order_of k F
order_of-sides k F = tabulate-of (2 ^ k) (stop_in k F) (map (stop_of k) (below F k 1)) 0 (length-map (below F k 1) (stop_of k) ∙ length-below F k 1) each
  where
    each : (p : ℕ) → p < 2 ^ k → get_or (map (stop_of k) (below F k 1)) p 0 ≡ stop_in k F p
    each p b = rw zero-sub at (get_or-map (stop_of k) (below F k 1) p 0) ∙ ap (stop_of k) (get_or-below F k 1 p b)

-- each stop stands in one place
pub stop-once : (k F i : ℕ) → i < 2 ^ k → in_place (order_of k F) (place_of k F i) ≡ i
stop-once k F i b = get_or-order_of k F (place_of k F i) (place_of-lt k F i) ∙ stop_in-place_of k F i b

-- and in no other
pub stop-only : (k F i p : ℕ) → p < 2 ^ k → in_place (order_of k F) p ≡ i → p ≡ place_of k F i
stop-only k F i p b e = sym (place_of-stop_in k F p b) ∙ ap (place_of k F) (sym (get_or-order_of k F p b) ∙ e)
