-- Exchanges add up. The states of its forks decide an order, and an exchange of the set X adds the bits of X to them, modulo 2. So one set
-- after another adds the bits of both, in either sequence, a set used twice adds nothing, and the one set that leads from an order to
-- another is the difference of theirs.
use mathlib.Core.Path.{◌≡◌, sym, ap, ◌∙◌}
use mathlib.Core.Bool.{true}
use mathlib.Core.List.{List}
use mathlib.Core.Logic.{◌↔◌}
use Prim.Native.Nat.{ℕ, zero, suc, ◌+◌, ◌%◌, ◌^◌, ◌≤◌, ◌<◌}
use native.Mathlib.Omega.{arith}
use lib.Bits.{bit_xor, xor_lt, xor_comm, xor_zero_r}
use lib.ListN.{length}
use lib.Pow.{pow-lt}
use Rattle.tree.specs.Fork.{bit}
use Rattle.tree.specs.Order.{order_of}
use Rattle.tree.proofs.Bit.{bit-zero, bit-ext}
use Rattle.tree.proofs.Link.{length-order_of}
use Rattle.tree.proofs.Theorem7.{decides, decided}
use Rattle.orders.specs.Allowed.{is_allowed, forks_of}
use Rattle.orders.specs.Bits.{only_forks}
use Rattle.orders.specs.Exchange.{exchange}
use Rattle.orders.proofs.Allowed.{forks_of-gives, forks_of-order_of, order_of-allowed}
use Rattle.orders.proofs.Bits.{bit-none, only-forks, forks-only, bit-pow-other}
use Rattle.groups.specs.Exchange.{leading}
use Rattle.groups.proofs.Xor.{bit-xor}

-- ---- sets of forks

-- the symmetric difference of two even numbers is even
xor-even : (x y : ℕ) → x % 2 ≡ 0 → y % 2 ≡ 0 → bit_xor x y % 2 ≡ 0
xor-even x y a b = omega (arith, bit-xor x y 0, bit-zero x, bit-zero y, bit-zero (bit_xor x y))

-- the symmetric difference of two sets of forks is one
pub xor-forks : (k X Y : ℕ) → only_forks k X ≡ true → only_forks k Y ≡ true → only_forks k (bit_xor X Y) ≡ true
xor-forks k X Y a b =
    let x = only-forks k X a in
    let y = only-forks k Y b in
    forks-only k (bit_xor X Y) (xor-even X Y x.0 y.0) (xor_lt (2 ^ k) X Y x.1 y.1)

-- a fork alone is a set of forks
pub fork-forks : (k v : ℕ) → 1 ≤ v → v < 2 ^ k → only_forks k (2 ^ v) ≡ true
fork-forks k zero a b = absurd (omega arith)
fork-forks k (suc v) a b =
    forks-only k (2 ^ suc v) (omega (arith, bit-zero (2 ^ suc v), bit-pow-other (suc v) 0 (λ e. absurd (omega arith)))) (pow-lt b)

-- the set of an allowed order is one
order-forks : (k : ℕ) (o : List ℕ) → is_allowed k o ≡ true → only_forks k (forks_of k o) ≡ true
order-forks k o allowed = let g = forks_of-gives k o allowed in forks-only k (forks_of k o) g.even g.small

-- ---- an exchanged order

-- is allowed
pub exchange-allowed : (k : ℕ) (o : List ℕ) (X : ℕ) → is_allowed k (exchange k o X) ≡ true
unfolding exchange
exchange-allowed k o X = order_of-allowed k (bit_xor (forks_of k o) X)

-- has n stops
pub length-exchange : (k : ℕ) (o : List ℕ) (X : ℕ) → length (exchange k o X) ≡ 2 ^ k
unfolding exchange
length-exchange k o X = length-order_of k (bit_xor (forks_of k o) X)

-- 'with those forks' states inverted': a fork's state is inverted where it is in the set, and is as it was where it is not
pub exchange-state : (k : ℕ) (o : List ℕ) (X v : ℕ) → 1 ≤ v → v < 2 ^ k → bit (forks_of k (exchange k o X)) v ≡ (bit (forks_of k o) v + bit X v) % 2
unfolding exchange
exchange-state k o X v a b =
    let F : ℕ = bit_xor (forks_of k o) X in
    decides k (forks_of k (order_of k F)) F (forks_of-gives k (order_of k F) (order_of-allowed k F)).given v a b ∙ bit-xor (forks_of k o) X v

-- two exchanges come to the same where the states do
same-states : (k : ℕ) (o : List ℕ) (X : ℕ) (u : List ℕ) (Y : ℕ)
    → ((v : ℕ) → 1 ≤ v → v < 2 ^ k → (bit (forks_of k o) v + bit X v) % 2 ≡ (bit (forks_of k u) v + bit Y v) % 2) → exchange k o X ≡ exchange k u Y
unfolding exchange
same-states k o X u Y same =
    decided k (bit_xor (forks_of k o) X) (bit_xor (forks_of k u) Y) (λ v a b. bit-xor (forks_of k o) X v ∙ same v a b ∙ sym (bit-xor (forks_of k u) Y v))

-- sums of states, modulo 2
odd-assoc : (f x y : ℕ) → ((f + x) % 2 + y) % 2 ≡ (f + (x + y) % 2) % 2
odd-assoc f x y = omega arith

odd-twice : (f x y g z : ℕ) → g ≡ (f + x) % 2 → z ≡ (x + y) % 2 → (g + y) % 2 ≡ (f + z) % 2
odd-twice f x y g z d e = rw (d, e) (odd-assoc f x y)

odd-back : (f x g : ℕ) → g ≡ (f + x) % 2 → (g + x) % 2 ≡ (f + 0) % 2
odd-back f x g e = omega arith

odd-difference : (f g z : ℕ) → z ≡ (f + g) % 2 → (f + z) % 2 ≡ (g + 0) % 2
odd-difference f g z e = omega arith

-- ---- the laws, of every k

-- 'one set followed by another equals their symmetric difference'
pub exchange-twice : (k : ℕ) (o : List ℕ) (X Y : ℕ) → exchange k (exchange k o X) Y ≡ exchange k o (bit_xor X Y)
exchange-twice k o X Y = same-states k (exchange k o X) Y o (bit_xor X Y) (λ v a b. odd-twice (bit (forks_of k o) v) (bit X v) (bit Y v) _ _ (exchange-state k o X v a b) (bit-xor X Y v))

-- 'either may come first'
pub exchange-either : (k : ℕ) (o : List ℕ) (X Y : ℕ) → exchange k (exchange k o X) Y ≡ exchange k (exchange k o Y) X
exchange-either k o X Y = exchange-twice k o X Y ∙ ap (exchange k o) (xor_comm X Y) ∙ sym (exchange-twice k o Y X)

-- the empty set changes nothing
pub exchange-none : (k : ℕ) (o : List ℕ) → is_allowed k o ≡ true → exchange k o 0 ≡ o
unfolding exchange
exchange-none k o allowed = rw (xor_zero_r (forks_of k o)) (forks_of-gives k o allowed).given

-- an exchange after which every fork has the state that it has in u makes u
same-order : (k : ℕ) (o : List ℕ) (X : ℕ) (u : List ℕ) → is_allowed k u ≡ true
    → ((v : ℕ) → 1 ≤ v → v < 2 ^ k → (bit (forks_of k o) v + bit X v) % 2 ≡ (bit (forks_of k u) v + 0) % 2) → exchange k o X ≡ u
same-order k o X u allowed same =
    same-states k o X u 0 (λ v a b. rw (bit-none v) (same v a b)) ∙ exchange-none k u allowed

module _ (k : ℕ) (o : List ℕ) (allowed : is_allowed k o ≡ true) where
  -- 'a set used twice gives the order back'
  pub exchange-back : (X : ℕ) → exchange k (exchange k o X) X ≡ o
  exchange-back X = same-order k (exchange k o X) X o allowed (λ v a b. odd-back (bit (forks_of k o) v) (bit X v) _ (exchange-state k o X v a b))

  -- the set of the exchanged order is the symmetric difference
  pub forks_of-exchange : (X : ℕ) → only_forks k X ≡ true → forks_of k (exchange k o X) ≡ bit_xor (forks_of k o) X
  unfolding exchange
  forks_of-exchange X h =
      let f = only-forks k (bit_xor (forks_of k o) X) (xor-forks k (forks_of k o) X (order-forks k o allowed) h) in
      forks_of-order_of k (bit_xor (forks_of k o) X) f.0 f.1

  module _ (u : List ℕ) (allowed' : is_allowed k u ≡ true) where
    -- the set that leads to another order is a set of forks
    pub leading-forks : only_forks k (leading k o u) ≡ true
    unfolding leading
    leading-forks = xor-forks k (forks_of k o) (forks_of k u) (order-forks k o allowed) (order-forks k u allowed')

    -- it leads there
    pub leading-leads : exchange k o (leading k o u) ≡ u
    unfolding leading
    leading-leads = same-order k o (bit_xor F G) u allowed' (λ v a b. odd-difference (bit F v) (bit G v) _ (bit-xor F G v))
      where
        F : ℕ
        F = forks_of k o

        G : ℕ
        G = forks_of k u

    -- and no other does
    pub leading-only : (X : ℕ) → only_forks k X ≡ true → exchange k o X ≡ u → X ≡ leading k o u
    unfolding leading
    leading-only X h e =
        let F : ℕ = forks_of k o in
        let G : ℕ = forks_of k u in
        let same : bit_xor F X ≡ G = sym (forks_of-exchange X h) ∙ ap (forks_of k) e in
        bit-ext (2 ^ k) X (bit_xor F G) (only-forks k X h).1 (only-forks k (bit_xor F G) leading-forks).1
        (λ v b. omega (arith, bit-xor F X v, bit-xor F G v, ap (λ z. bit z v) same))

    -- 'from any allowed order exactly one set leads to any other'
    pub leads-exactly : (X : ℕ) → ((only_forks k X ≡ true) × (exchange k o X ≡ u)) ↔ (X ≡ leading k o u)
    leads-exactly X = (λ h. leading-only X h.0 h.1, λ e. (rw e leading-forks, rw e leading-leads))
