-- A SET OF FORKS GIVES A LIST OF THE TREE, side by side as an order is made of what is below the root.
use mathlib.Core.Path.{◌≡◌, refl, sym, ap, ◌∙◌}
use mathlib.Core.Bool.{Bool, true, false, cond}
use mathlib.Core.List.{List, [], ◌∷◌, ◌++◌, map, map-append}
use Prim.Native.Nat.{ℕ, zero, suc, ◌*◌, ◌-◌, ◌^◌, ◌<◌}
use native.Mathlib.Nat.{one-mul}
use native.Mathlib.Omega.{arith}
use lib.ListN.{length}
use Rattle.tree.specs.Fork.{bit, side, stop_of}
use Rattle.tree.specs.Order.{order_of, below}
use Rattle.tree.specs.Wanted.{backward}
use Rattle.tree.proofs.Link.{length-order_of, get_or-order_of}
use Rattle.tree.proofs.Sides.{order_of-sides}
use Rattle.tree.proofs.Theorem7.{stop_in-lt}
use Rattle.tree.proofs.Backward.{backward-length}
use Rattle.walks.specs.Places.{stops_to}
use Rattle.filled.specs.Lists.{keep_filled, list_of}
use Rattle.filled.proofs.Arranged.{Arranged, count_in, arranged-length}
use Rattle.filled.proofs.Backward.{backward-append, kept_append, kept-all, kept-none}
use Rattle.filled.proofs.Levels.{level-root}

module _ (k : ℕ) (s : ℕ → Bool) where
  module _ (F : ℕ) where
    -- what the set F makes of the filled stops m depths below v, read from the end
    unfoldable pub part : ℕ → ℕ → List ℕ
    part m v = backward (keep_filled s (map (stop_of k) (below F m v)))

    -- of a stop
    pub part-zero : (v : ℕ) → part 0 v ≡ cond (s (stop_of k v)) (stop_of k v ∷ []) []
    unfolding part below keep_filled stops_to
    part-zero v = go (s (stop_of k v))
      where
        go : (b : Bool) → backward (cond b (stop_of k v ∷ []) []) ≡ cond b (stop_of k v ∷ []) []
        go true = refl
        go false = refl

    -- of a fork: the side that comes second is read first
    pub part-suc : (m v : ℕ) → part (suc m) v ≡ part m (side v (1 - bit F v)) ++ part m (side v (bit F v))
    unfolding part below
    part-suc m v =
        let x : List ℕ = below F m (side v (bit F v)) in
        let y : List ℕ = below F m (side v (1 - bit F v)) in
        ap (λ l. backward (keep_filled s l)) (map-append (stop_of k) x y) ∙ ap backward (kept_append s (map (stop_of k) x) (map (stop_of k) y))
        ∙ backward-append (keep_filled s (map (stop_of k) x)) (keep_filled s (map (stop_of k) y))

    -- it is a list of the fork
    pub part-arranged : (m v : ℕ) → Arranged k s m v (part m v)
    part-arranged zero v = part-zero v
    part-arranged (suc m) v =
        let e : 1 - (1 - bit F v) ≡ bit F v = omega arith in (
          1 - bit F v,
          part m (side v (1 - bit F v)),
          part m (side v (bit F v)),
          omega arith,
          part-arranged m (side v (1 - bit F v)),
          rw e (part-arranged m (side v (bit F v))),
          part-suc m v,
        )

    -- A SET GIVES A LIST OF THE TREE
    pub list-part : backward (list_of k s F) ≡ part k 1
    unfolding part
    list-part = ap (λ o. backward (keep_filled s o)) (sym (order_of-sides k F))

    pub list-arranged : Arranged k s k 1 (backward (list_of k s F))
    list-arranged = rw list-part (part-arranged k 1)

    -- it has as many stops as are filled
    pub length-list_of : length (list_of k s F) ≡ count_in s 0 (2 ^ k)
    length-list_of =
        let z : 1 * 2 ^ k - 2 ^ k ≡ 0 = omega (arith, one-mul (2 ^ k)) in
        sym (backward-length (list_of k s F)) ∙ rw z at (arranged-length k s k 1 (backward (list_of k s F)) (level-root k) list-arranged)

  -- with no empty stop each is its order
  pub list_of-full : ((i : ℕ) → i < 2 ^ k → s i ≡ true) → (F : ℕ) → list_of k s F ≡ order_of k F
  list_of-full h F = kept-all s (order_of k F) (λ p b. let c : p < 2 ^ k = omega (arith, length-order_of k F) in rw (get_or-order_of k F p c) (h _ (stop_in-lt k F p)))

  -- with no filled stop each is empty
  pub list_of-empty : ((i : ℕ) → i < 2 ^ k → s i ≡ false) → (F : ℕ) → list_of k s F ≡ []
  list_of-empty h F = kept-none s (order_of k F) (λ p b. let c : p < 2 ^ k = omega (arith, length-order_of k F) in rw (get_or-order_of k F p c) (h _ (stop_in-lt k F p)))
