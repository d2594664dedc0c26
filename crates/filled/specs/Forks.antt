-- The fork bits of a list of filled stops. 'Forks with no filled stop on one side are not exchanged, so the fork bits are determined'.
use Rattle.std.specs.Prelude.{◌≡◌, Bool, true, cond, ◌&&◌, ◌||◌, List, ℕ, zero, suc, ◌+◌, ◌*◌, ◌/◌, ◌^◌, ◌<◌, eqb}
use Rattle.tree.specs.Fork.{bit, side, stop_of}
use Rattle.orders.specs.Same.{alike}
use Rattle.orders.specs.Allowed.{set_count}
use Rattle.orders.specs.Bits.{only_forks}
use Rattle.filled.specs.Lists.{list_of}

-- a filled stop stands m depths below v: 'fork v has forks or stops 2v (first side) and 2v+1 (second side) below it; a number of n or
-- more there means the stop of that number less n'
unfoldable pub filled_below : ℕ → (ℕ → Bool) → ℕ → ℕ → Bool
filled_below k s zero v = s (stop_of k v)
filled_below k s (suc m) v = filled_below k s m (side v 0) || filled_below k s m (side v 1)

-- fork v, m depths above its sides' stops, is in the state that it may be in: not exchanged, or with a filled stop on each side
abbrev pub may_stand : ℕ → (ℕ → Bool) → ℕ → ℕ → ℕ → Bool
may_stand k s F m v = eqb (bit F v) 0 || (filled_below k s m (side v 0) && filled_below k s m (side v 1))

-- so are fork v and all forks below it; the stops are m depths below v
unfoldable pub spares_empty : ℕ → (ℕ → Bool) → ℕ → ℕ → ℕ → Bool
spares_empty k s F zero v = true
spares_empty k s F (suc m) v = may_stand k s F m v && (spares_empty k s F m (side v 0) && spares_empty k s F m (side v 1))

-- the set F is the one asked for: it gives the list, and exchanges no fork with no filled stop on one side
abbrev pub is_meant : ℕ → (ℕ → Bool) → List ℕ → ℕ → Bool
is_meant k s list F = alike (list_of k s F) list && spares_empty k s F k 1

-- the one of the sets 0, 2, .. 2 (m - 1) that is; 0 where none is
unfoldable pub set_meant : ℕ → (ℕ → Bool) → List ℕ → ℕ → ℕ
set_meant k s list zero = 0
set_meant k s list (suc m) = cond (is_meant k s list (2 * m)) (2 * m) (set_meant k s list m)

-- THE FORKS OF A LIST, as a set: bit v is fork v
unfoldable pub list_forks : ℕ → (ℕ → Bool) → List ℕ → ℕ
list_forks k s list = set_meant k s list (set_count k)

-- the number of what stands m depths above stop i: the stop's own for m = 0, and then forks
abbrev pub above : ℕ → ℕ → ℕ → ℕ
above k m i = (2 ^ k + i) / 2 ^ m

-- a filled stop on side b of fork v: the side stands m depths above it
pub record FilledOn (k : ℕ) (s : ℕ → Bool) (v b : ℕ) : Type 0 where
  pub stop : ℕ
  pub inside : stop < 2 ^ k
  pub filled : s stop ≡ true
  pub m : ℕ
  pub low : m < k
  pub under : above k m stop ≡ side v b

-- what is asked of the forks of a list
pub record ForksMeant (k : ℕ) (s : ℕ → Bool) (list : List ℕ) (F : ℕ) : Type 0 where
  -- only bits 1 to n - 1 are set
  pub forks : only_forks k F ≡ true
  -- they give the list
  pub gives : list_of k s F ≡ list
  -- 'Forks with no filled stop on one side are not exchanged'
  pub both : (v : ℕ) → bit F v ≡ 1 → FilledOn k s v 0 × FilledOn k s v 1

-- 'so the fork bits are determined'
pub record ForksOfList (k : ℕ) (s : ℕ → Bool) (list : List ℕ) (F : ℕ) : Type 0 where
  pub meant : ForksMeant k s list F
  pub only : (G : ℕ) → ForksMeant k s list G → G ≡ F
