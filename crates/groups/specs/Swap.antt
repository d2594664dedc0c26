-- Blocks of places that are swapped.
use Rattle.std.specs.Prelude.{◌≡◌, List, ◌⊎◌, ℕ, ◌+◌, ◌≤◌, ◌<◌}
use Rattle.tree.specs.Neighbour.{in_place}

-- place p is not in the block of `size` places from a on
abbrev pub Outside : (a size p : ℕ) → Type 0
Outside a size p = (p < a) ⊎ (a + size ≤ p)

-- of two orders of n stops: the blocks of `size` places from a on and from b on have changed places, each with its stops in their
-- sequence, and every other place holds the stop that it held
pub record BlocksSwapped (n a b size : ℕ) (before after : List ℕ) : Type 0 where
  pub first : (x : ℕ) → x < size → in_place after (a + x) ≡ in_place before (b + x)
  pub second : (x : ℕ) → x < size → in_place after (b + x) ≡ in_place before (a + x)
  pub others : (p : ℕ) → p < n → Outside a size p → Outside b size p → in_place after p ≡ in_place before p
