-- Graphs that allow less or cost more.
use Rattle.std.specs.Prelude.{◌≡◌, true, ℕ, ◌+◌, ◌≤◌, zero, suc}
use Rattle.walks.specs.Best.{Found, none, at}
use Rattle.walks.specs.Walk.{Graph}

-- H allows no more than G, and nothing is dearer in G
pub record Eases (G H : Graph) : Type 0 where
  pub stops : H.bound ≤ G.bound
  pub begins : (i : ℕ) → H.may i ≡ true → G.may i ≡ true
  pub starts : (i : ℕ) → G.start i ≤ H.start i
  pub moves : (n j i : ℕ) → H.ok n j i ≡ true → G.ok n j i ≡ true
  pub weighs : (n j i : ℕ) → G.weight n j i ≤ H.weight n j i

-- k n more for move n
unfoldable pub dearer : (ℕ → ℕ) → Graph → Graph
dearer k G = record {
  bound = G.bound;
  may = G.may;
  start = G.start;
  ok = G.ok;
  weight = λ n j i. G.weight n j i + k n;
}

-- what n moves cost more
unfoldable pub extra : (ℕ → ℕ) → ℕ → ℕ
extra k zero = 0
extra k (suc n) = extra k n + k n

-- x more
unfoldable pub raise : {A : Type 0} → ℕ → Found A → Found A
raise x none = none
raise x (at c a) = at (c + x) a
