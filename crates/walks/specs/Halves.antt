-- A walk taken apart at a middle place.
use Rattle.std.specs.Prelude.{Bool, ℕ, zero, suc}
use Rattle.walks.specs.Walk.{Graph}

-- n places after place m: the sum n + m, by clauses that compute
abbrev pub past : ℕ → ℕ → ℕ
past zero m = m
past (suc n) m = suc (past n m)

-- what is left when place m holds stop q: the walks begin in place m + 1, with the move from q as their start
unfoldable pub after : Graph → ℕ → ℕ → Graph
after G m q = record {
  bound = G.bound;
  may = G.ok m q;
  start = G.weight m q;
  ok = λ n. G.ok (suc (past n m));
  weight = λ n. G.weight (suc (past n m));
}

-- stops below N; `ok p j i` and `w p j i`: stop i may follow j in place p, and the cost of that. The walks that begin in place a,
-- where the first stop may be i at cost s i
unfoldable pub segment : ℕ → (ℕ → ℕ → ℕ → Bool) → (ℕ → ℕ → ℕ → ℕ) → ℕ → (ℕ → Bool) → (ℕ → ℕ) → Graph
segment N ok w a may s = record {
  bound = N;
  may = may;
  start = s;
  ok = λ n. ok (suc (past a n));
  weight = λ n. w (suc (past a n));
}
