-- M-113: the weighings of a plan, as document 02 counts them, and what k alone foretells.
use Rattle.std.specs.Prelude.{not, ◌&&◌, cond, List, [], ◌∷◌, ◌++◌, ℕ, zero, suc, ◌+◌, ◌*◌, ◌-◌, ◌^◌, leb, eqb}
use Rattle.base.specs.Refusal.{wrong_k}
use Rattle.base.specs.Outcome.{Outcome, gives, need}
use Rattle.base.specs.Size.{max_k}
use Rattle.planner.specs.declared.Foretold.{Foretold}

-- the passes of a plan, each by its m: 2^m places are halved by one pass over them, and then each half is; one place is not halved
unfoldable pub passes : ℕ → List ℕ
passes zero = []
passes (suc m) = suc m ∷ passes m ++ passes m

-- 'A halving pass over 2^m places makes m × 2^(2m−1) of them'
unfoldable pub pass_makes : ℕ → ℕ
pass_makes m = m * 2 ^ (2 * m - 1)

-- 'passes over 2 places make none, except that k = 1 makes 2'
unfoldable pub makes : ℕ → ℕ → ℕ
makes k m = cond (eqb m 1 && not (eqb k 1)) 0 (pass_makes m)

-- a sum over the passes of a list
unfoldable pub sum_over : (ℕ → ℕ) → List ℕ → ℕ
sum_over f [] = 0
sum_over f (m ∷ ms) = f m + sum_over f ms

-- THE WEIGHINGS of a plan of 2^k stops: the sum over its passes
unfoldable pub plan_makes : ℕ → ℕ
plan_makes k = sum_over (makes k) (passes k)

-- 'the weighings: 0 for k = 0, 2 for k = 1, (k−1) × 2^(2k) above'
unfoldable pub foretold_weighings : ℕ → ℕ
foretold_weighings zero = 0
foretold_weighings (suc zero) = 2
foretold_weighings (suc (suc j)) = suc j * 2 ^ (2 * suc (suc j))

-- 'the lent work space in bytes, 20n'
unfoldable pub foretold_bytes : ℕ → ℕ
foretold_bytes k = 20 * 2 ^ k

-- 'From k alone give ..'; 'k above 10 is 5'
unfoldable pub foretold : ℕ → Outcome Foretold
foretold k = need (leb k max_k) wrong_k (gives (record { bytes = foretold_bytes k; weighings = foretold_weighings k }))
