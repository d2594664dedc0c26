-- What an accepted path is: 2^k stops in range.
use mathlib.Core.Path.{◌≡◌}
use mathlib.Core.Bool.{true}
use mathlib.Core.List.{List}
use Prim.Native.Nat.{ℕ, ◌^◌, ◌≤◌}
use lib.ListN.{length, drop}
use Rattle.base.specs.Outcome.{Outcome, gives}
use Rattle.stop.specs.declared.Stop.{Stop}
use Rattle.stop.specs.Lent.{all_in_range}
use Rattle.path.specs.Path.{path, read_path}
use Rattle.path.proofs.Inverse.{accepted-of}
use Rattle.path.proofs.RoundTrip.{body-facts}

-- 2^k stops in range
pub record GoodPath (k : ℕ) (ss : List Stop) : Type 0 where
  pub small : k ≤ 10
  pub count : length ss ≡ 2 ^ k
  pub good : all_in_range ss ≡ true

-- an accepted path has 2^k stops in range
pub path-good : (bytes : List ℕ) (highest : ℕ) (test : ℕ → Outcome Unit) (version k : ℕ) (ss : List Stop) → read_path bytes highest test ≡ gives (path version k ss) → GoodPath k ss
path-good bytes highest test version k ss e =
    let a = accepted-of bytes highest test version k ss e in
    let f = body-facts version (2 ^ k) (drop 8 bytes) ss a.body in
    record { small = a.small; count = f.count; good = f.range }
