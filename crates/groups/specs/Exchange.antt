-- The set of forks that leads from one allowed order to another, and a set of one fork.
use Rattle.std.specs.Prelude.{List, ℕ, ◌^◌}
use Rattle.std.specs.Int.Bits.{bit_xor}
use Rattle.orders.specs.Allowed.{forks_of}
use Rattle.orders.specs.Exchange.{exchange}

-- 'from any allowed order exactly one set leads to any other': the forks whose states differ
unfoldable pub leading : (k : ℕ) (o u : List ℕ) → ℕ
leading k o u = bit_xor (forks_of k o) (forks_of k u)

-- fork v alone exchanged: the set whose one bit is v
abbrev pub exchange_fork : (k : ℕ) (o : List ℕ) (v : ℕ) → List ℕ
exchange_fork k o v = exchange k o (2 ^ v)
