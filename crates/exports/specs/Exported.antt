-- What an exported call promises.
use Rattle.std.specs.Prelude.{◌≡◌, ℤ}

-- an exported call: its answer is as the library's call promises it, and the result is that answer as a signed number
pub record Exported {Answer : Type 0} (promised : Answer → Type 0) (value : Answer → ℤ) (r : ℤ) : Type 0 where
  pub answer : Answer
  pub kept : promised answer
  pub result : r ≡ value answer
