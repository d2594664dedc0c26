-- What the calls' private parts show of what they judged.
use Rattle.std.specs.Prelude.{◌≡◌, List, ℕ, ◌^◌, drop, Result, Ok}
use Rattle.base.specs.declared.Refusal.{Refusal}
use Rattle.base.specs.Outcome.{done, said, over}
use Rattle.orders.specs.Allowed.{forks_of}
use Rattle.orders.specs.Bits.{bit_string}
use Rattle.orders.specs.Lent.{order_in}
use Rattle.order_file.specs.File.{stops_place}
use Rattle.order_file.specs.Reading.{stops_in, unsummed}
use Rattle.order_file.specs.Write.{write_file}

-- an order is judged for writing, and its fork string is made
pub record ReadyToWrite (k : ℕ) (order table : List ℕ) (room : ℕ) (bits bits' : List ℕ) (r : Result Unit Refusal) : Type 0 where
  pub said : said r ≡ done (write_file k order table room)
  pub string : r ≡ Ok tt → bits' ≡ over (bit_string k (forks_of k (order_in k order))) bits

-- a file is judged without its total, and its stops are stored
pub record JudgedUnsummed (k : ℕ) (file stops stops' : List ℕ) (r : Result Unit Refusal) : Type 0 where
  pub said : said r ≡ done (unsummed k file)
  pub stored : r ≡ Ok tt → stops' ≡ over (stops_in (2 ^ k) (drop stops_place file)) stops
