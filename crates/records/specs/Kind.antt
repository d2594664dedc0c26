-- The kinds of record as the code has them, and their numbers in the table of 'Records'.
use Rattle.std.specs.Prelude.{◌≡◌, false, ℕ, Result, MatchResult}
use Rattle.base.specs.declared.Refusal.{Refusal}
use Rattle.base.specs.declared.Refusal.TheVariants.{WrongKind}
use Rattle.records.specs.declared.record.Kind.{Kind}
use Rattle.records.specs.declared.record.Kind.TheVariants.{Path, Stop, End, Order, Stops, Forks, Refused}
use Rattle.records.specs.Record.{path_kind, stop_kind, end_kind, order_kind, stops_kind, forks_kind, refused_kind, is_kind}

-- the number of a kind
abbrev pub kind_number : Kind → ℕ
kind_number Path = path_kind
kind_number Stop = stop_kind
kind_number End = end_kind
kind_number Order = order_kind
kind_number Stops = stops_kind
kind_number Forks = forks_kind
kind_number Refused = refused_kind

-- what a number is read as: the kind that has it, and 3 for a number that the table lacks
abbrev pub Names : ℕ → Result Kind Refusal → Type 0
Names number r = MatchResult r (λ kind. kind_number kind ≡ number) (λ e. (is_kind number ≡ false) × (e ≡ WrongKind))
