-- No value that a call gives is cut: totals of 32-bit entries have 42 bits, and a signed result holds them beside a version and k.
use mathlib.Core.Path.{◌≡◌, ap, ◌∙◌}
use mathlib.Core.Bool.{Bool, true, false, cond}
use mathlib.Core.List.{List}
use Prim.Native.Nat.{ℕ, ◌+◌, ◌*◌, ◌-◌, ◌^◌, ◌≤◌, ◌<◌}
use native.Mathlib.Omega.{arith}
use lib.Dec.{eqb}
use lib.IntN.{pos}
use lib.ListN.{length}
use Rattle.base.proofs.Size.{pow-le-1024}
use Rattle.tree.specs.Total.{total}
use Rattle.tree.proofs.Small.{total-small}
use Rattle.costs.specs.Costs.{placed_total, closed_total}
use Rattle.costs.proofs.Bounds.{placed-small, closed-small}
use Rattle.fork_cost.specs.Cost.{dearer, tie, opposite, returned, last_apart, reason_for, compared, cost_of}
use Rattle.fork_cost.proofs.Both.{opposite-long}
use Rattle.fork_cost.proofs.Compared.{apart_below}
use Rattle.signed.specs.Result.{given, at_most}
use Rattle.signed.proofs.AtMost.{kept-below}
use Rattle.signed.proofs.Result.{value-given}
use Rattle.exports.specs.Values.{most_packed, total_unit, version_unit, packed, most_listed, most_length, length_unit, listed, state_field, opposite_field, more_field, reason_field, reason_number, cost_part, cost_field}

-- a total of up to 1,024 stops by any times of 32 bits is given whole, by itself and beside a version and k
pub total-given : (t : ℕ → ℕ → ℕ) (o : List ℕ) → ((a b : ℕ) → t a b ≤ 4294967295) → length o ≤ 1024 → given (total t o) ≡ pos (total t o)
total-given t o h b = value-given (total t o) (omega (arith, total-small t o h b))

pub total-packed : (t : ℕ → ℕ → ℕ) (o : List ℕ) (version k : ℕ) → ((a b : ℕ) → t a b ≤ 4294967295) → length o ≤ 1024
    → packed (total t o) version k ≡ total t o * total_unit + version * version_unit + k
unfolding packed
total-packed t o version k h b = ap (λ (x : ℕ). x * total_unit + version * version_unit + k) (kept-below most_packed (total t o) (total-small t o h b))

-- so is one with the places
pub placed-given : (t x : ℕ → ℕ → ℕ) (o : List ℕ) → ((a b : ℕ) → t a b ≤ 4294967295) → ((i j : ℕ) → x i j ≤ 4294967295) → length o ≤ 1024
    → given (placed_total t x o) ≡ pos (placed_total t x o)
placed-given t x o f g b = value-given (placed_total t x o) (omega (arith, placed-small t x o f g b))

-- so is a closed one
pub closed-given : (t : ℕ → ℕ → ℕ) (o : List ℕ) → ((a b : ℕ) → t a b ≤ 4294967295) → length o ≤ 1024 → given (closed_total t o) ≡ pos (closed_total t o)
closed-given t o h b = value-given (closed_total t o) (omega (arith, closed-small t o h b))

-- so is the total of a list of up to 64 stops, beside its length
pub list-packed : (t : ℕ → ℕ → ℕ) (o : List ℕ) → ((a b : ℕ) → t a b ≤ 4294967295) → length o ≤ 64 → listed (total t o) (length o) ≡ total t o * length_unit + length o
unfolding listed
list-packed t o h b =
    ap (λ (x : ℕ). x * length_unit + at_most most_length (length o)) (kept-below most_listed (total t o) (omega (arith, total-small t o h (omega (arith, b)))))
    ∙ ap (λ (x : ℕ). total t o * length_unit + x) (kept-below most_length (length o) (omega (arith, b)))

-- a field is less than what is more than all parts
part_small : (field : ℕ) {state total more reason b : ℕ} → state < b → total < b → more < b → reason < b → cost_part field state total more reason < b
unfolding cost_part
part_small field {b = b} s t m r =
    let none : 0 < b = omega (arith, s) in
    pick (eqb field state_field) s (pick (eqb field opposite_field) t (pick (eqb field more_field) m (pick (eqb field reason_field) r none)))
  where
    pick : (c : Bool) {x y : ℕ} → x < b → y < b → cond c x y < b
    pick true f g = f
    pick false f g = g

-- the reason is the place of the last difference and 1 more, or 0
reason-small : (more place : ℕ) → reason_number (reason_for more place) ≤ place + 1
unfolding reason_number
reason-small more place = go (eqb more 0)
  where
    go : (c : Bool) → reason_number (cond c (tie place) dearer) ≤ place + 1
    go true = omega arith
    go false = omega arith

-- EVERY FIELD of what a fork costs is given whole
pub cost-given : (k : ℕ) (t : ℕ → ℕ → ℕ) (fork field : ℕ) → ((a b : ℕ) → t a b ≤ 4294967295) → k ≤ 10 → 0 < fork → fork < 2 ^ k
    → given (cost_field field (cost_of k t fork)) ≡ pos (cost_field field (cost_of k t fork))
unfolding cost_of compared
cost-given k t fork field h m f b =
    let most : 2 ^ k ≤ 1024 = pow-le-1024 k m in
    let sum = total-small t (opposite k t fork) h (omega (arith, opposite-long k t fork f b, most)) in
    let place = last_apart (returned k t) (opposite k t fork) (2 ^ k) in
    let below : place ≤ 2 ^ k = apart_below (returned k t) (opposite k t fork) (2 ^ k) in
    let reason = reason-small (total t (opposite k t fork) - total t (returned k t)) place in
    value-given _ (part_small field (omega arith) (omega (arith, sum)) (omega (arith, sum)) (omega (arith, reason, below, most)))
