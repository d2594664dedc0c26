-- `times::moves::sum_in` meets its contract: the stops and the end of the path are judged, then the moves summed.
use Rattle.std.proofs.Common.{rules, ◌≡◌, ℕ, ◌<◌, ◌^◌, min, List, length, take, Err, sym, ap, ◌∙◌, arith}
use native.Mathlib.Decide.{dec_lt}
use lib.Seq.{take_all, take-length, length-take-le}
use Rattle.base.specs.Refusal.{refusal_number}
use Rattle.base.specs.Outcome.{said, gives}
use Rattle.base.proofs.Outcome.{done-good, done-refused}
use Rattle.base.specs.Size.{stop_count}
use Rattle.base.proofs.Size.{stop_count-pow, pow-le-1024}
use Rattle.path.proofs.JudgeLaws.{JudgedBody, body-good}
use Rattle.tree.specs.Total.{total}
use Rattle.times.specs.InPath.{time_in}
use Rattle.times.specs.Summing.{sum_in}
use Rattle.times.proofs.Summing.{stops-of}
use Rattle.times.proofs.moves.sum_in.Goals as goal

-- of a short order all numbers are taken
short : (n m : ℕ) (order : List ℕ) → m ≡ min n (length order) → take m order ≡ take n order
short n m order e = by (dec_lt (length order) n)
  where
    by : Dec (length order < n) → take m order ≡ take n order
    by (yes h) = let all : m ≡ length order = omega arith in rw all (take-length order ∙ sym (take_all n order (omega arith)))
    by (no h) = let first : m ≡ n = omega arith in rw first

-- a judged path has 2^k stops
count : (bytes : List ℕ) (version k n : ℕ) → JudgedBody bytes version k → n ≡ stop_count k → n ≡ 2 ^ k
count bytes version k n j c = c ∙ stop_count-pow k j.small

pub returns-in_err-judge : goal.returns-in_err-judge
unfolding sum_in
returns-in_err-judge c =
    let handed : c.from_residual.result ≡ Err c.in_err-judge.field-0.0 = search rules in
    ap said handed ∙ rw (done-refused _ (refusal_number c.in_err-judge.field-0.0) c.in_err-judge.ensures)

pub sum_moves-requires : goal.sum_moves-requires
sum_moves-requires c =
    let p = c.args.path in
    let j : JudgedBody p.bytes.now p.version p.k = body-good _ _ _ (done-good _ c.in_ok-judge.ensures) in
    let n = count _ _ _ _ j c.stop_count-n.ensures in
    let long : length (take c.min.result c.args.order.now) ≡ c.min.result = length-take-le _ _ (omega (arith, c.min.ensures)) in
    (rw n (stops-of _ _ _ j), omega (arith, long, c.min.ensures, n, pow-le-1024 _ j.small))

pub returns : goal.returns
unfolding sum_in
returns c =
    let p = c.args.path in
    let j : JudgedBody p.bytes.now p.version p.k = body-good _ _ _ (done-good _ c.in_ok-judge.ensures) in
    let n = count _ _ _ _ j c.stop_count-n.ensures in
    let cost : ℕ → ℕ → ℕ = time_in p.version p.bytes.now in
    let whole = short c.stop_count-n.result c.min.result c.args.order.now c.min.ensures in
    rw j.stops
    (ap gives (c.sum_moves.ensures ∙ ap (total cost) (whole ∙ ap (λ (i : ℕ). take i c.args.order.now) n)))
