-- `times::judge_size` meets its contract: k, then the table's size.
use mathlib.Core.Path.{◌≡◌, ◌∙◌}
use Prim.Native.Nat.{◌^◌}
use native.Mathlib.Omega.{arith}
use borrow.Author.Tests.{le-leb, lt-leb, eq-eqb, ne_eqb}
use Rattle.base.proofs.Size.{stop_count-pow, pow-le-1024}
use Rattle.base.specs.Size.{max_k}
use Rattle.times.specs.Table.{table_room}
use Rattle.times.proofs.Size.{square_le}
use Rattle.times.proofs.judge_size.Goals as goal
use Rattle.times.proofs.judge_size.Goals.{After-stop_count-n}

-- once k has passed there are 2^k stops
count : (c : After-stop_count-n) → c.stop_count-n.result ≡ 2 ^ c.args.k
count c = c.stop_count-n.ensures ∙ stop_count-pow _ c.if-k-gt-MAX_K.false

pub returns-then-k-gt-MAX_K : goal.returns-then-k-gt-MAX_K
unfolding table_room
returns-then-k-gt-MAX_K c = let k = c.args.k in rw (lt-leb k max_k (omega (arith, c.if-k-gt-MAX_K.true)))

pub overflow_mul-n : goal.overflow_mul-n
overflow_mul-n c =
    let n = c.stop_count-n.result in let small = pow-le-1024 _ c.if-k-gt-MAX_K.false in
    omega (arith, square_le n (omega (arith, count c)))

pub returns-then-size-n : goal.returns-then-size-n
unfolding table_room
returns-then-size-n c = rw (le-leb _ _ c.if-k-gt-MAX_K.false, ← count c.before, ne_eqb _ _ c.if-size-n.true)

pub returns : goal.returns
unfolding table_room
returns c = rw (le-leb _ _ c.if-k-gt-MAX_K.false, ← count c.before, eq-eqb _ _ c.if-size-n.false)
