-- Planning an order file: what the planner left is the wanted order, so writing its file cannot refuse; and the file is that of the path's stops.
use mathlib.Core.Path.{◌≡◌, refl, sym, ap, ◌∙◌}
use mathlib.Core.Bool.{true}
use mathlib.Core.List.{List}
use Prim.Native.Nat.{ℕ, ◌+◌, ◌*◌, ◌^◌, ◌≤◌}
use native.Mathlib.Omega.{arith}
use lib.ListN.{length, take}
use borrow.Author.Tests.{le-leb, eq-eqb}
use Rattle.std.specs.Prelude.{Result, Ok, Err}
use Rattle.base.specs.declared.Refusal.{Refusal}
use Rattle.base.specs.Refusal.{refusal_number}
use Rattle.base.specs.Outcome.{Outcome, gives, refuses, giving, after, over}
use Rattle.base.proofs.Lists.{length-tabulate}
use Rattle.base.proofs.Outcome.{giving-giving, over-front, refused-giving}
use Rattle.stop.specs.declared.Stop.{Stop}
use Rattle.path.specs.Path.{Path, path, read_path, any_size, body_after_head, stop_in, stops_in}
use Rattle.times.specs.Table.{entry_of, table_of, table_from, TableIsMade}
use Rattle.times.proofs.Table.{by-stops, accepted-path, square-table, when-made, made-when}
use Rattle.tree.specs.Total.{entry}
use Rattle.tree.specs.Open.{wanted}
use Rattle.tree.proofs.Open.{wanted-allowed, length-wanted, wanted-shortest}
use Rattle.planner.specs.declared.Planned.{Planned}
use Rattle.planner.specs.Plan.{plan_fits, plan_room, plan_order, wanted_plan, reported, OrderIsPlanned}
use Rattle.orders.specs.Allowed.{is_allowed}
use Rattle.orders.proofs.Allowed.{is_allowed-iff}
use Rattle.orders.proofs.Lent.{holds-order}
use Rattle.order_file.specs.File.{file_for}
use Rattle.order_file.specs.Write.{write_file, FileIsWritten}
use Rattle.order_file.proofs.Calls.{Writes, write-gives}
use Rattle.path_plan.specs.PathPlan.{wanted_order, wanted_total}
use Rattle.path_plan.proofs.Claim.{table-wanted, table-total}
use Rattle.path.proofs.Inverse.{read_same}
use Rattle.jobs.specs.Limit.{job_max_k}
use Rattle.jobs.specs.Local.{Ready, FileIsLeft, file_after_head}
use Rattle.jobs.specs.Plan.{plan_test, wanted_file, plan_file, Carries, FileIsPlanned}
use Rattle.jobs.proofs.Limits.{pow-le-64}

-- ---- a file that is left

pub left-refused : (o : Outcome (List ℕ)) (before : List ℕ) (r : Refusal) → o ≡ refuses (refusal_number r) → FileIsLeft o before before (Err r)
left-refused o before r e = record { said = rw e; left = rw e }

pub left-same : (o o' : Outcome (List ℕ)) (before afterwards : List ℕ) (r : Result ℕ Refusal) → o ≡ o' → FileIsLeft o before afterwards r → FileIsLeft o' before afterwards r
left-same o o' before afterwards r e p = rw e at p

-- ---- by a table

-- the planner's lengths will do
room : (k table : ℕ) → k ≤ job_max_k → table ≡ 2 ^ k * 2 ^ k → plan_room k table 64 128 128 ≡ gives tt
unfolding plan_room plan_fits
room k table small square =
    let n = pow-le-64 k small in
    rw (le-leb k 10 (omega arith), eq-eqb _ _ square, le-leb (2 ^ k) 64 n, le-leb (2 ^ k + 2 ^ k) 128 (omega arith))

-- the file of the order that the planner left
pub table-filed : (k : ℕ) (table order totals pivots order' totals' pivots' before afterwards : List ℕ) (p : Result Planned Refusal) (r : Result ℕ Refusal)
    → Ready k (length table) (length before) → length order ≡ 64 → length totals ≡ 128 → length pivots ≡ 128
    → OrderIsPlanned k (plan_order k table (length order) (length totals) (length pivots)) order totals pivots order' totals' pivots' p
    → FileIsWritten k order' table before afterwards r
    → FileIsLeft (gives (file_for k (entry (2 ^ k) table) (wanted k (entry (2 ^ k) table)))) before afterwards r
table-filed k table order totals pivots order' totals' pivots' before afterwards p r ready eo et ep planned filed =
    let t : ℕ → ℕ → ℕ = entry (2 ^ k) table in
    let fits : plan_room k (length table) (length order) (length totals) (length pivots) ≡ gives tt = rw (eo, et, ep) (room k (length table) ready.small ready.square) in
    let wrote : order' ≡ over (wanted k t) order = rw fits at planned.wrote in
    let allowed : is_allowed k (wanted k t) ≡ true = (is_allowed-iff k (wanted k t)).1 (wanted-allowed k t) in
    let writes : Writes k order' table (length before) = record { judged = rw wrote (holds-order k (wanted k t) order (omega (arith, ready.small)) allowed); square = ready.square; long = ready.room } in
    let front : take (2 ^ k) order' ≡ wanted k t = rw wrote (over-front (2 ^ k) (wanted k t) order (length-wanted k t)) in
    let o : write_file k order' table (length before) ≡ gives (file_for k t (wanted k t)) = write-gives k order' table (length before) writes ∙ ap (λ (u : List ℕ). gives (file_for k t u)) front in
    record { said = rw o at filed.said; left = rw o at filed.left }

-- and it does not refuse
pub never-refused : {A : Type 0} (k : ℕ) (table order totals pivots order' totals' pivots' : List ℕ) (r : Refusal) (out : ℕ)
    → Ready k (length table) out → length order ≡ 64 → length totals ≡ 128 → length pivots ≡ 128
    → OrderIsPlanned k (plan_order k table (length order) (length totals) (length pivots)) order totals pivots order' totals' pivots' (Err r) → A
never-refused k table order totals pivots order' totals' pivots' r out ready eo et ep planned =
    let fits : plan_room k (length table) (length order) (length totals) (length pivots) ≡ gives tt = rw (eo, et, ep) (room k (length table) ready.small ready.square) in
    let answer : refuses (refusal_number r) ≡ gives (reported k (wanted_plan k table)) = rw fits at planned.said in
    let z : ◌≡◌ {A = ℕ} 0 1 = cc in
    absurd (omega arith)

-- ---- from path bytes

-- the file by the table of some stops is that by their travel times
table-file : (k : ℕ) (ss : List Stop) → length ss ≡ 2 ^ k → file_for k (entry (2 ^ k) (table_of ss)) (wanted k (entry (2 ^ k) (table_of ss))) ≡ file_for k (entry_of ss) (wanted k (entry_of ss))
unfolding file_for
table-file k ss e = rw (table-total k ss e, table-wanted k ss e)

module _ (bytes : List ℕ) (version k : ℕ) (table table' : List ℕ) (out : ℕ) (ready : Ready k (length table) out) where
  -- what the table's call comes to is what the stops come to
  by-body : table_from bytes version k (length table) ≡ giving table_of (body_after_head bytes version k)
  by-body = by-stops bytes version k (length table) (omega (arith, ready.small)) ready.square

  -- a table that is not made: its number is that of the stops
  pub not_made : (r : Refusal) → TableIsMade (table_from bytes version k (length table)) table table' (Err r) → file_after_head bytes version k ≡ refuses (refusal_number r)
  not_made r p =
      let n : ℕ = refusal_number r in
      let s : refuses n ≡ giving (λ (t : List ℕ). tt) (giving table_of (body_after_head bytes version k)) = rw by-body at p.said in
      let body : body_after_head bytes version k ≡ refuses n = refused-giving table_of (body_after_head bytes version k) n (refused-giving (λ (t : List ℕ). tt) (giving table_of (body_after_head bytes version k)) n (sym s)) in
      rw body

  -- a table that is made: it is as long as before, so the job can go on, and the file by it is that of the stops
  pub record FileByTable : Type 0 where
    pub goes_on : Ready k (length table') out
    pub same : gives (file_for k (entry (2 ^ k) table') (wanted k (entry (2 ^ k) table'))) ≡ file_after_head bytes version k

  pub made-file : TableIsMade (table_from bytes version k (length table)) table table' (Ok tt) → FileByTable
  made-file p =
      let a = accepted-path bytes version k (length table) (when-made _ table table' p) in
      let ss = stops_in version (2 ^ k) bytes in
      let long : length (table_of ss) ≡ length table = square-table k (length table) (λ i. stop_in version i bytes) a.square in
      let is : table' ≡ table_of ss = (made-when _ (table_of ss) table table' _ a.gives-table long p).1 in
      record {
        goes_on = record { small = ready.small; square = rw is long ∙ ready.square; room = ready.room };
        same = rw (is, a.body.stops) (ap gives (table-file k ss (length-tabulate (2 ^ k) (λ i. stop_in version i bytes))));
      }

-- ---- the whole job

-- the file of the path is that of the stops after its head
pub plan_after : (given bytes : List ℕ) (highest room version k : ℕ) → given ≡ bytes → read_path bytes highest (plan_test room) ≡ giving (path version k) (body_after_head bytes version k) → file_after_head given version k ≡ plan_file bytes highest room
plan_after given bytes highest room version k same e = rw same (sym (ap (giving wanted_file) e ∙ giving-giving (path version k) wanted_file (body_after_head bytes version k)))

-- what is written carries the order and the total of demand 3
pub carries : (bytes : List ℕ) (highest : ℕ) (test : ℕ → Outcome Unit) (p : Path) (count : ℕ) (afterwards : List ℕ) → read_path bytes highest test ≡ gives p → take count afterwards ≡ wanted_file p → Carries bytes highest count afterwards
unfolding file_for
carries bytes highest test p count afterwards means file = record {
  k = p.k;
  order = wanted_order p;
  total = wanted_total p;
  file = file;
  shortest = record {
    version = p.version;
    stops = p.stops;
    means = read_same bytes highest test any_size p.version p.k p.stops means refl;
    shortest = wanted-shortest p.k (entry_of p.stops);
  };
}

-- an answer that is as it should be, and an output as it should be, carry it
pub file-planned : (bytes : List ℕ) (highest : ℕ) (before afterwards : List ℕ) (r : Result ℕ Refusal) → FileIsLeft (plan_file bytes highest (length before)) before afterwards r → FileIsPlanned bytes highest before afterwards r
file-planned bytes highest before afterwards r p = record { said = p.said; left = p.left; claim = λ count e. by count (read_path bytes highest (plan_test (length before))) refl (rw e at p.said) p.left }
  where
    by : (count : ℕ) (o : Outcome Path) → read_path bytes highest (plan_test (length before)) ≡ o → gives count ≡ giving length (giving wanted_file o) → afterwards ≡ after (giving wanted_file o) (λ file. file) before → Carries bytes highest count afterwards
    by count (gives q) m s l =
        let size : length (wanted_file q) ≡ count = cc in
        carries bytes highest (plan_test (length before)) q count afterwards m (rw l (over-front count (wanted_file q) before size))
    by count (refuses n) m s l = let z : ◌≡◌ {A = ℕ} 0 1 = cc in absurd (omega arith)
