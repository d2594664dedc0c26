-- The jobs together: what was planned is good by the check, what was rewritten means the same stops, and what is planned carries the very order
-- and total that anybody's run of the three calls returns.
use mathlib.Core.Path.{◌≡◌, refl, sym, ap, subst, ◌∙◌}
use mathlib.Core.Bool.{true, false, not}
use mathlib.Core.List.{List}
use Prim.Native.Nat.{ℕ, ◌^◌, ◌≤◌, ◌<◌}
use native.Mathlib.Omega.{arith}
use lib.Dec.{leb}
use lib.ListN.{length, take}
use borrow.Author.Tests.{leb-true, not-true}
use Rattle.base.specs.Refusal.{wrong_size, lost_field, wrong_version}
use Rattle.base.specs.Outcome.{Outcome, gives, refuses, need, and_then, giving, done, number}
use Rattle.base.proofs.Outcome.{passed}
use Rattle.stop.specs.declared.Stop.{Stop}
use Rattle.path.specs.Path.{Path, path, read_path, known_version}
use Rattle.path.specs.Written.{write_stops, loses_any, path_bytes}
use Rattle.path.proofs.Inverse.{accepted-of, read-once}
use Rattle.path.proofs.RoundTrip.{rewritten}
use Rattle.path.proofs.WrittenLaws.{length-written, size_is, bytes-range, most_bytes}
use Rattle.times.specs.Table.{entry_of, table_of}
use Rattle.times.proofs.Table.{table-small}
use Rattle.tree.specs.Total.{entry, total}
use Rattle.tree.specs.Open.{wanted}
use Rattle.tree.proofs.Open.{wanted-allowed, length-wanted, shortest-wanted}
use Rattle.orders.specs.Allowed.{forks_of}
use Rattle.orders.specs.Bits.{bit_string}
use Rattle.orders.proofs.Allowed.{is_allowed-iff}
use Rattle.order_file.specs.File.{order_file, file_for, file_size}
use Rattle.order_file.specs.Reading.{judge_file}
use Rattle.order_file.proofs.Bytes.{length-file_for}
use Rattle.order_file.proofs.RoundTrip.{file-good, total-fits}
use Rattle.path_plan.specs.Calls.{AcceptedRun}
use Rattle.path_plan.specs.Claim.{ShortestFor}
use Rattle.path_plan.specs.PathPlan.{wanted_order}
use Rattle.path.proofs.Inverse.{read_same}
use Rattle.path_plan.proofs.Meaning.{GoodPath, path-good}
use Rattle.path_plan.proofs.Claim.{table-total, run-shortest}
use Rattle.jobs.specs.Limit.{job_max_k, small_enough}
use Rattle.jobs.specs.Plan.{plan_test, wanted_file, plan_file}
use Rattle.jobs.specs.Check.{check_file}
use Rattle.jobs.specs.Rewrite.{rewrite_file}
use Rattle.jobs.proofs.Limits.{small-passes, pow-le-64}

-- what a planned file is planned from
pub record PlannedFrom (bytes : List ℕ) (highest room : ℕ) (file : List ℕ) : Type 0 where
  pub source : Path
  pub means : read_path bytes highest (plan_test room) ≡ gives source
  pub is : wanted_file source ≡ file

pub planned-from : (bytes : List ℕ) (highest room : ℕ) (file : List ℕ) → plan_file bytes highest room ≡ gives file → PlannedFrom bytes highest room file
planned-from bytes highest room file = by (read_path bytes highest (plan_test room)) refl
  where
    by : (o : Outcome Path) → read_path bytes highest (plan_test room) ≡ o → giving wanted_file o ≡ gives file → PlannedFrom bytes highest room file
    by (gives p) m e = record { source = p; means = m; is = cc }
    by (refuses n) m e = absurd (let z : ◌≡◌ {A = ℕ} 0 1 = cc in omega arith)

-- ---- the check accepts what was planned

-- the total of a path's wanted order has 64 bits
total-64 : (k : ℕ) (ss : List Stop) → GoodPath k ss → total (entry_of ss) (wanted k (entry_of ss)) < 2 ^ 64
total-64 k ss g =
    rw (← table-total k ss g.count)
    (total-fits k (table_of ss) (wanted k (entry (2 ^ k) (table_of ss))) g.small (length-wanted k (entry (2 ^ k) (table_of ss))) (λ i. omega (arith, table-small ss g.good i)))

-- so its file is good
wanted-good : (k : ℕ) (ss : List Stop) → GoodPath k ss → done (judge_file k (entry_of ss) (file_for k (entry_of ss) (wanted k (entry_of ss)))) ≡ gives tt
wanted-good k ss g =
    let t = entry_of ss in
    ap done (file-good k t (wanted k t) g.small ((is_allowed-iff k (wanted k t)).1 (wanted-allowed k t)) (total-64 k ss g))

-- a k that planning takes is at most 6
pub test-small : (room k : ℕ) → plan_test room k ≡ gives tt → k ≤ job_max_k
test-small room k e = leb-true _ _ (passed (leb k job_max_k) wrong_size _ (omega arith) (ap number e)).holds

-- the check of the same path by a caller that knows the same versions
pub check-planned : (bytes : List ℕ) (highest room : ℕ) (file : List ℕ) → plan_file bytes highest room ≡ gives file → check_file bytes highest file ≡ gives tt
unfolding check_file
check-planned bytes highest room file e =
    let f = planned-from bytes highest room file e in
    let p = f.source in
    let a = accepted-of bytes highest (plan_test room) p.version p.k p.stops f.means in
    let means : read_path bytes highest small_enough ≡ gives p = read_same bytes highest (plan_test room) small_enough p.version p.k p.stops f.means (small-passes p.k (test-small room p.k a.takes)) in
    let good : done (judge_file p.k (entry_of p.stops) (wanted_file p)) ≡ gives tt = wanted-good p.k p.stops (path-good bytes highest (plan_test room) p.version p.k p.stops f.means) in
    rw means (subst (λ (x : List ℕ). done (judge_file p.k (entry_of p.stops) x) ≡ gives tt) f.is good)

-- ---- what is planned carries the order and total of a run

-- the file of an order and a total of which demand 3 holds, whatever versions the two callers know
pub shortest-filed : (bytes : List ℕ) (highest highest' k room : ℕ) (order file : List ℕ) (c : ℕ) → ShortestFor bytes highest k order c → plan_file bytes highest' room ≡ gives file
    → file ≡ order_file k c order (bit_string k (forks_of k order))
unfolding file_for
shortest-filed bytes highest highest' k room order file c s e =
    let f = planned-from bytes highest' room file e in
    let p = f.source in
    let same : p ≡ path s.version k s.stops = read-once bytes highest' highest (plan_test room) _ p.version s.version p.k k p.stops s.stops f.means s.means in
    let w = shortest-wanted k (entry_of s.stops) order c s.shortest in
    sym f.is ∙ ap wanted_file same ∙ rw (← w.1, ← w.0)

-- 'Where the controller's call accepts the same path, its order file carries that order and total': those that the planner returned at the end
-- of the run
pub run-filed : (bytes : List ℕ) (highest highest' version k room : ℕ) (order file : List ℕ) (c : ℕ) → AcceptedRun bytes highest version k order c → plan_file bytes highest' room ≡ gives file
    → file ≡ order_file k c (take (2 ^ k) order) (bit_string k (forks_of k (take (2 ^ k) order)))
run-filed bytes highest highest' version k room order file c r e =
    shortest-filed bytes highest highest' k room (take (2 ^ k) order) file c (run-shortest bytes highest version k order c r) e

-- ---- a rewriting keeps what each stop means

-- what a rewriting writes: the path that was read, in a version that loses nothing of it
pub record RewrittenFrom (bytes : List ℕ) (highest version : ℕ) (new : List ℕ) : Type 0 where
  pub source : Path
  pub means : read_path bytes highest small_enough ≡ gives source
  pub known : known_version version ≡ true
  pub keeps : loses_any version source.stops ≡ false
  pub is : path_bytes version source.k source.stops ≡ new

pub rewritten-from : (bytes : List ℕ) (highest version room : ℕ) (new : List ℕ) → rewrite_file bytes highest version room ≡ gives new → RewrittenFrom bytes highest version new
unfolding rewrite_file write_stops
rewritten-from bytes highest version room new e = by (read_path bytes highest small_enough) refl e
  where
    by : (o : Outcome Path) → read_path bytes highest small_enough ≡ o
        → and_then o (λ p. need (known_version version) wrong_version (need (not (loses_any version p.stops)) lost_field (need (leb (length (path_bytes version p.k p.stops)) room) wrong_size (gives (path_bytes version p.k p.stops))))) ≡ gives new
        → RewrittenFrom bytes highest version new
    by (gives p) m x =
        let to = passed (known_version version) wrong_version _ (omega arith) (ap number x) in
        let keeps = passed (not (loses_any version p.stops)) lost_field _ (omega arith) to.goes_on in
        let fits = passed (leb (length (path_bytes version p.k p.stops)) room) wrong_size (gives (path_bytes version p.k p.stops)) (omega arith) keeps.goes_on in
        let both : gives (path_bytes version p.k p.stops) ≡ gives new = sym (to.same ∙ keeps.same ∙ fits.same) ∙ x in
        record { source = p; means = m; known = to.holds; keeps = not-true _ keeps.holds; is = cc }
    by (refuses n) m x = absurd (let z : ◌≡◌ {A = ℕ} 0 1 = cc in omega arith)

-- the same k and stops, read from the old bytes and from the new ones by a caller that knows the new version
pub record SamePath (bytes : List ℕ) (highest : ℕ) (new : List ℕ) (known-to version : ℕ) : Type 0 where
  pub was : ℕ
  pub k : ℕ
  pub stops : List Stop
  pub old-means : read_path bytes highest small_enough ≡ gives (path was k stops)
  pub new-means : read_path new known-to small_enough ≡ gives (path version k stops)

pub rewrite-same : (bytes : List ℕ) (highest version room : ℕ) (new : List ℕ) (known-to : ℕ) → rewrite_file bytes highest version room ≡ gives new
    → known_version known-to ≡ true → version ≤ known-to → SamePath bytes highest new known-to version
rewrite-same bytes highest version room new known-to e known le =
    let f = rewritten-from bytes highest version room new e in
    let p = f.source in
    record {
      was = p.version;
      k = p.k;
      stops = p.stops;
      old-means = f.means;
      new-means = subst (λ (b : List ℕ). read_path b known-to small_enough ≡ gives (path version p.k p.stops)) f.is
          (rewritten bytes highest small_enough p.version p.k p.stops version known-to f.means known f.known le f.keeps);
    }

-- ---- how many bytes a job writes

-- the longest order file has 162 bytes
pub plan-size : (bytes : List ℕ) (highest room : ℕ) (file : List ℕ) → plan_file bytes highest room ≡ gives file → length file ≤ 162
plan-size bytes highest room file e =
    let f = planned-from bytes highest room file e in
    let p = f.source in
    let a = accepted-of bytes highest (plan_test room) p.version p.k p.stops f.means in
    let n = pow-le-64 p.k (test-small room p.k a.takes) in
    let long : length (wanted_file p) ≡ file_size (2 ^ p.k) = length-file_for p.k (entry_of p.stops) (wanted_order p) (length-wanted p.k (entry_of p.stops)) in
    subst (λ (x : List ℕ). length x ≤ 162) f.is (rw long (omega arith))

-- no path has more bytes than one of 1,024 stops in the newest version
pub rewrite-size : (bytes : List ℕ) (highest version room : ℕ) (new : List ℕ) → rewrite_file bytes highest version room ≡ gives new → length new ≤ most_bytes
rewrite-size bytes highest version room new e =
    let f = rewritten-from bytes highest version room new e in
    let p = f.source in
    let g = path-good bytes highest small_enough p.version p.k p.stops f.means in
    subst (λ (x : List ℕ). length x ≤ most_bytes) f.is (rw (length-written version p.k p.stops g.count, size_is version p.k) (omega (arith, bytes-range version p.k g.small)))
