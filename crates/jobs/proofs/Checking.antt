-- Checking an order file: what the file says without its total, and the sum of its moves by the path's bytes.
use mathlib.Core.Path.{◌≡◌, refl, sym, ap, subst, ◌∙◌}
use mathlib.Core.Bool.{Bool, true, false}
use mathlib.Core.List.{List}
use Prim.Native.Nat.{ℕ, ◌^◌, ◌≤◌, ◌<◌}
use native.Mathlib.Omega.{arith}
use lib.ListN.{length, take}
use lib.Dec.{eqb}
use borrow.Author.Tests.{eq-eqb, ne_eqb}
use Rattle.base.specs.Refusal.{wrong_total}
use Rattle.std.specs.Prelude.{Result, Ok, Err}
use Rattle.base.specs.declared.Refusal.{Refusal}
use Rattle.base.specs.Refusal.{refusal_number}
use Rattle.base.specs.Outcome.{Outcome, gives, refuses, and_then, need, giving, done, number, said, after}
use Rattle.base.proofs.Outcome.{refused-giving, over-front}
use Rattle.stop.specs.declared.Stop.{Stop}
use Rattle.path.specs.Path.{path, read_path, body_after_head, stops_in}
use Rattle.path.proofs.JudgeLaws.{body-good}
use Rattle.times.specs.InPath.{time_in}
use Rattle.times.specs.Summing.{sum_in}
use Rattle.times.specs.Table.{entry_of}
use Rattle.times.proofs.InPath.{time-in-path}
use Rattle.tree.specs.Total.{total}
use Rattle.tree.proofs.Diagonal.{total-same as moves-same}
use Rattle.orders.specs.Allowed.{is_allowed}
use Rattle.orders.proofs.Allowed.{is_allowed-iff, allowed-long}
use Rattle.order_file.specs.Reading.{Contents, unsummed, judge_file}
use Rattle.order_file.specs.Read.{read_unsummed, FileIsUnsummed}
use Rattle.order_file.proofs.Calls.{unsummed-contents, unsummed-accepted, unsummed-gives}
use Rattle.order_file.proofs.Stages as stage
use Rattle.jobs.specs.Check.{check_file}
use Rattle.jobs.specs.Limit.{job_max_k, small_enough}
use Rattle.jobs.specs.Local.{check_against}
use Rattle.jobs.proofs.Limits.{pow-le-64}

-- ---- what an accepted file says

-- its order is allowed
says-allowed : (k : ℕ) (file : List ℕ) (f : Contents) → unsummed k file ≡ gives f → is_allowed k f.order ≡ true
says-allowed k file f e =
    let a = unsummed-accepted k file (ap number e) in
    let both : gives (stage.says k file) ≡ gives f = sym (unsummed-gives k file a) ∙ e in
    let same : stage.says k file ≡ f = cc in
    subst (λ (g : Contents). is_allowed k g.order ≡ true) same a.allowed

-- times that agree on the stops judge it alike
judge-same : (k : ℕ) (t u : ℕ → ℕ → ℕ) (file : List ℕ) → ((a b : ℕ) → a < 2 ^ k → b < 2 ^ k → t a b ≡ u a b) → judge_file k t file ≡ judge_file k u file
unfolding judge_file
judge-same k t u file same = by (unsummed k file) refl
  where
    by : (o : Outcome Contents) → unsummed k file ≡ o → and_then o (λ f. need (eqb f.total (total t f.order)) wrong_total (gives f)) ≡ and_then o (λ f. need (eqb f.total (total u f.order)) wrong_total (gives f))
    by (gives f) e =
        let w = (is_allowed-iff k f.order).0 (says-allowed k file f e) in
        let sums : total t f.order ≡ total u f.order = subst (λ (o : List ℕ). total t o ≡ total u o) w.1 (moves-same k t u (λ a b x y d. same a b x y) w.0) in
        rw sums
    by (refuses n) e = refl

-- ---- by what was read without the total

-- a test alone, whatever value is behind it
done-need : (b : Bool) (n : ℕ) (f : Contents) → done (need b n (gives f)) ≡ need b n (gives tt)
done-need true n f = refl
done-need false n f = refl

module _ (k : ℕ) (t : ℕ → ℕ → ℕ) (file order order' : List ℕ) (small : k ≤ job_max_k) (places : length order ≡ 64) where
  same-reading : read_unsummed k file (length order) ≡ unsummed k file
  same-reading = unsummed-contents k file (length order) (omega (arith, small)) (rw places (pow-le-64 k small))

  -- what was read decides, and then its total: the order stands in the places
  pub with-total : (r : Result ℕ Refusal) (sum : ℕ) → FileIsUnsummed k file order order' r → sum ≡ total t (take (2 ^ k) order')
      → and_then (said r) (λ z. need (eqb z sum) wrong_total (gives tt)) ≡ done (judge_file k t file)
  unfolding judge_file
  with-total r sum p s = by (unsummed k file) refl (rw same-reading at p.said) (rw same-reading at p.left)
    where
      by : (o : Outcome Contents) → unsummed k file ≡ o → said r ≡ giving (λ (f : Contents). f.total) o → order' ≡ after o (λ f. f.order) order
          → and_then (said r) (λ z. need (eqb z sum) wrong_total (gives tt)) ≡ done (and_then o (λ f. need (eqb f.total (total t f.order)) wrong_total (gives f)))
      by (gives f) e a l =
          let long : length f.order ≡ 2 ^ k = allowed-long k f.order (says-allowed k file f e) in
          let stored : take (2 ^ k) order' ≡ f.order = rw l (over-front (2 ^ k) f.order order long) in
          rw (a, s, stored) (sym (done-need (eqb f.total (total t f.order)) wrong_total f))
      by (refuses n) e a l = rw a

-- ---- after a head

-- stops that are refused
pub against-refused : (bytes : List ℕ) (version k : ℕ) (order file : List ℕ) (n : ℕ) → refuses n ≡ sum_in bytes version k order → check_against bytes version k file ≡ refuses n
unfolding sum_in
against-refused bytes version k order file n s = rw (refused-giving _ (body_after_head bytes version k) n (sym s))

-- and judged ones
pub against-sum : (bytes : List ℕ) (version k : ℕ) (order file : List ℕ) (sum : ℕ) → gives sum ≡ sum_in bytes version k order
    → (sum ≡ total (time_in version bytes) (take (2 ^ k) order)) × (check_against bytes version k file ≡ done (judge_file k (time_in version bytes) file))
unfolding sum_in
against-sum bytes version k order file sum s = by (body_after_head bytes version k) s
  where
    by : (o : Outcome (List Stop)) → gives sum ≡ giving (λ stops. total (time_in version bytes) (take (2 ^ k) order)) o
        → (sum ≡ total (time_in version bytes) (take (2 ^ k) order)) × (and_then o (λ ss. done (judge_file k (time_in version bytes) file)) ≡ done (judge_file k (time_in version bytes) file))
    by (gives ss) q = (cc, refl)
    by (refuses n) q = let z : ◌≡◌ {A = ℕ} 0 1 = cc in absurd (omega arith)

-- the whole check after a head, by the sum of the moves and what was read
module _ (bytes : List ℕ) (version k : ℕ) (file order order' : List ℕ) (small : k ≤ job_max_k) (places : length order ≡ 64) (sum : ℕ) (summed : gives sum ≡ sum_in bytes version k order') where
  against-read : (r : Result ℕ Refusal) → FileIsUnsummed k file order order' r → and_then (said r) (λ z. need (eqb z sum) wrong_total (gives tt)) ≡ check_against bytes version k file
  against-read r p =
      let w = against-sum bytes version k order' file sum summed in
      with-total k (time_in version bytes) file order order' small places r sum p w.0 ∙ sym w.1

  pub read-refused : (r : Refusal) → FileIsUnsummed k file order order' (Err r) → refuses (refusal_number r) ≡ check_against bytes version k file
  read-refused r p = against-read (Err r) p

  pub total-wrong : (total : ℕ) → FileIsUnsummed k file order order' (Ok total) → (total ≡ sum → ⊥) → refuses wrong_total ≡ check_against bytes version k file
  total-wrong total p f = sym (rw (ne_eqb total sum f) at (sym (against-read (Ok total) p)))

  pub total-same : (total : ℕ) → FileIsUnsummed k file order order' (Ok total) → total ≡ sum → gives tt ≡ check_against bytes version k file
  total-same total p e = sym (rw (eq-eqb total sum e) at (sym (against-read (Ok total) p)))

-- ---- the whole job

pub check-refused : (bytes : List ℕ) (highest : ℕ) (file : List ℕ) (n : ℕ) → read_path bytes highest small_enough ≡ refuses n → check_file bytes highest file ≡ refuses n
unfolding check_file
check-refused bytes highest file n e = rw e

-- after the head the times of the bytes decide: of judged stops they are those of the stops
pub check-after : (given bytes : List ℕ) (highest : ℕ) (file : List ℕ) (version k : ℕ) → given ≡ bytes → read_path bytes highest small_enough ≡ giving (path version k) (body_after_head bytes version k) → check_against given version k file ≡ check_file bytes highest file
unfolding check_file
check-after given bytes highest file version k same e = rw same (by (body_after_head bytes version k) refl ∙ sym (rw e))
  where
    by : (o : Outcome (List Stop)) → body_after_head bytes version k ≡ o
        → and_then o (λ ss. done (judge_file k (time_in version bytes) file)) ≡ and_then (giving (path version k) o) (λ p. done (judge_file p.k (entry_of p.stops) file))
    by (gives ss) b =
        let body = body-good bytes version k (ap number b) in
        let both : gives (stops_in version (2 ^ k) bytes) ≡ gives ss = sym body.stops ∙ b in
        let same : stops_in version (2 ^ k) bytes ≡ ss = cc in
        subst (λ (z : List Stop). done (judge_file k (time_in version bytes) file) ≡ done (judge_file k (entry_of z) file)) same
        (ap done (judge-same k (time_in version bytes) (entry_of (stops_in version (2 ^ k) bytes)) file (time-in-path version (2 ^ k) bytes body.range)))
    by (refuses n) b = refl
