-- Laws of the calls: what each promises after a refusal and after success, from the path's judgement on.
use mathlib.Core.Path.{◌≡◌, refl, sym, ap, ◌∙◌}
use mathlib.Core.Bool.{Bool, true, false}
use mathlib.Core.List.{List}
use Prim.Native.Nat.{ℕ, ◌-◌, ◌^◌, ◌≤◌, ◌<◌}
use native.Mathlib.Omega.{arith}
use lib.ListN.{length, set, drop, length-drop}
use lib.Seq.{paste}
use Rattle.std.specs.Prelude.{Ok, Err}
use Rattle.base.specs.declared.Refusal.{Refusal}
use Rattle.base.specs.Refusal.{refusal_number}
use Rattle.base.specs.Outcome.{Outcome, gives, refuses, and_then, number, over}
use Rattle.base.specs.Size.{max_k}
use Rattle.stop.specs.declared.Stop.{Stop}
use Rattle.path.specs.declared.PathBytes.{PathBytes}
use Rattle.path.specs.Path.{path, read_path, stops_in}
use Rattle.times.specs.Table.{entry_of}
use Rattle.orders.specs.Lent.{order_in}
use Rattle.group_sums.specs.Travel.{sums_of}
use Rattle.screen.specs.Records.{Records, judge_records, lent_records}
use Rattle.screen.specs.Times.{times_of}
use Rattle.screen.proofs.Records.{GoodRecords, records-contents, records-times}
use Rattle.screen.proofs.Screen.{GoodPath}
use Rattle.named.specs.Names.{names, used, is_name, start_of, under, named, kept_under, lent_under}
use Rattle.named.specs.Calls.{Kept, room_for, keep_records, come_back, OrderIsKept, OrderComesBack}
use Rattle.named.proofs.Paste.{paste-front}
use Rattle.named.proofs.Names.{Fits, room_fits, in-name, start_fits, under-is, keeping, keep-given, coming, Back, back-used}

module _ (bytes : List ℕ) (highest name : ℕ) (shown : Records) (kept : Kept) where
  -- ---- a refused path

  pub keep-bad-path : (n : ℕ) → read_path bytes highest (room_for shown kept) ≡ refuses n → keep_records bytes highest name shown kept ≡ refuses n
  unfolding keep_records
  keep-bad-path n e = rw e

  pub back-bad-path : (n : ℕ) → read_path bytes highest (room_for shown kept) ≡ refuses n → come_back bytes highest name shown kept ≡ refuses n
  unfolding come_back
  back-bad-path n e = rw e

  -- ---- what a refusal promises: the number, and nothing written

  pub keep-refuses : (r : Refusal) → keep_records bytes highest name shown kept ≡ refuses (refusal_number r) → OrderIsKept bytes highest name shown kept kept (Err r)
  keep-refuses r e = record { said = rw e; left_marks = rw e; left_stops = rw e; left_sums = rw e }

  pub back-refuses : (r : Refusal) → come_back bytes highest name shown kept ≡ refuses (refusal_number r) → OrderComesBack bytes highest name shown shown kept (Err r)
  back-refuses r e = record { said = rw e; left_order = rw e; left_sums = rw e }

  -- ---- a path that passed

  -- its stops, long enough buffers, and times t that are those of the stops
  pub record Passed (version k : ℕ) (ss : List Stop) (t : ℕ → ℕ → ℕ) : Type 0 where
    pub reads : read_path bytes highest (room_for shown kept) ≡ gives (path version k ss)
    pub small : k ≤ max_k
    pub takes : room_for shown kept k ≡ gives tt
    pub times : (i j : ℕ) → i < 2 ^ k → j < 2 ^ k → t i j ≡ entry_of ss i j

  pub by-path : (q : PathBytes) → GoodPath bytes highest (room_for shown kept) q → Passed q.version q.k (stops_in q.version (2 ^ q.k) bytes) (times_of q)
  by-path q p = record { reads = p.reads; small = p.small; takes = p.takes; times = p.times }

  module _ (version k : ℕ) (ss : List Stop) (t : ℕ → ℕ → ℕ) (p : Passed version k ss t) where
    u : ℕ → ℕ → ℕ
    u = entry_of ss

    pub fits : Fits (2 ^ k) (length kept.marks) (length kept.stops) (length kept.sums) (length shown.order) (length shown.sums)
    fits = room_fits _ _ _ _ _ k (ap number p.takes)

    -- the definition by the path's stops is that by its bytes, for records that are long enough
    same : (order sums : List ℕ) → 2 ^ k ≤ length order → 2 ^ k ≤ length sums → judge_records u k order sums ≡ lent_records t k order sums
    unfolding u
    same order sums a b = sym (records-contents t k order sums p.small a b ∙ records-times t u k order sums p.times)

    same-shown : judge_records u k shown.order shown.sums ≡ lent_records t k shown.order shown.sums
    same-shown = same shown.order shown.sums fits.long_order fits.long_sums

    pub keep-by-bytes : keep_records bytes highest name shown kept ≡ keeping t k name shown.order shown.sums
    unfolding keep_records u
    keep-by-bytes = rw (p.reads, same-shown)

    same_kept : is_name name ≡ true → kept_under u k name kept.marks kept.stops kept.sums ≡ lent_under t k name kept.marks kept.stops kept.sums
    unfolding kept_under lent_under
    same_kept e =
        let i = in-name name e in
        let a : 2 ^ k ≤ length (drop (start_of k name) kept.stops) = rw (length-drop (start_of k name) kept.stops) (omega (arith, start_fits k name _ i.0 i.1 fits.long_stops)) in
        let b : 2 ^ k ≤ length (drop (start_of k name) kept.sums) = rw (length-drop (start_of k name) kept.sums) (omega (arith, start_fits k name _ i.0 i.1 fits.long_kept)) in
        rw (same (drop (start_of k name) kept.stops) (drop (start_of k name) kept.sums) a b)

    pub back-by-bytes : come_back bytes highest name shown kept
        ≡ coming t k name shown.order shown.sums kept.marks kept.stops kept.sums
    unfolding come_back named u
    back-by-bytes = rw (p.reads, same-shown) (by (lent_records t k shown.order shown.sums) (is_name name) refl)
      where
        by : (o : Outcome Records) (b : Bool) → is_name name ≡ b
            → and_then (and_then o (named name)) (λ _. kept_under u k name kept.marks kept.stops kept.sums)
            ≡ and_then (and_then o (named name)) (λ _. lent_under t k name kept.marks kept.stops kept.sums)
        by (refuses n) b e = refl
        by (gives r) true e = rw e (same_kept e)
        by (gives r) false e = rw e

    -- ---- what success promises

    pub keep-made : (kept' : Kept) → GoodRecords t k shown.order shown.sums → 1 ≤ name → name ≤ names
        → kept'.marks ≡ set kept.marks (name - 1) used
        → kept'.stops ≡ paste kept.stops (start_of k name) shown.order (2 ^ k)
        → kept'.sums ≡ paste kept.sums (start_of k name) shown.sums (2 ^ k)
        → OrderIsKept bytes highest name shown kept kept' (Ok tt)
    keep-made kept' g a b x y z =
        let is = keep-by-bytes ∙ keep-given t k name shown.order shown.sums g a b in
        let s : under name (sums_of t k (order_in k shown.order)) kept.sums ≡ paste kept.sums (start_of k name) shown.sums (2 ^ k)
        = ap (λ (l : List ℕ). under name l kept.sums) (sym g.same) ∙ under-is name (2 ^ k) shown.sums kept.sums g.long in
        record {
          said = rw is;
          left_marks = rw is x;
          left_stops = rw is (y ∙ sym (under-is name (2 ^ k) shown.order kept.stops g.judged.long));
          left_sums = rw is (z ∙ sym s);
        }

    pub back-made : (shown' : Records) → Back t k name shown.order shown.sums kept.marks kept.stops kept.sums
        → shown'.order ≡ paste shown.order 0 (drop (start_of k name) kept.stops) (2 ^ k)
        → shown'.sums ≡ paste shown.sums 0 (drop (start_of k name) kept.sums) (2 ^ k)
        → OrderComesBack bytes highest name shown shown' kept (Ok tt)
    back-made shown' w x y =
        let g = w.good in
        let is = back-by-bytes ∙ back-used t k name shown.order shown.sums kept.marks kept.stops kept.sums w.shown w.above w.below w.marked ∙ g.accepted in
        record {
          said = rw is;
          left_order = rw is (x ∙ paste-front shown.order (drop (start_of k name) kept.stops) (2 ^ k) g.judged.long);
          left_sums = rw is (y ∙ paste-front shown.sums (drop (start_of k name) kept.sums) (2 ^ k) g.long ∙ ap (λ (l : List ℕ). over l shown.sums) g.same);
        }

-- ---- clearing
