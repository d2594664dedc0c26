-- The call for a path keeps its promise: the path's head, the lent lengths and the body decide, and after them the planner cannot refuse.
use mathlib.Core.Path.{◌≡◌, refl, sym, ap, subst, ◌∙◌}
use mathlib.Core.List.{List}
use Prim.Native.Nat.{ℕ, ◌^◌}
use native.Mathlib.Omega.{arith}
use lib.ListN.{length, take}
use lib.Seq.{take_at}
use Rattle.std.specs.Prelude.{Result, Ok, Err}
use Rattle.base.specs.declared.Refusal.{Refusal}
use Rattle.base.specs.Refusal.{refusal_number}
use Rattle.base.specs.Outcome.{Outcome, gives, refuses, giving, number, over}
use Rattle.base.proofs.Outcome.{over-whole}
use Rattle.stop.specs.declared.Stop.{Stop}
use Rattle.path.specs.declared.PathBytes.{PathBytes}
use Rattle.path.specs.Bytes.{opened}
use Rattle.path.specs.Path.{path, read_head, any_size, body_after_head, stops_in}
use Rattle.path.proofs.JudgeLaws.{judged-test, judged-rest}
use Rattle.times.specs.Table.{entry_of, table_of, table_from, TableIsMade}
use Rattle.times.proofs.Table.{by-stops, accepted-path, square-table, when-made, made-when}
use Rattle.tree.specs.Total.{entry, total}
use Rattle.tree.specs.Open.{wanted}
use Rattle.tree.proofs.Open.{wanted-shortest, length-wanted}
use Rattle.planner.specs.declared.Planned.{Planned}
use Rattle.planner.specs.Plan.{plan_room, plan_order, wanted_plan, cleared, OrderIsPlanned}
use Rattle.planner.specs.Plan as plan
use Rattle.planner.proofs.Judged.{Fit}
use Rattle.planner.proofs.Judged as lengths
use Rattle.path_plan.specs.declared.PathPlanned.{PathPlanned}
use Rattle.path_plan.specs.Claim.{ShortestFor}
use Rattle.path_plan.specs.PathPlan.{plan_path, PathIsPlanned}
use Rattle.path.proofs.Inverse.{read_same}
use Rattle.path_plan.proofs.Meaning.{GoodPath, path-good}
use Rattle.path_plan.proofs.Claim.{table-wanted, table-total}

module _ (bytes : List ℕ) (highest : ℕ) (table order totals pivots : List ℕ) where
  -- a refusal is no success
  not_done : (r : Refusal) (p : PathPlanned) → ◌≡◌ {A = Result PathPlanned Refusal} (Err r) (Ok p) → ⊥
  not_done r p e = cc

  -- what a refusal promises: the number, and nothing written
  pub path-refused : (r : Refusal) → plan_path bytes highest (length table) (length order) (length totals) (length pivots) ≡ refuses (refusal_number r) → PathIsPlanned bytes highest (plan_path bytes highest (length table) (length order) (length totals) (length pivots)) table order totals pivots table order totals pivots (Err r)
  path-refused r e = record { said = rw e; timed = rw e; wrote = rw e; cleared_totals = rw e; cleared_pivots = rw e; claim = λ p x. absurd (not_done r p x) }

  module _ (version k : ℕ) (ss : List Stop) (means : plan_path bytes highest (length table) (length order) (length totals) (length pivots) ≡ gives (path version k ss)) where
    good : GoodPath k ss
    good = path-good bytes highest (λ j. plan_room j (length table) (length order) (length totals) (length pivots)) version k ss means

    -- demand 3 of what is written and answered
    claimed : (order' : List ℕ) (t : ℕ) → order' ≡ over (wanted k (entry_of ss)) order → t ≡ total (entry_of ss) (wanted k (entry_of ss)) → ShortestFor bytes highest k (take (2 ^ k) order') t
    claimed order' t w e =
        let found : take (2 ^ k) order' ≡ wanted k (entry_of ss) = rw w (take_at (wanted k (entry_of ss)) _ (2 ^ k) (length-wanted k (entry_of ss))) in
        record {
          version = version;
          stops = ss;
          means = read_same bytes highest (λ j. plan_room j (length table) (length order) (length totals) (length pivots)) any_size version k ss means refl;
          shortest = rw (found, e) (wanted-shortest k (entry_of ss));
        }

    -- what success promises, from what the planner was lent and left
    pub path-planned : (order' totals' pivots' : List ℕ) (r : Planned) → plan_room k (length (table_of ss)) (length order) (length totals) (length pivots) ≡ gives tt → length (table_of ss) ≡ length table
        → OrderIsPlanned k (plan_order k (table_of ss) (length order) (length totals) (length pivots)) order totals pivots order' totals' pivots' (Ok r)
        → PathIsPlanned bytes highest (plan_path bytes highest (length table) (length order) (length totals) (length pivots)) table order totals pivots (table_of ss) order' totals' pivots' (Ok (record { version = version; k = k; total = r.total }))
    path-planned order' totals' pivots' r room long p =
        let answer : gives r ≡ gives (plan.reported k (wanted_plan k (table_of ss))) = rw room at p.said in
        let same : r ≡ plan.reported k (wanted_plan k (table_of ss)) = cc in
        let sum : r.total ≡ total (entry_of ss) (wanted k (entry_of ss)) = ap (λ (x : Planned). x.total) same ∙ table-total k ss good.count in
        let first : order' ≡ over (wanted k (entry (2 ^ k) (table_of ss))) order = rw room at p.wrote in
        let wrote : order' ≡ over (wanted k (entry_of ss)) order = first ∙ ap (λ (o : List ℕ). over o order) (table-wanted k ss good.count) in
        let clear-totals : totals' ≡ over (cleared k) totals = rw room at p.cleared_totals in
        let clear-pivots : pivots' ≡ over (cleared k) pivots = rw room at p.cleared_pivots in
        record {
          said = rw (means, sum);
          timed = rw means (sym (over-whole (table_of ss) table long));
          wrote = rw means wrote;
          cleared_totals = rw means clear-totals;
          cleared_pivots = rw means clear-pivots;
          claim = λ q e.
              let is : ◌≡◌ {A = PathPlanned} (record { version = version; k = k; total = r.total }) q = cc in
              subst (λ (z : PathPlanned). ShortestFor bytes highest z.k (take (2 ^ z.k) order') z.total) is (claimed order' r.total wrote sum);
        }

-- ---- the call, step by step

module _ (bytes : List ℕ) (highest : ℕ) (table order totals pivots : List ℕ) (h : PathBytes) (head : gives (opened h) ≡ read_head bytes highest) (same : h.bytes.now ≡ bytes) where
  -- a length that is refused
  pub lengths-refused : (n : ℕ) → refuses n ≡ plan_room h.k (length table) (length order) (length totals) (length pivots) → plan_path bytes highest (length table) (length order) (length totals) (length pivots) ≡ refuses n
  lengths-refused n e = judged-test bytes highest _ h head same n (sym e)

  module _ (fits : gives tt ≡ plan_room h.k (length table) (length order) (length totals) (length pivots)) where
    fit : Fit h.k (length table) (length order) (length totals) (length pivots)
    fit = lengths.judged h.k (length table) (length order) (length totals) (length pivots) (ap number (sym fits))

    -- then the body decides
    by-body : plan_path bytes highest (length table) (length order) (length totals) (length pivots) ≡ giving (path h.version h.k) (body_after_head h.bytes.now h.version h.k)
    by-body = rw same (judged-rest bytes highest _ h head same fit.same)

    -- and so does the table made from it
    by-table : table_from h.bytes.now h.version h.k (length table) ≡ giving table_of (body_after_head h.bytes.now h.version h.k)
    by-table = by-stops h.bytes.now h.version h.k (length table) fit.small fit.square

    -- a table that is not made leaves everything, and its number is the call's
    pub table-refused : (r : Refusal) (table' : List ℕ) → TableIsMade (table_from h.bytes.now h.version h.k (length table)) table table' (Err r)
        → PathIsPlanned bytes highest (plan_path bytes highest (length table) (length order) (length totals) (length pivots)) table order totals pivots table' order totals pivots (Err r)
    table-refused r table' p = by (body_after_head h.bytes.now h.version h.k) refl
      where
        by : (b : Outcome (List Stop)) → body_after_head h.bytes.now h.version h.k ≡ b → PathIsPlanned bytes highest (plan_path bytes highest (length table) (length order) (length totals) (length pivots)) table order totals pivots table' order totals pivots (Err r)
        by (gives ss) e = let s : refuses (refusal_number r) ≡ gives tt = rw (by-table, e) at p.said in let z : ◌≡◌ {A = ℕ} 0 1 = cc in absurd (omega arith)
        by (refuses m) e =
            let s : refuses (refusal_number r) ≡ refuses m = rw (by-table, e) at p.said in
            let same : m ≡ refusal_number r = cc in
            let kept : table' ≡ table = rw (by-table, e) at p.left in
            let refusal : plan_path bytes highest (length table) (length order) (length totals) (length pivots) ≡ refuses (refusal_number r) = rw (by-body, e, same) in
            rw kept (path-refused bytes highest table order totals pivots r refusal)

    -- a table that is made is that of the path's stops
    pub table-made : (table' : List ℕ) → TableIsMade (table_from h.bytes.now h.version h.k (length table)) table table' (Ok tt)
        → (table' ≡ table_of (stops_in h.version (2 ^ h.k) h.bytes.now)) × (length table' ≡ length table) × (body_after_head h.bytes.now h.version h.k ≡ gives (stops_in h.version (2 ^ h.k) h.bytes.now))
    table-made table' p =
        let a = accepted-path h.bytes.now h.version h.k (length table) (when-made _ table table' p) in
        let ss = stops_in h.version (2 ^ h.k) h.bytes.now in
        let long : length (table_of ss) ≡ length table = square-table h.k (length table) _ a.square in
        let is : table' ≡ table_of ss = (made-when _ (table_of ss) table table' _ a.gives-table long p).1 in
        (is, ap length is ∙ long, a.body.stops)

    -- and the planner plans by it: it cannot refuse
    pub table-planned : (table' order' totals' pivots' : List ℕ) (r : Planned) → TableIsMade (table_from h.bytes.now h.version h.k (length table)) table table' (Ok tt) → OrderIsPlanned h.k (plan_order h.k table' (length order) (length totals) (length pivots)) order totals pivots order' totals' pivots' (Ok r)
        → PathIsPlanned bytes highest (plan_path bytes highest (length table) (length order) (length totals) (length pivots)) table order totals pivots table' order' totals' pivots' (Ok (record { version = h.version; k = h.k; total = r.total }))
    table-planned table' order' totals' pivots' r p q =
        let m = table-made table' p in
        let ss = stops_in h.version (2 ^ h.k) h.bytes.now in
        let long : length (table_of ss) ≡ length table = sym (ap length m.0) ∙ m.1 in
        let means : plan_path bytes highest (length table) (length order) (length totals) (length pivots) ≡ gives (path h.version h.k ss) = rw (by-body, m.2) in
        rw (m.0)
        (path-planned bytes highest table order totals pivots h.version h.k ss means order' totals' pivots' r (rw long fit.same) long
        (rw (m.0) at q))

    pub never-refused : {A : Type 0} (table' order' totals' pivots' : List ℕ) (r : Refusal) → TableIsMade (table_from h.bytes.now h.version h.k (length table)) table table' (Ok tt) → OrderIsPlanned h.k (plan_order h.k table' (length order) (length totals) (length pivots)) order totals pivots order' totals' pivots' (Err r) → A
    never-refused table' order' totals' pivots' r p q =
        let m = table-made table' p in
        let answer : refuses (refusal_number r) ≡ gives (plan.reported h.k (wanted_plan h.k table')) = rw (m.1, fit.same) at q.said in
        let z : ◌≡◌ {A = ℕ} 0 1 = cc in
        absurd (omega arith)
