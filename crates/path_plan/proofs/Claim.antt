-- THE CLAIM OVER A WHOLE RUN: from the three calls' promises alone follows demand 3 about the stops that the bytes mean.
use mathlib.Core.Path.{◌≡◌, refl, sym, ap, subst, ◌∙◌}
use mathlib.Core.List.{List}
use Prim.Native.Nat.{ℕ, ◌^◌, ◌<◌}
use native.Mathlib.Omega.{arith}
use lib.ListN.{length, take}
use lib.Seq.{take_at}
use Rattle.std.specs.Prelude.{Ok}
use Rattle.base.specs.Outcome.{Outcome, gives, refuses, giving, left, over}
use Rattle.stop.specs.declared.Stop.{Stop}
use Rattle.stop.specs.Lent.{LentStops, first_stops, over_stops}
use Rattle.stop.proofs.Lent.{over_first}
use Rattle.path.specs.Path.{Path, path, any_size}
use Rattle.path.specs.declared.Heading.{Heading}
use Rattle.path.specs.Reading.{heading, read_into, stop_room, PathIsRead}
use Rattle.times.specs.Table.{entry_of, table_of}
use Rattle.times.proofs.Table.{get_or-table, accepted, square-table, when-made, made-when}
use Rattle.tree.specs.Total.{entry, total}
use Rattle.tree.specs.Open.{wanted, Shortest}
use Rattle.tree.proofs.Diagonal.{shortest-same, wanted-same}
use Rattle.tree.proofs.Open.{wanted-shortest, length-wanted}
use Rattle.planner.specs.Plan.{plan_order, OrderIsPlanned}
use Rattle.planner.proofs.Judged.{when-planned, total-said}
use Rattle.path_plan.specs.Claim.{ShortestFor}
use Rattle.path_plan.specs.Calls.{AcceptedRun}
use Rattle.path.proofs.Inverse.{read_same}
use Rattle.path_plan.proofs.Meaning.{GoodPath, path-good}

-- what an accepted reading left: the path's stops, over the fronts of the buffers
pub record StopsLeft (bytes : List ℕ) (highest version k : ℕ) (lent lent' : LentStops) : Type 0 where
  pub stops : List Stop
  pub means : read_into bytes highest lent ≡ gives (path version k stops)
  pub holds : lent' ≡ over_stops stops lent

pub reading-left : (bytes : List ℕ) (highest version k : ℕ) (lent lent' : LentStops) → PathIsRead bytes highest lent lent' (Ok (record { version = version; k = k })) → StopsLeft bytes highest version k lent lent'
reading-left bytes highest version k lent lent' p = by (read_into bytes highest lent) refl p.said p.left
  where
    by : (o : Outcome Path) → read_into bytes highest lent ≡ o → gives (record { version = version; k = k }) ≡ giving heading o → lent' ≡ left o (λ p. over_stops p.stops lent) lent → StopsLeft bytes highest version k lent lent'
    by (gives q) m s l =
        let same : ◌≡◌ {A = Heading} (record { version = version; k = k }) (heading q) = cc in
        let v : version ≡ q.version = ap (λ (h : Heading). h.version) same in
        let j : k ≡ q.k = ap (λ (h : Heading). h.k) same in
        record { stops = q.stops; means = rw (v, j) m; holds = l }
    by (refuses n) m s l = let z : ◌≡◌ {A = ℕ} 0 1 = cc in absurd (omega arith)

-- the table's entries are the travel times of the stops
pub table-times : (k : ℕ) (ss : List Stop) → length ss ≡ 2 ^ k → (a b : ℕ) → a < 2 ^ k → b < 2 ^ k → entry (2 ^ k) (table_of ss) a b ≡ entry_of ss a b
unfolding entry_of
table-times k ss e a b x y = rw (← e) (get_or-table ss a b (omega arith) (omega arith))

-- what is shortest by the table of some stops is shortest by their travel times
pub table-shortest : (k : ℕ) (ss : List Stop) (o : List ℕ) (c : ℕ) → length ss ≡ 2 ^ k → Shortest k (entry (2 ^ k) (table_of ss)) o c → Shortest k (entry_of ss) o c
table-shortest k ss o c e = shortest-same k (entry (2 ^ k) (table_of ss)) (entry_of ss) (λ a b x y d. table-times k ss e a b x y) o c

-- the wanted order by the table of some stops is that by their travel times
pub table-wanted : (k : ℕ) (ss : List Stop) → length ss ≡ 2 ^ k → wanted k (entry (2 ^ k) (table_of ss)) ≡ wanted k (entry_of ss)
table-wanted k ss e = wanted-same k (entry (2 ^ k) (table_of ss)) (entry_of ss) (λ a b x y d. table-times k ss e a b x y)

-- and so is its total
pub table-total : (k : ℕ) (ss : List Stop) → length ss ≡ 2 ^ k → total (entry (2 ^ k) (table_of ss)) (wanted k (entry (2 ^ k) (table_of ss))) ≡ total (entry_of ss) (wanted k (entry_of ss))
table-total k ss e =
    (table-shortest k ss (wanted k (entry (2 ^ k) (table_of ss))) _ e (wanted-shortest k (entry (2 ^ k) (table_of ss)))).costs
    ∙ ap (total (entry_of ss)) (table-wanted k ss e)

-- an accepting planner leaves the wanted order by its table first, and answers its total
plans-shortest : (k : ℕ) (table order totals pivots order' totals' pivots' : List ℕ) (c d : ℕ) → OrderIsPlanned k (plan_order k table (length order) (length totals) (length pivots)) order totals pivots order' totals' pivots' (Ok (record { total = c; weighings = d }))
    → Shortest k (entry (2 ^ k) table) (take (2 ^ k) order') c
plans-shortest k table order totals pivots order' totals' pivots' c d p =
    let t : ℕ → ℕ → ℕ = entry (2 ^ k) table in
    let o = when-planned k table order totals pivots order' totals' pivots' c d p in
    let wrote : order' ≡ over (wanted k t) order = rw o at p.wrote in
    let w : take (2 ^ k) order' ≡ wanted k t = rw wrote (take_at (wanted k t) _ (2 ^ k) (length-wanted k t)) in
    let answer : gives c ≡ gives (total t (wanted k t)) = rw o at (total-said k c d (plan_order k table (length order) (length totals) (length pivots)) p.said) in
    let s : c ≡ total t (wanted k t) = cc in
    rw (w, s) (wanted-shortest k t)

-- THE CLAIM: 'Where all three accept, it holds of the order and the total that the planner returns'
pub run-shortest : (bytes : List ℕ) (highest version k : ℕ) (order : List ℕ) (c : ℕ) → AcceptedRun bytes highest version k order c
    → ShortestFor bytes highest k (take (2 ^ k) order) c
run-shortest bytes highest version k order c r =
    let l = reading-left bytes highest version k r.lent r.lent' r.reading in
    let ss : List Stop = l.stops in
    let g : GoodPath k ss = path-good bytes highest (stop_room r.lent) version k ss l.means in
    let found : first_stops (2 ^ k) r.lent' ≡ ss = ap (first_stops (2 ^ k)) l.holds ∙ ap (λ (n : ℕ). first_stops n (over_stops ss r.lent)) (sym g.count) ∙ over_first ss r.lent g.good in
    let a = accepted k r.lent' (length r.table) (when-made _ _ _ r.making) in
    let made : r.table' ≡ table_of ss =
    (made-when _ (table_of (first_stops (2 ^ k) r.lent')) r.table r.table' _ a.gives-table (square-table k _ _ a.square) r.making).1 ∙ ap table_of found in
    record {
      version = version;
      stops = ss;
      means = read_same bytes highest (stop_room r.lent) any_size version k ss l.means refl;
      shortest = table-shortest k ss (take (2 ^ k) order) c g.count
          (subst (λ x. Shortest k (entry (2 ^ k) x) (take (2 ^ k) order) c) made
          (plans-shortest k r.table' r.order r.totals r.pivots order r.totals' r.pivots' c r.weighings r.planning));
    }
