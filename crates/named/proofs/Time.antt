-- The promise over time: what was kept under a name is still there after any calls for the path that do not keep under it, and the screen's records
-- pass their tests throughout; so coming back is accepted and brings it back.
use mathlib.Core.Path.{◌≡◌, refl, sym, ap, ◌∙◌}
use mathlib.Core.List.{List}
use mathlib.Core.Logic.{◌≢◌}
use Prim.Native.Nat.{ℕ, ◌*◌, ◌-◌, ◌^◌, ◌≤◌}
use native.Mathlib.Omega.{arith}
use lib.ListN.{length, length-set, length-drop, get_or, set, take, drop}
use lib.Seq.{paste, length-paste, length-take-le, get_or-set_same, get_or-set_other}
use Rattle.std.specs.Prelude.{Result, Ok, Err}
use Rattle.base.specs.declared.Refusal.{Refusal}
use Rattle.base.specs.Refusal.{refusal_number}
use Rattle.base.specs.Outcome.{Outcome, gives, number, over}
use Rattle.base.proofs.Outcome.{number-first, done-good, done-refused, over-front, over-long}
use Rattle.stop.specs.declared.Stop.{Stop}
use Rattle.path.specs.Path.{path, read_path, any_size}
use Rattle.path.proofs.Inverse.{read_same}
use Rattle.times.specs.Table.{entry_of}
use Rattle.orders.specs.Lent.{order_in, JudgedOrder}
use Rattle.orders.proofs.Calls.{only-ok}
use Rattle.orders.proofs.Lent.{holds-order}
use Rattle.group_sums.specs.Travel.{sums_of}
use Rattle.group_sums.proofs.Travel.{length-sums_of}
use Rattle.screen.specs.Records.{Records, records_of}
use Rattle.screen.specs.Screen.{screen_room, group_sums, exchange_records, SumsAreMade, ForkIsExchanged}
use Rattle.screen.proofs.Records.{GoodRecords, records-are}
use Rattle.screen.proofs.Screen.{room-numbered as screen-numbered}
use Rattle.screen.proofs.Calls as calls
use Rattle.named.specs.Names.{names, used, start_of, under}
use Rattle.named.specs.Calls.{Kept, room_for, keep_records, come_back, OrderIsKept, OrderComesBack}
use Rattle.named.specs.Time.{Call, Calls, keeps, keeps-nothing, comes_back, exchanges, makes-sums, elsewhere, none, next}
use Rattle.named.proofs.Paste.{paste-block, paste-other}
use Rattle.named.proofs.Names.{Fits, room_fits, room-numbered, fits-room, start_fits, under-is, keep-given, keep-judged, Back, back-used, back-judged}
use Rattle.named.proofs.Keeping.{Passed, keep-by-bytes, back-by-bytes}

module _ (bytes : List ℕ) (known version k : ℕ) (ss : List Stop) (means : read_path bytes known any_size ≡ gives (path version k ss)) where
  -- records that pass by the times of the path's stops
  abbrev pub Passes : Records → Type 0
  Passes shown = GoodRecords (entry_of ss) k shown.order shown.sums

  -- name m has these stops and sums
  pub record Holds (m : ℕ) (stops sums : List ℕ) (kept : Kept) : Type 0 where
    pub above : 1 ≤ m
    pub below : m ≤ names
    pub long_marks : names ≤ length kept.marks
    pub long_stops : names * 2 ^ k ≤ length kept.stops
    pub long_sums : names * 2 ^ k ≤ length kept.sums
    pub marked : get_or kept.marks (m - 1) 0 ≡ used
    pub stops_are : take (2 ^ k) (drop (start_of k m) kept.stops) ≡ stops
    pub sums_are : take (2 ^ k) (drop (start_of k m) kept.sums) ≡ sums

  -- ---- one call

  -- an accepted reading by any caller is of this path, and its lengths suffice
  passed : (h name : ℕ) (shown : Records) (kept : Kept) → number (read_path bytes h (room_for shown kept)) ≡ 0 → Passed bytes h name shown kept version k ss (entry_of ss)
  passed h name shown kept z =
      let w = calls.path-of bytes known version k ss means h (room_for shown kept) (λ j. calls.numbered-sound _ (room-numbered _ _ _ _ _ j)) z in
      record { reads = w.0; small = calls.few bytes known version k ss means; takes = w.1; times = λ i j a b. refl }

  -- what an accepted keeping left
  pub record Keeping (name : ℕ) (shown : Records) (kept kept' : Kept) : Type 0 where
    pub passes : Passes shown
    pub fits : Fits (2 ^ k) (length kept.marks) (length kept.stops) (length kept.sums) (length shown.order) (length shown.sums)
    pub above : 1 ≤ name
    pub below : name ≤ names
    pub marks : kept'.marks ≡ set kept.marks (name - 1) used
    pub stops : kept'.stops ≡ paste kept.stops (start_of k name) shown.order (2 ^ k)
    pub sums : kept'.sums ≡ paste kept.sums (start_of k name) shown.sums (2 ^ k)

  pub when-kept : (h name : ℕ) (shown : Records) (kept kept' : Kept) → OrderIsKept bytes h name shown kept kept' (Ok tt) → Keeping name shown kept kept'
  unfolding keep_records
  when-kept h name shown kept kept' call =
      let z : number (keep_records bytes h name shown kept) ≡ 0 = done-good (keep_records bytes h name shown kept) call.said in
      let p = passed h name shown kept (number-first (read_path bytes h (room_for shown kept)) _ z) in
      let by = keep-by-bytes bytes h name shown kept version k ss (entry_of ss) p in
      let w = keep-judged (entry_of ss) k name shown.order shown.sums (sym (ap number by) ∙ z) in
      let g = w.0 in
      let is = by ∙ keep-given (entry_of ss) k name shown.order shown.sums g w.1 w.2 in
      record {
        passes = g;
        fits = room_fits _ _ _ _ _ k (ap number p.takes);
        above = w.1;
        below = w.2;
        marks = call.left_marks ∙ rw is;
        stops = call.left_stops ∙ rw is (under-is name (2 ^ k) shown.order kept.stops g.judged.long);
        sums = call.left_sums ∙ rw is (ap (λ (l : List ℕ). under name l kept.sums) (sym g.same) ∙ under-is name (2 ^ k) shown.sums kept.sums g.long);
      }

  -- what an accepted coming back left
  pub record Coming (name : ℕ) (shown shown' : Records) (kept : Kept) : Type 0 where
    pub back : Back (entry_of ss) k name shown.order shown.sums kept.marks kept.stops kept.sums
    pub order : shown'.order ≡ over (order_in k (drop (start_of k name) kept.stops)) shown.order
    pub sums : shown'.sums ≡ over (sums_of (entry_of ss) k (order_in k (drop (start_of k name) kept.stops))) shown.sums

  coming-is : (h name : ℕ) (shown : Records) (kept : Kept) → Passed bytes h name shown kept version k ss (entry_of ss)
      → Back (entry_of ss) k name shown.order shown.sums kept.marks kept.stops kept.sums
      → come_back bytes h name shown kept ≡ gives (records_of (entry_of ss) k (order_in k (drop (start_of k name) kept.stops)))
  coming-is h name shown kept p w =
      back-by-bytes bytes h name shown kept version k ss (entry_of ss) p
      ∙ back-used (entry_of ss) k name shown.order shown.sums kept.marks kept.stops kept.sums w.shown w.above w.below w.marked
      ∙ w.good.accepted

  pub when-back : (h name : ℕ) (shown shown' : Records) (kept : Kept) → OrderComesBack bytes h name shown shown' kept (Ok tt) → Coming name shown shown' kept
  unfolding come_back
  when-back h name shown shown' kept call =
      let z : number (come_back bytes h name shown kept) ≡ 0 = done-good (come_back bytes h name shown kept) call.said in
      let p = passed h name shown kept (number-first (read_path bytes h (room_for shown kept)) _ z) in
      let by = back-by-bytes bytes h name shown kept version k ss (entry_of ss) p in
      let w = back-judged (entry_of ss) k name shown.order shown.sums kept.marks kept.stops kept.sums (sym (ap number by) ∙ z) in
      let is = coming-is h name shown kept p w in
      record { back = w; order = call.left_order ∙ rw is; sums = call.left_sums ∙ rw is }

  -- ---- the screen's records pass after each call

  -- an order and its sums at the front of buffers
  over-passes : (shown shown' : Records) (o : List ℕ) → JudgedOrder k shown'.order → order_in k shown'.order ≡ o
      → shown'.sums ≡ over (sums_of (entry_of ss) k o) shown.sums → Passes shown'
  over-passes shown shown' o j e f =
      records-are (entry_of ss) k shown'.order shown'.sums j
      (rw f (over-long (2 ^ k) (sums_of (entry_of ss) k o) shown.sums (length-sums_of (entry_of ss) k o)))
      (rw (e, f) (over-front (2 ^ k) (sums_of (entry_of ss) k o) shown.sums (length-sums_of (entry_of ss) k o)))

  back_passes : (h name : ℕ) (shown shown' : Records) (kept : Kept) (r : Result Unit Refusal) → OrderComesBack bytes h name shown shown' kept r → Passes shown → Passes shown'
  back_passes h name shown shown' kept (Err n) call g =
      let is = done-refused (come_back bytes h name shown kept) (refusal_number n) call.said in
      let a : shown'.order ≡ shown.order = call.left_order ∙ rw is in
      let b : shown'.sums ≡ shown.sums = call.left_sums ∙ rw is in
      rw (a, b) g
  back_passes h name shown shown' kept (Ok u) call g =
      let w = when-back h name shown shown' kept call in
      let j = w.back.good.judged in
      let s : List ℕ = drop (start_of k name) kept.stops in
      over-passes shown shown' (order_in k s)
      (rw w.order (holds-order k (order_in k s) shown.order j.small j.allowed))
      (rw w.order (over-front (2 ^ k) (order_in k s) shown.order (length-take-le (2 ^ k) s j.long)))
      w.sums

  exchange-passes : (h fork : ℕ) (shown shown' : Records) (r : Result Unit Refusal) → ForkIsExchanged bytes h fork shown.order shown.sums shown'.order shown'.sums r
      → Passes shown → Passes shown'
  unfolding exchange_records
  exchange-passes h fork shown shown' (Err n) call g =
      let is = done-refused (exchange_records bytes h fork shown.order shown.sums) (refusal_number n) call.said in
      let a : shown'.order ≡ shown.order = call.left_order ∙ rw is in
      let b : shown'.sums ≡ shown.sums = call.left_sums ∙ rw is in
      rw (a, b) g
  exchange-passes h fork shown shown' (Ok u) call g =
      let room : ℕ → Outcome Unit = screen_room (length shown.order) (length shown.sums) in
      let z = done-good (exchange_records bytes h fork shown.order shown.sums) call.said in
      let m = calls.means-of bytes known version k ss means h room (λ j. calls.numbered-sound _ (screen-numbered _ _ j)) (number-first (read_path bytes h room) _ z) in
      records-are (entry_of ss) k shown'.order shown'.sums
      (calls.order-passes bytes h version k ss m fork shown.order shown.sums shown'.order shown'.sums call)
      (calls.sums-long bytes h version k ss m fork shown.order shown.sums shown'.order shown'.sums call)
      (calls.new-sums bytes h version k ss m fork shown.order shown.sums shown'.order shown'.sums call)

  sums-pass : (h : ℕ) (shown shown' : Records) (r : Result Unit Refusal) → shown'.order ≡ shown.order → SumsAreMade bytes h shown.order shown.sums shown'.sums r
      → Passes shown → Passes shown'
  unfolding group_sums
  sums-pass h shown shown' (Err n) e call g =
      let is = done-refused (group_sums bytes h shown.order (length shown.sums)) (refusal_number n) call.said in
      let b : shown'.sums ≡ shown.sums = call.left ∙ rw is in
      rw (e, b) g
  sums-pass h shown shown' (Ok u) e call g =
      let room : ℕ → Outcome Unit = screen_room (length shown.order) (length shown.sums) in
      let z = done-good (group_sums bytes h shown.order (length shown.sums)) call.said in
      let m = calls.means-of bytes known version k ss means h room (λ j. calls.numbered-sound _ (screen-numbered _ _ j)) (number-first (read_path bytes h room) _ z) in
      let w = calls.when-made bytes h version k ss m shown.order shown.sums shown'.sums call in
      over-passes shown shown' (order_in k shown.order) (rw e w.judged) (ap (order_in k) e) w.left

  -- ---- what name m has stays

  -- after a refused keeping, under whatever name
  refused-holds : (m h name : ℕ) (n : Refusal) (shown : Records) (kept kept' : Kept) (stops sums : List ℕ) → OrderIsKept bytes h name shown kept kept' (Err n)
      → Holds m stops sums kept → Holds m stops sums kept'
  refused-holds m h name n shown kept kept' stops sums call w =
      let is = done-refused (keep_records bytes h name shown kept) (refusal_number n) call.said in
      let a : kept'.marks ≡ kept.marks = call.left_marks ∙ rw is in
      let b : kept'.stops ≡ kept.stops = call.left_stops ∙ rw is in
      let c : kept'.sums ≡ kept.sums = call.left_sums ∙ rw is in
      record {
        above = w.above;
        below = w.below;
        long_marks = rw a w.long_marks;
        long_stops = rw b w.long_stops;
        long_sums = rw c w.long_sums;
        marked = rw a w.marked;
        stops_are = rw b w.stops_are;
        sums_are = rw c w.sums_are;
      }

  keep-holds : (m h name : ℕ) (shown : Records) (kept kept' : Kept) (r : Result Unit Refusal) (stops sums : List ℕ) → name ≢ m → OrderIsKept bytes h name shown kept kept' r
      → Holds m stops sums kept → Holds m stops sums kept'
  keep-holds m h name shown kept kept' (Err n) stops sums apart call w = refused-holds m h name n shown kept kept' stops sums call w
  keep-holds m h name shown kept kept' (Ok u) stops sums apart call w =
      let v = when-kept h name shown kept kept' call in
      let n : ℕ = 2 ^ k in
      let g = v.passes in
      let p = start_fits k name (length kept.stops) v.above v.below v.fits.long_stops in
      let q = start_fits k name (length kept.sums) v.above v.below v.fits.long_kept in
      let other : name - 1 ≢ m - 1 = λ e. apart (omega (arith, e, v.above, w.above)) in
      record {
        above = w.above;
        below = w.below;
        long_marks = rw (v.marks, length-set kept.marks (name - 1) used) w.long_marks;
        long_stops = rw (v.stops, length-paste kept.stops (start_of k name) shown.order n p g.judged.long) w.long_stops;
        long_sums = rw (v.sums, length-paste kept.sums (start_of k name) shown.sums n q g.long) w.long_sums;
        marked = rw v.marks (get_or-set_other kept.marks (name - 1) (m - 1) used 0 (λ e. other (sym e)) ∙ w.marked);
        stops_are = rw v.stops (paste-other kept.stops (name - 1) (m - 1) shown.order n p g.judged.long other ∙ w.stops_are);
        sums_are = rw v.sums (paste-other kept.sums (name - 1) (m - 1) shown.sums n q g.long other ∙ w.sums_are);
      }

  -- ---- any number of calls

  pub record Still (m : ℕ) (stops sums : List ℕ) (shown : Records) (kept : Kept) : Type 0 where
    pub passes : Passes shown
    pub holds : Holds m stops sums kept

  call-still : (m : ℕ) (stops sums : List ℕ) (a : Records) (x : Kept) (b : Records) (y : Kept) → Call bytes m a x b y → Still m stops sums a x → Still m stops sums b y
  call-still m stops sums a x b y (keeps h name _ _ _ r apart call) w = record { passes = w.passes; holds = keep-holds m h name a x y r stops sums apart call w.holds }
  call-still m stops sums a x b y (keeps-nothing h n _ _ _ call) w = record { passes = w.passes; holds = refused-holds m h m n a x y stops sums call w.holds }
  call-still m stops sums a x b y (comes_back h name _ _ _ r call) w = record { passes = back_passes h name a b x r call w.passes; holds = w.holds }
  call-still m stops sums a x b y (exchanges h fork _ _ _ r call) w = record { passes = exchange-passes h fork a b r call w.passes; holds = w.holds }
  call-still m stops sums a x b y (makes-sums h _ _ _ r e call) w = record { passes = sums-pass h a b r e call w.passes; holds = w.holds }
  call-still m stops sums a x b y (elsewhere _ _) w = w

  pub calls-still : (m : ℕ) (stops sums : List ℕ) (a : Records) (x : Kept) (b : Records) (y : Kept) → Calls bytes m a x b y → Still m stops sums a x → Still m stops sums b y
  calls-still m stops sums a x b y (none _ _) w = w
  calls-still m stops sums a x b y (next _ _ c z _ _ before call) w = call-still m stops sums c z b y call (calls-still m stops sums a x c z before w)

  -- ---- keeping, and coming back

  -- after an accepted keeping the name has the screen's order and sums
  pub kept-still : (h m : ℕ) (shown : Records) (kept kept' : Kept) → OrderIsKept bytes h m shown kept kept' (Ok tt)
      → Still m (order_in k shown.order) (take (2 ^ k) shown.sums) shown kept'
  kept-still h m shown kept kept' call =
      let v = when-kept h m shown kept kept' call in
      let n : ℕ = 2 ^ k in
      let g = v.passes in
      let p = start_fits k m (length kept.stops) v.above v.below v.fits.long_stops in
      let q = start_fits k m (length kept.sums) v.above v.below v.fits.long_kept in
      record {
        passes = g;
        holds = record {
          above = v.above;
          below = v.below;
          long_marks = rw (v.marks, length-set kept.marks (m - 1) used) v.fits.long_marks;
          long_stops = rw (v.stops, length-paste kept.stops (start_of k m) shown.order n p g.judged.long) v.fits.long_stops;
          long_sums = rw (v.sums, length-paste kept.sums (start_of k m) shown.sums n q g.long) v.fits.long_kept;
          marked = rw v.marks (get_or-set_same kept.marks (m - 1) used 0 (omega (arith, v.above, v.below, v.fits.long_marks)));
          stops_are = rw v.stops (paste-block kept.stops (start_of k m) shown.order n p g.judged.long);
          sums_are = rw v.sums (paste-block kept.sums (start_of k m) shown.sums n q g.long);
        };
      }

  -- 'Coming back restores the order and all group sums as they were when last kept under that name, after any calls for that path in between': it is
  -- accepted from every caller who can read the path, and what lies behind the n stops and the n sums stays
  pub comes-back-as-kept : (h m : ℕ) (shown : Records) (kept kept' : Kept) → OrderIsKept bytes h m shown kept kept' (Ok tt)
      → (shown'' : Records) (kept'' : Kept) → Calls bytes m shown kept' shown'' kept''
      → (j : ℕ) → read_path bytes j any_size ≡ gives (path version k ss) → (back : Records) (r : Result Unit Refusal) → OrderComesBack bytes j m shown'' back kept'' r
      → (r ≡ Ok tt) × (back.order ≡ over (order_in k shown.order) shown''.order) × (back.sums ≡ over (take (2 ^ k) shown.sums) shown''.sums)
  comes-back-as-kept h m shown kept kept' first shown'' kept'' between j reads back r call =
      let start = kept-still h m shown kept kept' first in
      let g = start.passes in
      let w = calls-still m _ _ shown kept' shown'' kept'' between start in
      let v = w.holds in
      let at : ℕ = start_of k m in
      let stops : List ℕ = drop at kept''.stops in
      let sums : List ℕ = drop at kept''.sums in
      let a : 2 ^ k ≤ length stops = rw (length-drop at kept''.stops) (omega (arith, start_fits k m _ v.above v.below v.long_stops)) in
      let b : 2 ^ k ≤ length sums = rw (length-drop at kept''.sums) (omega (arith, start_fits k m _ v.above v.below v.long_sums)) in
      let judged : JudgedOrder k stops = record { small = g.judged.small; long = a; below = rw v.stops_are g.judged.below; allowed = rw v.stops_are g.judged.allowed } in
      let same : take (2 ^ k) sums ≡ sums_of (entry_of ss) k (order_in k stops) = rw (v.stops_are, v.sums_are) g.same in
      let passes : Back (entry_of ss) k m shown''.order shown''.sums kept''.marks kept''.stops kept''.sums = record {
        shown = w.passes;
        above = v.above;
        below = v.below;
        marked = v.marked;
        good = records-are (entry_of ss) k stops sums judged b same;
      } in
      let takes : room_for shown'' kept'' k ≡ gives tt = fits-room _ _ _ _ _ k (record {
        long_marks = v.long_marks;
        long_stops = v.long_stops;
        long_kept = v.long_sums;
        long_order = w.passes.judged.long;
        long_sums = w.passes.long;
      }) in
      let p : Passed bytes j m shown'' kept'' version k ss (entry_of ss) = record {
        reads = read_same bytes j any_size (room_for shown'' kept'') version k ss reads takes;
        small = g.judged.small;
        takes = takes;
        times = λ x y c d. refl;
      } in
      let is = coming-is j m shown'' kept'' p passes in (
        only-ok r (call.said ∙ rw is),
        call.left_order ∙ rw is (ap (λ (l : List ℕ). over l shown''.order) v.stops_are),
        call.left_sums ∙ rw is (ap (λ (l : List ℕ). over l shown''.sums) (sym same ∙ v.sums_are)),
      )
