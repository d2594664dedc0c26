-- The laws of the two calls, by their promises alone: what anybody has who calls them with the bytes of one path, and lets nobody else write
-- the order and the sums in between.
use mathlib.Core.Path.{◌≡◌, refl, sym, ap, subst, ◌∙◌}
use mathlib.Core.List.{List, ◌++◌}
use mathlib.Core.Logic.{◌≢◌}
use Prim.Native.Nat.{ℕ, zero, suc, ◌/◌, ◌^◌, ◌≤◌, ◌<◌}
use native.Mathlib.Omega.{arith}
use lib.Bits.{bit_xor}
use lib.ListN.{length, get_or, take, drop, take-append-drop}
use lib.Pow.{pow_pos}
use lib.Seq.{get_or-take, length-take-le, drop_at}
use Rattle.base.specs.Refusal.{wrong_total, no_such_fork}
use Rattle.std.specs.Prelude.{Result, Ok}
use Rattle.base.specs.declared.Refusal.{Refusal}
use Rattle.base.specs.Outcome.{Outcome, gives, refuses, and_then, number, over}
use Rattle.base.specs.Size.{max_k}
use Rattle.base.proofs.Numbered.{Numbered, given, refusal}
use Rattle.base.proofs.Outcome.{passed, number-first, number-giving, done-good, over-at, over-front, over-long}
use Rattle.stop.specs.declared.Stop.{Stop}
use Rattle.path.specs.Path.{PathHead, Path, path, read_on, read_head, read_path, any_size}
use Rattle.path.proofs.Inverse.{accepted-of, read_same, read-once}
use Rattle.path.proofs.Numbers.{path-numbered}
use Rattle.times.specs.Table.{entry_of}
use Rattle.tree.specs.Total.{total}
use Rattle.orders.specs.Allowed.{forks_of, judge_order}
use Rattle.orders.specs.Lent.{order_in, JudgedOrder}
use Rattle.orders.specs.Same.{alike}
use Rattle.orders.proofs.Allowed.{judge-good, judged-good}
use Rattle.orders.proofs.Calls.{only-ok}
use Rattle.orders.proofs.Lent.{holds-order}
use Rattle.orders.proofs.Same.{alike_same, same_alike}
use Rattle.groups.specs.Exchange.{exchange_fork}
use Rattle.groups.proofs.Exchange.{fork-forks, exchange-allowed, length-exchange, exchange-back, forks_of-exchange}
use Rattle.group_sums.specs.Travel.{inner_travel, sums_of}
use Rattle.group_sums.specs.Between.{between, move_into, sum_by}
use Rattle.group_sums.proofs.Travel.{travel-root, travel-other, length-sums_of, sums-zero, sums-fork}
use Rattle.group_sums.proofs.Adds.{sums-add, sum_by-take}
use Rattle.screen.specs.Records.{records_of, with_sums, judge_records, is_fork, fork_exchanged}
use Rattle.screen.specs.Screen.{screen_room, group_sums, exchange_records, SumsAreMade, ForkIsExchanged}
use Rattle.screen.proofs.Records.{fork-in, in-fork}
use Rattle.screen.proofs.Screen.{room-good, room-long, room-numbered}

-- what stood at the front of a buffer, written back over what was written there
over-back : (n : ℕ) (a b x : List ℕ) → length x ≡ n → n ≤ length a → b ≡ over x a → over (take n a) b ≡ a
over-back n a b x e l f =
    let rest : drop n b ≡ drop n a = ap (drop n) (f ∙ over-at n x a e) ∙ drop_at x (drop n a) n e in
    over-at n (take n a) b (length-take-le n a l) ∙ ap (λ (r : List ℕ). take n a ++ r) rest ∙ take-append-drop n a

-- a test that refuses by the numbers of the table, and refused nothing, passed
pub numbered-sound : (o : Outcome Unit) → Numbered o → number o ≡ 0 → o ≡ gives tt
numbered-sound (gives u) i z = refl
numbered-sound (refuses n) (refusal m i) z = let first = i.first in absurd (omega arith)

-- a reading that refused nothing is that of a caller who takes every k, where a test that gives 0 passed
reads-any : (bytes : List ℕ) (h : ℕ) (test : ℕ → Outcome Unit) → ((j : ℕ) → number (test j) ≡ 0 → test j ≡ gives tt) → number (read_path bytes h test) ≡ 0
    → read_path bytes h test ≡ read_path bytes h any_size
unfolding read_path read_on
reads-any bytes h test sound z = by (read_head bytes h) z
  where
    passes : (o : Outcome Unit) (next : Unit → Outcome Path) → (number o ≡ 0 → o ≡ gives tt) → number (and_then o next) ≡ 0 → and_then o next ≡ next tt
    passes o next f z = ap (λ (x : Outcome Unit). and_then x next) (f (number-first o next z))

    by : (o : Outcome PathHead) → number (and_then o (read_on test)) ≡ 0 → and_then o (read_on test) ≡ and_then o (read_on any_size)
    by (gives d) z = passes (test d.k) _ (sound d.k) z
    by (refuses n) z = refl

module _ (bytes : List ℕ) (highest version k : ℕ) (ss : List Stop) (means : read_path bytes highest any_size ≡ gives (path version k ss)) where
  -- ---- what an answer tells, and when a call is accepted

  -- a call whose path is not refused reads that path, whatever version its caller knows, and what it tests in the head passes
  pub path-of : (h : ℕ) (test : ℕ → Outcome Unit) → ((j : ℕ) → number (test j) ≡ 0 → test j ≡ gives tt) → number (read_path bytes h test) ≡ 0
      → (read_path bytes h test ≡ gives (path version k ss)) × (test k ≡ gives tt)
  path-of h test sound z =
      by (read_path bytes h test) refl z (subst Numbered (sym (reads-any bytes h test sound z)) (path-numbered bytes h any_size (λ j. given tt)))
    where
      by : (o : Outcome Path) → read_path bytes h test ≡ o → number o ≡ 0 → Numbered o → (o ≡ gives (path version k ss)) × (test k ≡ gives tt)
      by (gives q) e n i =
          let same = read-once bytes h highest test any_size q.version version q.k k q.stops ss e means in
          let j : q.k ≡ k = ap (λ (p : Path). p.k) same in
          (ap gives same, rw j at (accepted-of bytes h test q.version q.k q.stops e).takes)
      by (refuses n) e z (refusal m i) = let first = i.first in absurd (omega arith)

  pub means-of : (h : ℕ) (test : ℕ → Outcome Unit) → ((j : ℕ) → number (test j) ≡ 0 → test j ≡ gives tt) → number (read_path bytes h test) ≡ 0
      → read_path bytes h any_size ≡ gives (path version k ss)
  means-of h test sound z = read_same bytes h test any_size version k ss (path-of h test sound z).0 refl

  -- for an order and sums the buffers are long enough
  path-is : (order sums : ℕ) → number (read_path bytes highest (screen_room order sums)) ≡ 0
      → (read_path bytes highest (screen_room order sums) ≡ gives (path version k ss)) × (2 ^ k ≤ order) × (2 ^ k ≤ sums)
  path-is order sums z =
      let w = path-of highest (screen_room order sums) (λ j. numbered-sound _ (room-numbered order sums j)) z in
      let l = room-long order sums k (ap number w.1) in
      (w.0, l.0, l.1)

  path-when : (order sums : ℕ) → 2 ^ k ≤ order → 2 ^ k ≤ sums → read_path bytes highest (screen_room order sums) ≡ gives (path version k ss)
  path-when order sums a b = read_same bytes highest any_size (screen_room order sums) version k ss means (room-good order sums k a b)

  pub few : k ≤ max_k
  few = (accepted-of bytes highest any_size version k ss means).small

  -- the first call was accepted exactly for an order that passes and long enough sums, and left the order's sums
  pub record SumsOf (order before sums : List ℕ) : Type 0 where
    pub judged : JudgedOrder k order
    pub long : 2 ^ k ≤ length before
    pub left : sums ≡ over (sums_of (entry_of ss) k (order_in k order)) before

  pub when-made : (order before sums : List ℕ) → SumsAreMade bytes highest order before sums (Ok tt) → SumsOf order before sums
  unfolding group_sums
  when-made order before sums p =
      let z : number (group_sums bytes highest order (length before)) ≡ 0 = done-good (group_sums bytes highest order (length before)) p.said in
      let w = path-is (length order) (length before) (number-first (read_path bytes highest (screen_room (length order) (length before))) _ z) in
      let o : List ℕ = order_in k order in
      let g = judged-good k o (sym (number-giving (sums_of (entry_of ss) k) (judge_order k o)) ∙ rw w.0 at z) in
      record {
        judged = record { small = few; long = w.1; below = g.0; allowed = g.1 };
        long = w.2;
        left = rw (w.0, judge-good k o g.0 g.1) at p.left;
      }

  pub made-when : (order before sums : List ℕ) (r : Result Unit Refusal) → JudgedOrder k order → 2 ^ k ≤ length before → SumsAreMade bytes highest order before sums r
      → (r ≡ Ok tt) × (sums ≡ over (sums_of (entry_of ss) k (order_in k order)) before)
  unfolding group_sums
  made-when order before sums r j long p =
      let w = path-when (length order) (length before) j.long long in
      let g = judge-good k (order_in k order) j.below j.allowed in
      (only-ok r (rw (w, g) at p.said), rw (w, g) at p.left)

  -- the second was accepted exactly for records that pass and a fork, and left the exchanged order and its sums
  pub record Exchanged (fork : ℕ) (order sums order' sums' : List ℕ) : Type 0 where
    pub judged : JudgedOrder k order
    pub long : 2 ^ k ≤ length sums
    pub same : take (2 ^ k) sums ≡ sums_of (entry_of ss) k (order_in k order)
    pub above : 1 ≤ fork
    pub below : fork < 2 ^ k
    pub left_order : order' ≡ over (exchange_fork k (order_in k order) fork) order
    pub left_sums : sums' ≡ over (sums_of (entry_of ss) k (exchange_fork k (order_in k order) fork)) sums

  module _ (fork : ℕ) (order sums order' sums' : List ℕ) where
    -- after the path the records are judged, and then the fork
    by-records : read_path bytes highest (screen_room (length order) (length sums)) ≡ gives (path version k ss)
        → exchange_records bytes highest fork order sums ≡ and_then (judge_records (entry_of ss) k order sums) (fork_exchanged (entry_of ss) k fork)
    unfolding exchange_records
    by-records e = rw e

    -- good records pass
    records-pass : JudgedOrder k order → take (2 ^ k) sums ≡ sums_of (entry_of ss) k (order_in k order) → judge_records (entry_of ss) k order sums ≡ gives (records_of (entry_of ss) k (order_in k order))
    unfolding judge_records with_sums
    records-pass j e = rw (judge-good k (order_in k order) j.below j.allowed, same_alike _ _ e)

    pub when-exchanged : ForkIsExchanged bytes highest fork order sums order' sums' (Ok tt) → Exchanged fork order sums order' sums'
    unfolding exchange_records judge_records with_sums fork_exchanged
    when-exchanged p =
        let z : number (exchange_records bytes highest fork order sums) ≡ 0 = done-good (exchange_records bytes highest fork order sums) p.said in
        let w = path-is (length order) (length sums) (number-first (read_path bytes highest (screen_room (length order) (length sums))) _ z) in
        let y : number (and_then (judge_records (entry_of ss) k order sums) (fork_exchanged (entry_of ss) k fork)) ≡ 0 = sym (ap number (by-records w.0)) ∙ z in
        let x : number (judge_records (entry_of ss) k order sums) ≡ 0 = number-first (judge_records (entry_of ss) k order sums) (fork_exchanged (entry_of ss) k fork) y in
        let o : List ℕ = order_in k order in
        let g = judged-good k o (number-first (judge_order k o) (with_sums (entry_of ss) k sums) x) in
        let sum = passed (alike (take (2 ^ k) sums) (sums_of (entry_of ss) k o)) wrong_total _ (omega arith) (rw (judge-good k o g.0 g.1) at x) in
        let j : JudgedOrder k order = record { small = few; long = w.1; below = g.0; allowed = g.1 } in
        let pass = records-pass j (alike_same _ _ sum.holds) in
        let f = in-fork k fork (passed (is_fork k fork) no_such_fork _ (omega arith) (rw pass at y)).holds in
        let is : exchange_records bytes highest fork order sums ≡ gives (records_of (entry_of ss) k (exchange_fork k o fork)) = by-records w.0 ∙ rw (pass, fork-in k fork f.0 f.1) in
        record {
          judged = j;
          long = w.2;
          same = alike_same _ _ sum.holds;
          above = f.0;
          below = f.1;
          left_order = p.left_order ∙ rw is;
          left_sums = p.left_sums ∙ rw is;
        }

    pub exchanged-when : (r : Result Unit Refusal) → JudgedOrder k order → 2 ^ k ≤ length sums → take (2 ^ k) sums ≡ sums_of (entry_of ss) k (order_in k order)
        → 1 ≤ fork → fork < 2 ^ k → ForkIsExchanged bytes highest fork order sums order' sums' r
        → (r ≡ Ok tt) × Exchanged fork order sums order' sums'
    unfolding fork_exchanged
    exchanged-when r j long same a b p =
        let o : List ℕ = order_in k order in
        let is : exchange_records bytes highest fork order sums ≡ gives (records_of (entry_of ss) k (exchange_fork k o fork))
        = by-records (path-when (length order) (length sums) j.long long) ∙ rw (records-pass j same, fork-in k fork a b) in (
          only-ok r (p.said ∙ rw is),
          record { judged = j; long = long; same = same; above = a; below = b; left_order = p.left_order ∙ rw is; left_sums = p.left_sums ∙ rw is },
        )

  -- ---- the sums

  module _ (order before sums : List ℕ) (call : SumsAreMade bytes highest order before sums (Ok tt)) where
    made : SumsOf order before sums
    made = when-made order before sums call

    o : List ℕ
    o = order_in k order

    front : take (2 ^ k) sums ≡ sums_of (entry_of ss) k o
    unfolding o
    front = rw made.left (over-front (2 ^ k) (sums_of (entry_of ss) k o) before (length-sums_of (entry_of ss) k o))

    at : (v : ℕ) → v < 2 ^ k → get_or sums v 0 ≡ get_or (sums_of (entry_of ss) k o) v 0
    at v l = sym (get_or-take (2 ^ k) sums v 0 l) ∙ ap (λ (s : List ℕ). get_or s v 0) front

    -- '0 in place 0'
    pub made-zero : get_or sums 0 0 ≡ 0
    made-zero = at 0 (pow_pos k) ∙ sums-zero (entry_of ss) k o

    -- 'that of fork v in place v'
    pub made-fork : (v : ℕ) → 1 ≤ v → v < 2 ^ k → get_or sums v 0 ≡ inner_travel (entry_of ss) k (order_in k order) v
    unfolding o
    made-fork v a b = at v b ∙ sums-fork (entry_of ss) k o v a b

    -- that of the root is the order's total
    pub made-root : 1 < 2 ^ k → get_or sums 1 0 ≡ total (entry_of ss) (order_in k order)
    made-root l = made-fork 1 (omega arith) l ∙ travel-root (entry_of ss) k (order_in k order) made.judged.allowed

    -- that of a fork is those of its two sides and the move between them
    pub made-sides : (v : ℕ) → 1 ≤ v → v < 2 ^ k → get_or sums v 0 ≡ sum_by (2 ^ k) sums v (move_into (entry_of ss) (order_in k order) (between k (order_in k order) v))
    unfolding o
    made-sides v a b =
        at v b ∙ sums-add (entry_of ss) k o made.judged.allowed v a b
        ∙ ap (λ (s : List ℕ). sum_by (2 ^ k) s v (move_into (entry_of ss) o (between k o v))) (sym front)
        ∙ sum_by-take (2 ^ k) sums v (move_into (entry_of ss) o (between k o v))

  -- ---- an exchange

  module _ (fork : ℕ) (order sums order' sums' : List ℕ) (call : ForkIsExchanged bytes highest fork order sums order' sums' (Ok tt)) where
    e : Exchanged fork order sums order' sums'
    e = when-exchanged fork order sums order' sums' call

    o' : List ℕ
    o' = exchange_fork k (order_in k order) fork

    -- 'the order has that fork alone inverted': the exchanged order is the one with that set of one fork exchanged
    pub exchanged-order : order_in k order' ≡ exchange_fork k (order_in k order) fork
    exchanged-order = rw e.left_order (over-front (2 ^ k) (exchange_fork k (order_in k order) fork) order (length-exchange k (order_in k order) (2 ^ fork)))

    -- so the states of its forks are those of before, but for that fork
    pub exchanged-forks : forks_of k (order_in k order') ≡ bit_xor (forks_of k (order_in k order)) (2 ^ fork)
    exchanged-forks = ap (forks_of k) exchanged-order ∙ forks_of-exchange k (order_in k order) e.judged.allowed (2 ^ fork) (fork-forks k fork e.above e.below)

    pub order-passes : JudgedOrder k order'
    order-passes = rw e.left_order (holds-order k (exchange_fork k (order_in k order) fork) order few (exchange-allowed k (order_in k order) (2 ^ fork)))

    pub new-sums : take (2 ^ k) sums' ≡ sums_of (entry_of ss) k (order_in k order')
    unfolding o'
    new-sums =
        rw (exchanged-order, e.left_sums) (over-front (2 ^ k) (sums_of (entry_of ss) k o') sums (length-sums_of (entry_of ss) k o'))

    pub sums-long : 2 ^ k ≤ length sums'
    unfolding o'
    sums-long = rw e.left_sums (over-long (2 ^ k) (sums_of (entry_of ss) k o') sums (length-sums_of (entry_of ss) k o'))

    -- 'the sums equal those made afresh': the first call with the new order is accepted, and leaves them
    pub exchanged-afresh : (room made : List ℕ) (r : Result Unit Refusal) → 2 ^ k ≤ length room → SumsAreMade bytes highest order' room made r
        → (r ≡ Ok tt) × (made ≡ over (take (2 ^ k) sums') room)
    exchanged-afresh room made r fits p =
        let w = made-when order' room made r order-passes fits p in
        (w.0, w.1 ∙ ap (λ (s : List ℕ). over s room) (sym new-sums))

    -- 'and change only at that fork and the forks above it'
    pub exchanged-others : (u : ℕ) → u < 2 ^ k → ((i : ℕ) → fork / 2 ^ i ≢ u) → get_or sums' u 0 ≡ get_or sums u 0
    exchanged-others u b away = go u b away
      where
        new : (w : ℕ) → w < 2 ^ k → get_or sums' w 0 ≡ get_or (sums_of (entry_of ss) k (exchange_fork k (order_in k order) fork)) w 0
        new w l = sym (get_or-take (2 ^ k) sums' w 0 l) ∙ ap (λ (s : List ℕ). get_or s w 0) (new-sums ∙ ap (sums_of (entry_of ss) k) exchanged-order)

        old : (w : ℕ) → w < 2 ^ k → get_or (sums_of (entry_of ss) k (order_in k order)) w 0 ≡ get_or sums w 0
        old w l = sym (sym (get_or-take (2 ^ k) sums w 0 l) ∙ ap (λ (s : List ℕ). get_or s w 0) e.same)

        go : (w : ℕ) → w < 2 ^ k → ((i : ℕ) → fork / 2 ^ i ≢ w) → get_or sums' w 0 ≡ get_or sums w 0
        go zero l n = new 0 l ∙ sums-zero (entry_of ss) k (exchange_fork k (order_in k order) fork) ∙ sym (sums-zero (entry_of ss) k (order_in k order)) ∙ old 0 l
        go (suc w) l n =
            new (suc w) l ∙ sums-fork (entry_of ss) k (exchange_fork k (order_in k order) fork) (suc w) (omega arith) l
            ∙ travel-other (entry_of ss) k (order_in k order) e.judged.allowed fork e.above e.below (exchange-allowed k (order_in k order) (2 ^ fork)) (suc w) (omega arith) l n
            ∙ sym (sums-fork (entry_of ss) k (order_in k order) (suc w) (omega arith) l) ∙ old (suc w) l

    -- the same fork exchanged again gives order and sums back
    pub exchanged-back : (order'' sums'' : List ℕ) (r : Result Unit Refusal) → ForkIsExchanged bytes highest fork order' sums' order'' sums'' r
        → (r ≡ Ok tt) × (order'' ≡ order) × (sums'' ≡ sums)
    exchanged-back order'' sums'' r p =
        let o : List ℕ = order_in k order in
        let w = exchanged-when fork order' sums' order'' sums'' r order-passes sums-long new-sums e.above e.below p in
        let back : exchange_fork k (order_in k order') fork ≡ o = ap (λ (x : List ℕ). exchange_fork k x fork) exchanged-order ∙ exchange-back k o e.judged.allowed (2 ^ fork) in (
          w.0,
          w.1.left_order ∙ ap (λ (x : List ℕ). over x order') back ∙ over-back (2 ^ k) order order' (exchange_fork k o fork) (length-exchange k o (2 ^ fork)) e.judged.long e.left_order,
          w.1.left_sums ∙ ap (λ (x : List ℕ). over (sums_of (entry_of ss) k x) sums') back ∙ ap (λ (x : List ℕ). over x sums') (sym e.same)
              ∙ over-back (2 ^ k) sums sums' (sums_of (entry_of ss) k (exchange_fork k o fork)) (length-sums_of (entry_of ss) k (exchange_fork k o fork)) e.long e.left_sums,
        )
