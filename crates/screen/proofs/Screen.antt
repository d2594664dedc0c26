-- Laws of the two calls: what each promises after a refusal and after success, from the path's judgement on.
use mathlib.Core.Path.{◌≡◌, refl, sym, ap, ◌∙◌}
use mathlib.Core.Bool.{true}
use mathlib.Core.List.{List}
use Prim.Native.Nat.{ℕ, ◌^◌, ◌≤◌, ◌<◌, min}
use native.Mathlib.Nat.{min-le_left, min-le_right, le-min}
use native.Mathlib.Decide.{dec_lt}
use native.Mathlib.Omega.{arith}
use lib.Dec.{leb}
use lib.ListN.{length}
use borrow.Author.Tests.{le-leb, lt-leb, leb-true}
use Rattle.base.specs.Refusal.{wrong_size, refusal_number}
use Rattle.std.specs.Prelude.{Ok, Err}
use Rattle.base.specs.declared.Refusal.{Refusal}
use Rattle.base.specs.Outcome.{Outcome, gives, refuses, and_then, giving, done, number, over}
use Rattle.base.specs.Size.{max_k}
use Rattle.base.proofs.Numbered.{Numbered, given, need-numbered}
use Rattle.base.proofs.Outcome.{passed, refused-giving, done-good, done-refused}
use Rattle.path.specs.declared.PathBytes.{PathBytes}
use Rattle.path.specs.Bytes.{heading_of}
use Rattle.path.specs.Path.{path, read_path, stops_in}
use Rattle.path.specs.Reading.{heading}
use Rattle.path.proofs.JudgeLaws.{JudgedBody, path-tests, path-good}
use Rattle.times.specs.InPath.{time_in}
use Rattle.times.specs.Table.{entry_of}
use Rattle.times.proofs.InPath.{time-in-path}
use Rattle.orders.specs.Allowed.{judge_order}
use Rattle.orders.specs.Lent.{order_in, lent_order, JudgedOrder}
use Rattle.orders.proofs.Allowed.{judge-good}
use Rattle.orders.proofs.Lent.{lent-contents, lent-judged}
use Rattle.groups.specs.Exchange.{exchange_fork}
use Rattle.groups.proofs.Exchange.{exchange-allowed}
use Rattle.group_sums.specs.Travel.{sums_of}
use Rattle.group_sums.proofs.Travel.{sums_same}
use Rattle.screen.specs.Records.{Records, judge_records, lent_records, fork_exchanged}
use Rattle.screen.specs.Screen.{screen_room, places_room, group_sums, exchange_records, SumsAreMade, ForkIsExchanged}
use Rattle.screen.specs.Times.{times_of}
use Rattle.screen.proofs.Records.{GoodRecords, exchange-given, records-contents, records-times}

-- ---- the path and the lengths

-- the test of places
pub places-few : (places k : ℕ) → places < 2 ^ k → places_room places k ≡ refuses wrong_size
unfolding places_room
places-few places k h = rw (lt-leb _ _ h)

pub places-good : (places k : ℕ) → 2 ^ k ≤ places → places_room places k ≡ gives tt
unfolding places_room
places-good places k h = rw (le-leb _ _ h)

-- places that are not refused suffice
pub places-long : (places k : ℕ) → number (places_room places k) ≡ 0 → 2 ^ k ≤ places
unfolding places_room
places-long places k e = leb-true _ _ (passed (leb (2 ^ k) places) wrong_size (gives tt) (omega arith) e).holds

-- the test of the lengths of an order and its sums
pub room-good : (order sums k : ℕ) → 2 ^ k ≤ order → 2 ^ k ≤ sums → screen_room order sums k ≡ gives tt
unfolding screen_room
room-good order sums k h l = rw (le-leb _ _ h, le-leb _ _ l)

pub room-places : (order sums k : ℕ) → screen_room order sums k ≡ places_room (min order sums) k
unfolding screen_room
room-places order sums k = go (dec_lt order (2 ^ k)) (dec_lt sums (2 ^ k))
  where
    go : Dec (order < 2 ^ k) → Dec (sums < 2 ^ k) → screen_room order sums k ≡ places_room (min order sums) k
    go (yes a) _ = rw (lt-leb _ _ a) (sym (places-few _ k (omega (arith, min-le_left order sums))))
    go (no a) (yes b) = let l : 2 ^ k ≤ order = omega arith in rw (le-leb _ _ l, lt-leb _ _ b) (sym (places-few _ k (omega (arith, min-le_right order sums))))
    go (no a) (no b) =
        let l : 2 ^ k ≤ order = omega arith in
        let m : 2 ^ k ≤ sums = omega arith in
        room-good order sums k l m ∙ sym (places-good _ k (le-min l m))

-- lengths that are not refused suffice
pub room-long : (order sums k : ℕ) → number (screen_room order sums k) ≡ 0 → (2 ^ k ≤ order) × (2 ^ k ≤ sums)
room-long order sums k e =
    let l = places-long (min order sums) k (sym (ap number (room-places order sums k)) ∙ e) in
    (omega (arith, l, min-le_left order sums), omega (arith, l, min-le_right order sums))

-- a refusal of theirs has a number of the table
pub room-numbered : (order sums k : ℕ) → Numbered (screen_room order sums k)
unfolding screen_room
room-numbered order sums k =
    need-numbered (leb (2 ^ k) order) wrong_size _ (omega arith) (omega arith) (need-numbered (leb (2 ^ k) sums) wrong_size (gives tt) (omega arith) (omega arith) (given tt))

module _ (bytes : List ℕ) (highest : ℕ) (test : ℕ → Outcome Unit) where
  -- a path that passed: its stops, long enough buffers, and times that come straight from its bytes
  pub record GoodPath (p₀ : PathBytes) : Type 0 where
    pub reads : read_path bytes highest test ≡ gives (path p₀.version p₀.k (stops_in p₀.version (2 ^ p₀.k) bytes))
    pub body : JudgedBody bytes p₀.version p₀.k
    pub small : p₀.k ≤ max_k
    pub takes : test p₀.k ≡ gives tt
    pub times : (i j : ℕ) → i < 2 ^ p₀.k → j < 2 ^ p₀.k → times_of p₀ i j ≡ entry_of (stops_in p₀.version (2 ^ p₀.k) bytes) i j

  -- where the lengths are tested by a count of places
  module _ (places : ℕ) (agrees : (k : ℕ) → test k ≡ places_room places k) (count : ℕ) (same : count ≡ places) where
    by-test : read_path bytes highest (places_room count) ≡ read_path bytes highest test
    by-test = ap (λ (x : ℕ). read_path bytes highest (places_room x)) same ∙ sym (path-tests bytes highest test (places_room places) agrees)

    pub good-path : (p : PathBytes) → gives (heading_of p) ≡ giving heading (read_path bytes highest (places_room count)) → p.bytes.now ≡ bytes → GoodPath p
    good-path p e b =
        let g = path-good bytes highest test p (e ∙ ap (giving heading) by-test) in
        record {
          reads = g.reads;
          body = g.body;
          small = g.body.small;
          takes = g.takes;
          times = λ i j l m. ap (λ (x : List ℕ). time_in p.version x i j) b ∙ time-in-path p.version (2 ^ p.k) bytes g.body.range i j l m;
        }

    -- one that was refused
    pub bad-path : (n : ℕ) → refuses n ≡ giving heading (read_path bytes highest (places_room count)) → read_path bytes highest test ≡ refuses n
    bad-path n e = sym by-test ∙ refused-giving heading (read_path bytes highest (places_room count)) n (sym e)

module _ (bytes : List ℕ) (highest : ℕ) (order sums : List ℕ) where
  pub sums-bad-path : (n : ℕ) → read_path bytes highest (screen_room (length order) (length sums)) ≡ refuses n → group_sums bytes highest order (length sums) ≡ refuses n
  unfolding group_sums
  sums-bad-path n e = rw e

  pub fork-bad-path : (fork n : ℕ) → read_path bytes highest (screen_room (length order) (length sums)) ≡ refuses n → exchange_records bytes highest fork order sums ≡ refuses n
  unfolding exchange_records
  fork-bad-path fork n e = rw e

  -- ---- the sums

  -- what a refusal promises: the number, and nothing written
  pub sums-refused : (r : Refusal) → group_sums bytes highest order (length sums) ≡ refuses (refusal_number r) → SumsAreMade bytes highest order sums sums (Err r)
  sums-refused r e = record { said = rw e; left = rw e }

  module _ (p₀ : PathBytes) (p : GoodPath bytes highest (screen_room (length order) (length sums)) p₀) where
    pub long-both : (2 ^ p₀.k ≤ length order) × (2 ^ p₀.k ≤ length sums)
    long-both = room-long (length order) (length sums) p₀.k (ap number p.takes)

    t : ℕ → ℕ → ℕ
    t = times_of p₀

    u : ℕ → ℕ → ℕ
    u = entry_of (stops_in p₀.version (2 ^ p₀.k) bytes)

    -- the order decides
    by_order : group_sums bytes highest order (length sums) ≡ giving (sums_of u p₀.k) (judge_order p₀.k (order_in p₀.k order))
    unfolding group_sums u
    by_order = rw p.reads

    contents : lent_order p₀.k order true ≡ judge_order p₀.k (order_in p₀.k order)
    contents = lent-contents p₀.k order true p.small long-both.0 refl

    pub order-refused : (n : ℕ) → refuses n ≡ done (lent_order p₀.k order true) → group_sums bytes highest order (length sums) ≡ refuses n
    order-refused n e = by_order ∙ rw (done-refused (judge_order p₀.k (order_in p₀.k order)) n (e ∙ ap done contents))

    pub order-judged : gives tt ≡ done (lent_order p₀.k order true) → JudgedOrder p₀.k order
    order-judged e = (lent-judged p₀.k order true (done-good (lent_order p₀.k order true) e)).0

    -- what success promises
    pub sums-made : (sums' : List ℕ) → JudgedOrder p₀.k order → sums' ≡ over (sums_of (times_of p₀) p₀.k (order_in p₀.k order)) sums → SumsAreMade bytes highest order sums sums' (Ok tt)
    unfolding u t
    sums-made sums' j e =
        let o : List ℕ = order_in p₀.k order in
        let is : group_sums bytes highest order (length sums) ≡ gives (sums_of u p₀.k o) = by_order ∙ rw (judge-good p₀.k o j.below j.allowed) in
        record { said = rw is; left = rw is (e ∙ ap (λ (s : List ℕ). over s sums) (sums_same t u p₀.k o j.allowed p.times)) }

    -- ---- an exchange

    module _ (fork : ℕ) where
      fork-times : (r : Records) → fork_exchanged t p₀.k fork r ≡ fork_exchanged u p₀.k fork r
      unfolding fork_exchanged t u
      fork-times r = rw (sums_same t u p₀.k (exchange_fork p₀.k r.order fork) (exchange-allowed p₀.k r.order (2 ^ fork)) p.times)

      -- the definition by the path's stops is that by its bytes
      pub by_bytes : exchange_records bytes highest fork order sums ≡ and_then (lent_records (times_of p₀) p₀.k order sums) (fork_exchanged (times_of p₀) p₀.k fork)
      unfolding exchange_records t u
      by_bytes =
          rw (p.reads, records-contents t p₀.k order sums p.small long-both.0 long-both.1, records-times t u p₀.k order sums p.times)
          (later (judge_records u p₀.k order sums))
        where
          later : (r : Outcome Records) → and_then r (fork_exchanged u p₀.k fork) ≡ and_then r (fork_exchanged t p₀.k fork)
          later (gives r) = sym (fork-times r)
          later (refuses n) = refl

-- what a refusal promises: the number, and nothing written
pub fork-refused : (bytes : List ℕ) (highest fork : ℕ) (order sums : List ℕ) (r : Refusal) → exchange_records bytes highest fork order sums ≡ refuses (refusal_number r)
    → ForkIsExchanged bytes highest fork order sums order sums (Err r)
fork-refused bytes highest fork order sums r e = record { said = rw e; left_order = rw e; left_sums = rw e }

-- and what success does
pub fork-made : (bytes : List ℕ) (highest fork : ℕ) (order sums order' sums' : List ℕ) (p₀ : PathBytes) → GoodPath bytes highest (screen_room (length order) (length sums)) p₀
    → GoodRecords (times_of p₀) p₀.k order sums → 1 ≤ fork → fork < 2 ^ p₀.k
    → order' ≡ over (exchange_fork p₀.k (order_in p₀.k order) fork) order → sums' ≡ over (sums_of (times_of p₀) p₀.k (exchange_fork p₀.k (order_in p₀.k order) fork)) sums
    → ForkIsExchanged bytes highest fork order sums order' sums' (Ok tt)
fork-made bytes highest fork order sums order' sums' p₀ p g a b x y =
    let is = by_bytes bytes highest order sums p₀ p fork ∙ exchange-given (times_of p₀) p₀.k fork order sums g a b in
    record { said = rw is; left_order = rw is x; left_sums = rw is y }
