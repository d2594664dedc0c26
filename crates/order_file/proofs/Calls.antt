-- Laws of the calls: which test decides, what is known of an accepted file, and what each call promises after a refusal and after success.
use mathlib.Core.Path.{◌≡◌, sym, ap, ◌∙◌}
use mathlib.Core.Bool.{Bool, true, false, ◌&&◌}
use mathlib.Core.List.{List}
use Prim.Native.Nat.{ℕ, ◌*◌, ◌^◌, ◌≤◌, ◌<◌}
use native.Mathlib.Omega.{arith}
use lib.Dec.{leb, eqb}
use lib.ListN.{length}
use borrow.Author.Tests.{le-leb, lt-leb, leb-true, eq-eqb, ne_eqb, eqb-true}
use Rattle.std.specs.Prelude.{Ok, Err}
use Rattle.base.specs.declared.Refusal.{Refusal}
use Rattle.base.specs.Refusal.{refusal_number, wrong_k, wrong_size, wrong_forks, wrong_total}
use Rattle.base.specs.Outcome.{Outcome, gives, refuses, need, giving, done, number, over}
use Rattle.base.specs.Size.{max_k}
use Rattle.base.proofs.Bools.{both}
use Rattle.base.proofs.Outcome.{passed, number-giving, number-first, giving-giving}
use Rattle.tree.specs.Total.{entry, total}
use Rattle.orders.specs.Same.{alike}
use Rattle.orders.specs.Allowed.{is_allowed, forks_of, judge_order}
use Rattle.orders.specs.Bits.{byte_count, bit_string}
use Rattle.orders.specs.Lent.{order_in, order_fits, bits_fit, table_fits, lent_order, JudgedOrder}
use Rattle.orders.specs.ForkBits.{fork_bits}
use Rattle.orders.proofs.Same.{alike_same, same_alike}
use Rattle.orders.proofs.Allowed.{judge-good, judged-good, allowed-below}
use Rattle.orders.proofs.Calls.{done-refused}
use Rattle.orders.proofs.Lent.{lent-k, lent-others, lent_same, lent-judged, lent_gives}
use Rattle.order_file.specs.File.{file_for, file_size}
use Rattle.order_file.specs.Reading.{Contents, read_records, judge_string, unsummed, judge_file}
use Rattle.order_file.specs.Write as write
use Rattle.order_file.specs.Read as read
use Rattle.order_file.proofs.Stages as stage

-- ---- an order and the fork string beside it

module _ (k : ℕ) (order string : List ℕ) where
  -- 9 and 10 are the order's
  pub string-order : (r : ℕ) → judge_order k order ≡ refuses r → judge_string k order string ≡ refuses r
  unfolding judge_string
  string-order r e = rw e

  -- then 12
  pub string-other : is_allowed k order ≡ true → alike string (bit_string k (forks_of k order)) ≡ false → judge_string k order string ≡ refuses wrong_forks
  unfolding judge_string
  string-other a e = rw (judge-good k order (allowed-below k order a) a, e)

  pub string-good : is_allowed k order ≡ true → alike string (bit_string k (forks_of k order)) ≡ true → judge_string k order string ≡ gives order
  unfolding judge_string
  string-good a e = rw (judge-good k order (allowed-below k order a) a, e)

  -- what is known where none of them is found
  pub string-accepted : number (judge_string k order string) ≡ 0 → (is_allowed k order ≡ true) × (string ≡ bit_string k (forks_of k order))
  unfolding judge_string
  string-accepted z =
      let test : List ℕ → Outcome (List ℕ) = λ o. need (alike string (bit_string k (forks_of k o))) wrong_forks (gives o) in
      let good = judged-good k order (number-first (judge_order k order) test z) in
      let own = passed (alike string (bit_string k (forks_of k order))) wrong_forks (gives order) (omega arith) (rw (judge-good k order good.0 good.1) at z) in
      (good.1, alike_same _ _ own.holds)

-- ---- a file without its total

module _ (k : ℕ) (file : List ℕ) where
  -- a file whose records are not
  pub unsummed-string : stage.Whole k file → unsummed k file ≡ giving (λ o. stage.says k file) (judge_string k (stage.stops k file) (stage.string k file))
  unfolding unsummed
  unsummed-string w = rw (stage.whole_says k file w)

  pub unsummed-done : stage.Whole k file → done (unsummed k file) ≡ done (judge_string k (stage.stops k file) (stage.string k file))
  unsummed-done w =
      ap done (unsummed-string w) ∙ giving-giving (λ o. stage.says k file) (λ f. tt) (judge_string k (stage.stops k file) (stage.string k file))

  -- what is known of an accepted file
  pub record Accepted : Type 0 where
    pub whole : stage.Whole k file
    pub allowed : is_allowed k (stage.stops k file) ≡ true
    pub own : stage.string k file ≡ bit_string k (forks_of k (stage.stops k file))

  pub unsummed-accepted : number (unsummed k file) ≡ 0 → Accepted
  unfolding unsummed
  unsummed-accepted z =
      let w = stage.whole k file (number-first (read_records k file) (λ f. giving (λ o. f) (judge_string k f.order f.string)) z) in
      let s = string-accepted k (stage.stops k file) (stage.string k file)
      (sym (number-giving (λ o. stage.says k file) (judge_string k (stage.stops k file) (stage.string k file))) ∙ ap number (sym (unsummed-string w)) ∙ z) in
      record { whole = w; allowed = s.0; own = s.1 }

  pub unsummed-gives : Accepted → unsummed k file ≡ gives (stage.says k file)
  unfolding unsummed
  unsummed-gives a =
      rw (stage.whole_says k file a.whole, string-good k (stage.stops k file) (stage.string k file) a.allowed (same_alike _ _ a.own))

-- ---- a file with its total

module _ (k : ℕ) (t : ℕ → ℕ → ℕ) (file : List ℕ) where
  pub file-unsummed : (n : ℕ) → refuses n ≡ done (unsummed k file) → refuses n ≡ done (judge_file k t file)
  unfolding judge_file
  file-unsummed n e = rw (done-refused (unsummed k file) n e)

  pub file-other : Accepted k file → (stage.total k file ≡ total t (stage.stops k file) → ⊥) → judge_file k t file ≡ refuses wrong_total
  unfolding judge_file
  file-other a e = rw (unsummed-gives k file a, ne_eqb _ _ e)

  pub file-gives : Accepted k file → stage.total k file ≡ total t (stage.stops k file) → judge_file k t file ≡ gives (stage.says k file)
  unfolding judge_file
  file-gives a e = rw (unsummed-gives k file a, eq-eqb _ _ e)

  pub file-accepted : number (judge_file k t file) ≡ 0 → Accepted k file × (stage.total k file ≡ total t (stage.stops k file))
  unfolding judge_file
  file-accepted z =
      let test : Contents → Outcome Contents = λ f. need (eqb f.total (total t f.order)) wrong_total (gives f) in
      let a = unsummed-accepted k file (number-first (unsummed k file) test z) in
      let own = passed (eqb (stage.total k file) (total t (stage.stops k file))) wrong_total (gives (stage.says k file)) (omega arith) (rw (unsummed-gives k file a) at z) in
      (a, eqb-true _ _ own.holds)

-- ---- reading without a table

module _ (k : ℕ) (file : List ℕ) (places : ℕ) where
  pub unsummed-contents : k ≤ max_k → 2 ^ k ≤ places → read.read_unsummed k file places ≡ unsummed k file
  unfolding read.read_unsummed
  unsummed-contents h s = rw (le-leb _ _ h, le-leb _ _ s)

  pub unsummed-lent : number (read.read_unsummed k file places) ≡ 0 → (k ≤ max_k) × (2 ^ k ≤ places) × (number (unsummed k file) ≡ 0)
  unfolding read.read_unsummed
  unsummed-lent e =
      let small = passed (leb k max_k) wrong_k _ (omega arith) e in
      let long = passed (order_fits k places) wrong_size _ (omega arith) small.goes_on in
      (leb-true _ _ small.holds, leb-true _ _ long.holds, long.goes_on)

module _ (k : ℕ) (file order : List ℕ) where
  -- a file that is refused
  pub unsummed-refused : (r : Refusal) → read.read_unsummed k file (length order) ≡ refuses (refusal_number r) → read.FileIsUnsummed k file order order (Err r)
  unsummed-refused r o = record { said = rw o; left = rw o }

  -- a file that is read
  pub unsummed-read : (sum : ℕ) (order' : List ℕ) → read.read_unsummed k file (length order) ≡ gives (stage.says k file)
      → sum ≡ stage.total k file → order' ≡ over (stage.stops k file) order → read.FileIsUnsummed k file order order' (Ok sum)
  unsummed-read sum order' o t w = record { said = rw o (ap gives t); left = rw o w }

-- ---- reading with a table

module _ (k : ℕ) (table file : List ℕ) (places room : ℕ) where
  pub read_table : k ≤ max_k → (length table ≡ 2 ^ k * 2 ^ k → ⊥) → read.read_file k table file places room ≡ refuses wrong_size
  unfolding read.read_file
  read_table h t = rw (le-leb _ _ h, ne_eqb _ _ t)

  -- what is known where the lent lengths suffice
  pub record Lent : Type 0 where
    pub small : k ≤ max_k
    pub square : length table ≡ 2 ^ k * 2 ^ k
    pub order-fits : 2 ^ k ≤ places
    pub bits_fit : byte_count (2 ^ k) ≤ room

  pub read-contents : Lent → read.read_file k table file places room ≡ judge_file k (entry (2 ^ k) table) file
  unfolding read.read_file
  read-contents l = rw (le-leb _ _ l.small, eq-eqb _ _ l.square, le-leb _ _ l.order-fits, le-leb _ _ l.bits_fit)

  pub read-lent : number (read.read_file k table file places room) ≡ 0 → Lent × (number (judge_file k (entry (2 ^ k) table) file) ≡ 0)
  unfolding read.read_file
  read-lent e =
      let small = passed (leb k max_k) wrong_k _ (omega arith) e in
      let square = passed (table_fits k (length table)) wrong_size _ (omega arith) small.goes_on in
      let fits = passed (order_fits k places) wrong_size _ (omega arith) square.goes_on in
      let bytes = passed (bits_fit k room) wrong_size _ (omega arith) fits.goes_on in (
        record {
          small = leb-true _ _ small.holds;
          square = eqb-true _ _ square.holds;
          order-fits = leb-true _ _ fits.holds;
          bits_fit = leb-true _ _ bytes.holds;
        },
        bytes.goes_on,
      )

module _ (k : ℕ) (table file order bits : List ℕ) where
  -- a file that is refused
  pub read-refused : (r : Refusal) → refuses (refusal_number r) ≡ done (read.read_file k table file (length order) (length bits)) → read.FileIsRead k table file order order bits bits (Err r)
  read-refused r e =
      let o = done-refused (read.read_file k table file (length order) (length bits)) (refusal_number r) e in
      record { said = rw o; order_left = rw o; bits_left = rw o }

  -- a file that is accepted is the outcome
  pub read-gives : number (read.read_file k table file (length order) (length bits)) ≡ 0 → read.read_file k table file (length order) (length bits) ≡ gives (stage.says k file)
  read-gives e =
      let l = read-lent k table file (length order) (length bits) e in
      let a = file-accepted k (entry (2 ^ k) table) file l.1 in
      read-contents k table file (length order) (length bits) l.0 ∙ file-gives k (entry (2 ^ k) table) file a.0 a.1

  -- and is read
  pub read_made : (sum : ℕ) (order' bits' : List ℕ) → number (read.read_file k table file (length order) (length bits)) ≡ 0
      → sum ≡ stage.total k file → order' ≡ over (stage.stops k file) order → bits' ≡ over (stage.string k file) bits
      → read.FileIsRead k table file order order' bits bits' (Ok sum)
  read_made sum order' bits' e t w v =
      let o = read-gives e in
      record { said = rw o (ap gives t); order_left = rw o w; bits_left = rw o v }

-- ---- writing

module _ (k : ℕ) (order table : List ℕ) (room : ℕ) where
  -- its number is that of the lent order and lengths
  pub write-number : number (write.write_file k order table room) ≡ number (lent_order k order (table_fits k (length table) && leb (file_size (2 ^ k)) room))
  unfolding write.write_file
  write-number = number-giving (file_for k (entry (2 ^ k) table)) (lent_order k order (table_fits k (length table) && leb (file_size (2 ^ k)) room))

  -- which test decides: k, the other lengths, then the order, whose fork bits are refused alike
  abbrev fits : Bool
  fits = table_fits k (length table) && leb (file_size (2 ^ k)) room

  pub write-k : max_k < k → write.write_file k order table room ≡ refuses wrong_k
  unfolding write.write_file
  write-k h = rw (lent-k k order fits h)

  pub write-table : k ≤ max_k → (length table ≡ 2 ^ k * 2 ^ k → ⊥) → write.write_file k order table room ≡ refuses wrong_size
  unfolding write.write_file
  write-table h t = rw (lent-others k order fits h (rw (ne_eqb _ _ t)))

  pub write-room : k ≤ max_k → length table ≡ 2 ^ k * 2 ^ k → room < file_size (2 ^ k) → write.write_file k order table room ≡ refuses wrong_size
  unfolding write.write_file
  write-room h t s = rw (lent-others k order fits h (rw (eq-eqb _ _ t) (lt-leb _ _ s)))

  pub write-bits : (size : ℕ) → k ≤ max_k → length table ≡ 2 ^ k * 2 ^ k → file_size (2 ^ k) ≤ room → byte_count (2 ^ k) ≤ size
      → done (write.write_file k order table room) ≡ done (fork_bits k order size)
  unfolding write.write_file fork_bits
  write-bits size h t s b =
      giving-giving (file_for k (entry (2 ^ k) table)) (λ a. tt) (lent_order k order fits)
      ∙ ap done (lent_same k order fits (bits_fit k size) (λ h. rw (eq-eqb _ _ t, le-leb _ _ s) (sym (le-leb _ _ b))))
      ∙ sym (giving-giving (λ o. bit_string k (forks_of k o)) (λ a. tt) (lent_order k order (bits_fit k size)))

  -- what an accepted order has
  pub record Writes : Type 0 where
    pub judged : JudgedOrder k order
    pub square : length table ≡ 2 ^ k * 2 ^ k
    pub long : file_size (2 ^ k) ≤ room

  pub write-judged : number (write.write_file k order table room) ≡ 0 → Writes
  write-judged e =
      let w = lent-judged k order (table_fits k (length table) && leb (file_size (2 ^ k)) room) (sym write-number ∙ e) in
      let f = both (table_fits k (length table)) (leb (file_size (2 ^ k)) room) w.1 in
      record { judged = w.0; square = eqb-true _ _ f.0; long = leb-true _ _ f.1 }

  -- and gives
  pub write-gives : Writes → write.write_file k order table room ≡ gives (file_for k (entry (2 ^ k) table) (order_in k order))
  unfolding write.write_file
  write-gives w =
      let good : (table_fits k (length table) && leb (file_size (2 ^ k)) room) ≡ true = rw (eq-eqb _ _ w.square) (le-leb _ _ w.long) in
      rw (lent_gives k order (table_fits k (length table) && leb (file_size (2 ^ k)) room) w.judged good)

module _ (k : ℕ) (order table before : List ℕ) where
  -- a file that is not written
  pub write-refused : (r : Refusal) → refuses (refusal_number r) ≡ done (write.write_file k order table (length before)) → write.FileIsWritten k order table before before (Err r)
  write-refused r e = let o = done-refused (write.write_file k order table (length before)) (refusal_number r) e in record { said = rw o; left = rw o }

  -- a file that is
  pub write-made : (size : ℕ) (afterwards : List ℕ) → Writes k order table (length before) → size ≡ length (file_for k (entry (2 ^ k) table) (order_in k order))
      → afterwards ≡ over (file_for k (entry (2 ^ k) table) (order_in k order)) before
      → write.FileIsWritten k order table before afterwards (Ok size)
  write-made size afterwards w s a =
      let o = write-gives k order table (length before) w in
      record { said = rw o (ap gives s); left = rw o a }
