-- What the three calls come to. 'Path, order and sums pass their tests first'.
use Rattle.std.specs.Prelude.{◌≡◌, List, ℕ, ◌-◌, leb, length, set, replicate, Result}
use Rattle.base.specs.Refusal.{wrong_size}
use Rattle.base.specs.Outcome.{Outcome, gives, need, and_then, done, said, left, after}
use Rattle.base.specs.Buffer.{Unsigned, SharedUnsigned, at_entry, at_exit, contents}
use Rattle.path.specs.Path.{read_path}
use Rattle.times.specs.Table.{entry_of}
use Rattle.base.specs.declared.Refusal.{Refusal}
use Rattle.screen.specs.Records.{Records, judge_records}
use Rattle.named.specs.Names.{names, used, under, named_room, named, kept_under}

-- what is lent for all names: marks, stops and sums
pub record Kept : Type 0 where
  pub marks : List ℕ
  pub stops : List ℕ
  pub sums : List ℕ

-- the lengths of the screen's records and of what is kept suffice
abbrev pub room_for : Records → Kept → ℕ → Outcome Unit
room_for shown kept = named_room (length kept.marks) (length kept.stops) (length kept.sums) (length shown.order) (length shown.sums)

-- what is kept: the screen's records, after the path, 9, 10, 11 and 15. 'Keeping under a used name replaces what was there': it is not looked at
unfoldable pub keep_records : (bytes : List ℕ) (highest name : ℕ) (shown : Records) (kept : Kept) → Outcome Records
keep_records bytes highest name shown kept =
    and_then (read_path bytes highest (room_for shown kept)) (λ p.
    and_then (judge_records (entry_of p.stops) p.k shown.order shown.sums) (named name))

-- what comes back: the same tests, then 16, then 9, 10 and 11 of what was kept
unfoldable pub come_back : (bytes : List ℕ) (highest name : ℕ) (shown : Records) (kept : Kept) → Outcome Records
come_back bytes highest name shown kept =
    and_then (read_path bytes highest (room_for shown kept)) (λ p.
    and_then (and_then (judge_records (entry_of p.stops) p.k shown.order shown.sums) (named name)) (λ _.
    kept_under (entry_of p.stops) p.k name kept.marks kept.stops kept.sums))

-- 'a call that takes the marks alone and sets the 8 to 0'
unfoldable pub clear_marks : (size : ℕ) → Outcome Unit
clear_marks size = need (leb names size) wrong_size (gives tt)

-- the promise of keeping: the answer, and one name's mark, stops and sums, and nothing else
pub record OrderIsKept (bytes : List ℕ) (highest name : ℕ) (shown : Records) (kept kept' : Kept) (r : Result Unit Refusal) : Type 0 where
  pub said : said r ≡ done (keep_records bytes highest name shown kept)
  pub left_marks : kept'.marks ≡ left (keep_records bytes highest name shown kept) (λ made. set kept.marks (name - 1) used) kept.marks
  pub left_stops : kept'.stops ≡ left (keep_records bytes highest name shown kept) (λ made. under name made.order kept.stops) kept.stops
  pub left_sums : kept'.sums ≡ left (keep_records bytes highest name shown kept) (λ made. under name made.sums kept.sums) kept.sums

-- that of coming back: the answer, and the screen's order and sums
pub record OrderComesBack (bytes : List ℕ) (highest name : ℕ) (shown shown' : Records) (kept : Kept) (r : Result Unit Refusal) : Type 0 where
  pub said : said r ≡ done (come_back bytes highest name shown kept)
  pub left_order : shown'.order ≡ after (come_back bytes highest name shown kept) (λ made. made.order) shown.order
  pub left_sums : shown'.sums ≡ after (come_back bytes highest name shown kept) (λ made. made.sums) shown.sums

-- that of clearing: the answer, and the marks
pub record MarksAreCleared (marks marks' : List ℕ) (r : Result Unit Refusal) : Type 0 where
  pub said : said r ≡ clear_marks (length marks)
  pub left : marks' ≡ after (clear_marks (length marks)) (λ u. replicate names 0) marks

-- the same of the parameters of each call
abbrev pub shown_in : (order sums : List ℕ) → Records
shown_in order sums = record { order = order; sums = sums }

abbrev pub kept_in : (marks stops sums : List ℕ) → Kept
kept_in marks stops sums = record { marks = marks; stops = stops; sums = sums }

abbrev pub KeepsOrder : SharedUnsigned → ℕ → ℕ → SharedUnsigned → SharedUnsigned → Unsigned → Unsigned → Unsigned → Result Unit Refusal → Type 0
KeepsOrder bytes highest name order sums marks stops kept r =
    OrderIsKept (contents bytes) highest name (shown_in (contents order) (contents sums))
    (kept_in (at_entry marks) (at_entry stops) (at_entry kept)) (kept_in (at_exit marks) (at_exit stops) (at_exit kept)) r

abbrev pub ComesBack : SharedUnsigned → ℕ → ℕ → Unsigned → Unsigned → SharedUnsigned → SharedUnsigned → SharedUnsigned → Result Unit Refusal → Type 0
ComesBack bytes highest name order sums marks stops kept r =
    OrderComesBack (contents bytes) highest name (shown_in (at_entry order) (at_entry sums)) (shown_in (at_exit order) (at_exit sums))
    (kept_in (contents marks) (contents stops) (contents kept)) r

abbrev pub ClearsMarks : Unsigned → Result Unit Refusal → Type 0
ClearsMarks marks r = MarksAreCleared (at_entry marks) (at_exit marks) r
