-- Names, their marks and places: 'Staff want up to eight named orders, names 1 to 8.' 'Lent are 8 mark bytes, 8n stops and 8n sums; name m has mark
-- m−1 and the n stops and n sums from (m−1)n on.'
use Rattle.std.specs.Prelude.{Bool, cond, ◌&&◌, List, ℕ, ◌*◌, ◌-◌, ◌/◌, ◌^◌, min, leb, ltb, eqb, length, get_or, drop}
use Rattle.std.proofs.Math.Seq.{paste}
use Rattle.base.specs.Refusal.{wrong_size, no_such_name, nothing_kept}
use Rattle.base.specs.Outcome.{Outcome, gives, need}
use Rattle.screen.specs.Records.{Records, judge_records, lent_records}
use Rattle.screen.specs.Screen.{screen_room}

abbrev pub names : ℕ
names = 8

-- 'names 1 to 8'
abbrev pub is_name : ℕ → Bool
is_name name = leb 1 name && leb name names

-- 'A mark is 1 when used; any other mark means nothing kept'
abbrev pub used : ℕ
used = 1

unfoldable pub is_used : (marks : List ℕ) (name : ℕ) → Bool
is_used marks name = eqb (get_or marks (name - 1) 0) used

-- where the n stops and the n sums of a name begin
abbrev pub start_of : (k name : ℕ) → ℕ
start_of k name = (name - 1) * 2 ^ k

-- what all names have, with what is kept under one of them put in its place
unfoldable pub under : (name : ℕ) (part all : List ℕ) → List ℕ
under name part all = paste all ((name - 1) * length part) part (length part)

-- 'Lent are 8 mark bytes, 8n stops and 8n sums', beside the screen's order and sums; 'tests all its lent lengths in the head'
unfoldable pub named_room : (marks stops kept order sums k : ℕ) → Outcome Unit
named_room marks stops kept order sums k =
    need (leb names marks) wrong_size
    (need (leb (names * 2 ^ k) stops) wrong_size
    (need (leb (names * 2 ^ k) kept) wrong_size
    (screen_room order sums k)))

-- so many places all of this has for each stop, as code counts them: none where a mark is missing
unfoldable pub places_of : (marks stops kept order sums : ℕ) → ℕ
places_of marks stops kept order sums = cond (ltb marks names) 0 (min (min order sums) (min stops kept / names))

-- '15, a name not 1 to 8', after the screen's records
unfoldable pub named : (name : ℕ) → Records → Outcome Records
named name r = need (is_name name) no_such_name (gives r)

-- '16, nothing kept under it when coming back'; 'what was kept passes the same' tests, 'after 15 and 16, before it is restored'
unfoldable pub kept_under : (t : ℕ → ℕ → ℕ) (k name : ℕ) (marks stops kept : List ℕ) → Outcome Records
kept_under t k name marks stops kept = need (is_used marks name) nothing_kept (judge_records t k (drop (start_of k name) stops) (drop (start_of k name) kept))

-- the same for code that has not tested k and the lengths
unfoldable pub lent_under : (t : ℕ → ℕ → ℕ) (k name : ℕ) (marks stops kept : List ℕ) → Outcome Records
lent_under t k name marks stops kept = need (is_used marks name) nothing_kept (lent_records t k (drop (start_of k name) stops) (drop (start_of k name) kept))
