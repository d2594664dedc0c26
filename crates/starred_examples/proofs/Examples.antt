-- The ten starred examples, by one test that is computed over the listing, and the answers that demand 3 turns down.
use mathlib.Core.Path.{◌≡◌, refl}
use mathlib.Core.Bool.{true}
use Prim.Native.Nat.{ℕ, ◌<◌}
use lib.ListN.{length, get_or}
use Rattle.walks.specs.Prefer.{lexb, beforeb}
use Rattle.walks.specs.Places.{stops_to}
use Rattle.times.specs.Time.{gap, distance, counted, nearest, travel, time, time_between}
use Rattle.times.specs.Table.{entry_of}
use Rattle.tree.specs.Open.{Shortest}
use Rattle.tree.specs.Wanted.{better, best_of, found, order_in, wanted}
use Rattle.orders.specs.Same.{alike}
use Rattle.orders.specs.Allowed.{some_set, is_allowed}
use Rattle.starred_examples.specs.Example.{Example, Says, fork_set, is_wanted, holds, all_hold, Wrong, all_turned_down}
use Rattle.starred_examples.specs.Listing.{starred, four_stops, wrong_answers}
use Rattle.starred_examples.proofs.Sound.{all_sound, all-turned-down}

-- every starred example passes its test
starred-hold : all_hold starred ≡ true
unfolding all_hold holds is_wanted fork_set alike is_allowed some_set wanted found best_of better order_in beforeb lexb stops_to entry_of time_between time travel counted nearest distance gap
starred-hold = refl

-- THE TEN STARRED EXAMPLES
pub examples : (d : Example) (i : ℕ) → i < length starred → Says (get_or starred i d)
examples d = all_sound starred d starred-hold

-- each wrong answer fails it
wrong-fail : all_turned_down 2 four_stops wrong_answers ≡ true
unfolding all_turned_down is_wanted alike wanted found best_of better order_in beforeb lexb stops_to entry_of time_between time travel counted nearest distance gap
wrong-fail = refl

-- NONE OF THE WRONG ANSWERS MEETS DEMAND 3
pub turned_down : (d : Wrong) (i : ℕ) → i < length wrong_answers → Shortest 2 (entry_of four_stops) (get_or wrong_answers i d).order (get_or wrong_answers i d).sum → ⊥
turned_down d = all-turned-down 2 four_stops wrong_answers d wrong-fail
