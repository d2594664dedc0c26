-- EACH ALLOWED ORDER IS PRINTED EXACTLY ONCE, WITH ITS TOTAL, BY INCREASING FORK BITS: said of the numbers that the printed bytes say.
use mathlib.Core.Path.{◌≡◌, sym, ap, ◌∙◌}
use mathlib.Core.List.{List, [], ◌∷◌}
use Prim.Native.Nat.{ℕ, ◌*◌, ◌<◌}
use native.Mathlib.Omega.{arith}
use lib.ListN.{length, get_or}
use Rattle.base.specs.Lists.{tabulate}
use Rattle.base.specs.Outcome.{gives}
use Rattle.base.proofs.Lists.{length-tabulate, get_or-tabulate}
use Rattle.path.specs.Path.{Path}
use Rattle.times.specs.Table.{entry_of}
use Rattle.tree.specs.Order.{order_of, Allowed}
use Rattle.tree.specs.Total.{total}
use Rattle.tree.proofs.Enumerate.{tried-set}
use Rattle.orders.specs.Allowed.{set_count, forks_of}
use Rattle.orders.proofs.Allowed.{Gives, gives_one, set_count-twice, forks_of-order_of}
use Rattle.all_orders_output.specs.Text.{order_line, lines_of, all_orders}
use Rattle.all_orders_output.specs.ReadBack.{lines_in}
use Rattle.all_orders_output.specs.Output.{program_path, printed, output_for}
use Rattle.all_orders_output.proofs.ReadBack.{read-lines}

-- an order stands on one line alone, with the total c
pub record OnOneLine (lines : List (List ℕ)) (c : ℕ) (o : List ℕ) : Type 0 where
  pub line : ℕ
  pub below : line < length lines
  pub says : get_or lines line [] ≡ c ∷ o
  pub only : (i d : ℕ) → i < length lines → get_or lines i [] ≡ d ∷ o → i ≡ line

-- the lines of all orders of a tree of 2^k stops, by times t
pub record AreAll (k : ℕ) (t : ℕ → ℕ → ℕ) (lines : List (List ℕ)) : Type 0 where
  -- as many lines as sets of forks
  pub count : length lines ≡ set_count k
  -- 'prints each allowed order exactly once', and its total
  pub once : (o : List ℕ) → Allowed k o → OnOneLine lines (total t o) o
  -- 'by increasing fork bits read as one number with fork v worth 2^v': line j has the order whose fork bits are the number 2j, and its total
  pub says : (j : ℕ) → j < set_count k → get_or lines j [] ≡ total t (order_of k (2 * j)) ∷ order_of k (2 * j)
  pub bits : (j : ℕ) → j < set_count k → forks_of k (order_of k (2 * j)) ≡ 2 * j

-- the set of a line gives its order, and no other line's does
set_gives : (k j : ℕ) (o : List ℕ) → j < set_count k → order_of k (2 * j) ≡ o → Gives k o (2 * j)
set_gives k j o b e = record { given = e; even = omega arith; small = omega (arith, set_count-twice k) }

one_line : (k i j : ℕ) (o : List ℕ) → i < set_count k → j < set_count k → order_of k (2 * i) ≡ o → order_of k (2 * j) ≡ o → i ≡ j
one_line k i j o b c e f = omega (arith, gives_one k o (2 * i) (2 * j) (set_gives k i o b e) (set_gives k j o c f))

-- the numbers on line j
abbrev said : (k : ℕ) (t : ℕ → ℕ → ℕ) (j : ℕ) → List ℕ
said k t j = total t (order_of k (2 * j)) ∷ order_of k (2 * j)

pub are_all : (k : ℕ) (t : ℕ → ℕ → ℕ) (lines : List (List ℕ)) → lines ≡ tabulate (set_count k) (said k t) → AreAll k t lines
are_all k t lines e = record {
  count = count;
  once = once;
  says = says;
  bits = λ j b. forks_of-order_of k (2 * j) (omega arith) (omega (arith, set_count-twice k));
}
  where
    count : length lines ≡ set_count k
    count = rw e (length-tabulate (set_count k) (said k t))

    says : (j : ℕ) → j < set_count k → get_or lines j [] ≡ said k t j
    says j b = rw e (get_or-tabulate (set_count k) (said k t) j [] b)

    once : (o : List ℕ) → Allowed k o → OnOneLine lines (total t o) o
    once o a =
        let j = tried-set k a.0 in
        let is : order_of k (2 * j.0) ≡ o = j.2 ∙ a.1 in
        record {
          line = j.0;
          below = rw count j.1;
          says = says j.0 j.1 ∙ ap (λ (u : List ℕ). total t u ∷ u) is;
          only = λ i d b s.
              let c : i < set_count k = rw count at b in
              let on : said k t i ≡ d ∷ o = sym (says i c) ∙ s in
              let same : order_of k (2 * i) ≡ o = cc in
              one_line k i j.0 o c j.1 same is;
        }

-- what the text of a path says
text_says : (p : Path) → lines_in (all_orders p) ≡ tabulate (set_count p.k) (said p.k (entry_of p.stops))
unfolding all_orders lines_of order_line
text_says p = read-lines (set_count p.k) (λ j. total (entry_of p.stops) (order_of p.k (2 * j))) (λ j. order_of p.k (2 * j))

-- THE LAW: the printed bytes of an accepted path say all its orders
pub prints-all : (input : List ℕ) (p : Path) → program_path input ≡ gives p → AreAll p.k (entry_of p.stops) (lines_in (output_for input))
unfolding output_for printed
prints-all input p e = are_all p.k (entry_of p.stops) (lines_in (output_for input)) (ap lines_in (rw e) ∙ text_says p)
