-- The output from what is made of a path: the lines of all orders by a table, or the line of the refusal.
use mathlib.Core.Path.{◌≡◌, sym, ap, ap₂, ◌∙◌}
use mathlib.Core.List.{List, ◌++◌}
use Prim.Native.Nat.{ℕ, ◌*◌, ◌^◌, ◌≤◌, ◌<◌}
use native.Mathlib.Omega.{arith}
use lib.Dec.{leb}
use lib.ListN.{length, get_or, drop, take-append-drop}
use lib.Seq.{length-take-le}
use borrow.Author.Tests.{le-leb, lt-leb, leb-true}
use Rattle.std.specs.Prelude.{Ok, Err}
use Rattle.base.specs.declared.Refusal.{Refusal}
use Rattle.base.specs.Refusal.{wrong_k, refusal_number}
use Rattle.base.specs.Outcome.{gives, refuses, giving, number}
use Rattle.base.proofs.Lists.{length-tabulate}
use Rattle.base.proofs.Outcome.{passed, giving-giving, refused-giving, done-refused}
use Rattle.stop.specs.declared.Stop.{Stop}
use Rattle.path.specs.Path.{path, body_after_head, stop_in, stops_in}
use Rattle.times.specs.Table.{entry_of, table_of, table_from, TableIsMade}
use Rattle.times.proofs.Rows.{rows-cong}
use Rattle.times.proofs.Table.{table-small, by-stops, accepted-path, square-table, when-made, made-when}
use Rattle.tree.specs.Order.{order_of}
use Rattle.tree.specs.Total.{entry}
use Rattle.tree.proofs.Diagonal.{total-same}
use Rattle.orders.specs.Allowed.{set_count}
use Rattle.path_plan.proofs.Claim.{table-times}
use Rattle.all_orders_output.specs.declared.output.Output.{Output}
use Rattle.all_orders_output.specs.Text.{line_of, order_line, lines_of, all_orders, refusal_line}
use Rattle.all_orders_output.specs.Output.{print_max_k, few_enough, program_path, printed, output_for, zeros, IsOutput}
use Rattle.all_orders_output.specs.Local.{text_of, orders_after_head}

-- ---- the program's own test of k

pub few-passes : (k : ℕ) → k ≤ print_max_k → few_enough k ≡ gives tt
few-passes k h = rw (le-leb _ _ h)

pub passes-few : (k : ℕ) → few_enough k ≡ gives tt → k ≤ print_max_k
passes-few k e = leb-true _ _ (passed (leb k print_max_k) wrong_k (gives tt) (omega arith) (ap number e)).holds

pub many-fails : (k : ℕ) → print_max_k < k → few_enough k ≡ refuses wrong_k
many-fails k h = rw (lt-leb _ _ h)

-- ---- by a table

-- the lines by the table of some stops are those by their travel times
table-lines : (k m : ℕ) (ss : List Stop) → length ss ≡ 2 ^ k → lines_of k (entry (2 ^ k) (table_of ss)) m ≡ lines_of k (entry_of ss) m
unfolding lines_of order_line
table-lines k m ss e =
    rows-cong m _ _ (λ j b. ap (λ (c : ℕ). line_of c (order_of k (2 * j))) (total-same k (entry (2 ^ k) (table_of ss)) (entry_of ss) (λ a b x y d. table-times k ss e a b x y) (2 * j)))

module _ (bytes : List ℕ) (version k : ℕ) (table table' : List ℕ) (small : k ≤ print_max_k) (as_wide : length table ≡ 2 ^ k * 2 ^ k) where
  -- a table that is not made: its refusal is that of the stops
  pub not_made : (r : Refusal) → TableIsMade (table_from bytes version k (length table)) table table' (Err r) → refuses (refusal_number r) ≡ orders_after_head bytes version k
  not_made r p =
      let n : ℕ = refusal_number r in
      let by : table_from bytes version k (length table) ≡ giving table_of (body_after_head bytes version k) = by-stops bytes version k (length table) (omega (arith, small)) as_wide in
      let whole : table_from bytes version k (length table) ≡ refuses n = done-refused (table_from bytes version k (length table)) n p.said in
      let body : body_after_head bytes version k ≡ refuses n = refused-giving table_of (body_after_head bytes version k) n (sym by ∙ whole) in
      rw body

  -- a table that is made is as long as before, its times are short, and the lines by it are those of the stops
  pub record LinesByTable : Type 0 where
    pub square : length table' ≡ 2 ^ k * 2 ^ k
    pub short : (i : ℕ) → get_or table' i 0 < 2 ^ 32
    pub same : gives (lines_of k (entry (2 ^ k) table') (set_count k)) ≡ orders_after_head bytes version k

  pub made-lines : TableIsMade (table_from bytes version k (length table)) table table' (Ok tt) → LinesByTable
  unfolding all_orders
  made-lines p =
      let a = accepted-path bytes version k (length table) (when-made _ table table' p) in
      let ss = stops_in version (2 ^ k) bytes in
      let long : length (table_of ss) ≡ length table = square-table k (length table) (λ i. stop_in version i bytes) a.square in
      let is : table' ≡ table_of ss = (made-when _ (table_of ss) table table' _ a.gives-table long p).1 in
      record {
        square = rw is long ∙ as_wide;
        short = λ i. rw is (omega (arith, table-small ss a.body.range i));
        same = rw (is, a.body.stops) (ap gives (table-lines k (set_count k) ss (length-tabulate (2 ^ k) (λ i. stop_in version i bytes))));
      }

-- ---- the whole output

-- the text of a path is that of the stops after its head
pub text-after : (input : List ℕ) (version k : ℕ) → program_path input ≡ giving (path version k) (body_after_head input version k) → orders_after_head input version k ≡ giving all_orders (program_path input)
text-after input version k e = sym (ap (giving all_orders) e ∙ giving-giving (path version k) all_orders (body_after_head input version k))

-- a path that is read, and one that is refused
pub output-text : (input text : List ℕ) → gives text ≡ giving all_orders (program_path input) → text ≡ output_for input
unfolding output_for printed
output-text input text e = ap printed e

pub output-refused : (input : List ℕ) (n : ℕ) → refuses n ≡ giving all_orders (program_path input) → refusal_line n ≡ output_for input
unfolding output_for printed
output-refused input n e = ap printed e

-- what stands in the buffer
pub is-output : (input : List ℕ) (out : Output) → text_of out ≡ output_for input → IsOutput input out.bytes out.count
is-output input out e =
    let size : out.count ≡ length (text_of out) = sym (length-take-le out.count out.bytes (omega (arith, out.within, out.room))) in
    record {
      whole = sym (take-append-drop out.count out.bytes) ∙ ap₂ (λ (l m : List ℕ). l ++ m) e (out.blank ∙ ap (λ (n : ℕ). drop n zeros) (size ∙ ap length e));
      size = size ∙ ap length e;
      front = e;
      within = omega (arith, out.within, out.room);
    }
