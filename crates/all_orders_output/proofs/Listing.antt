-- Laws of the lines as they are put: the order of a set of forks in one byte, its total by a table, and one line after the other.
use mathlib.Core.Path.{◌≡◌, sym, ap, ◌∙◌}
use mathlib.Core.Bool.{true}
use mathlib.Core.List.{List, [], ◌∷◌, ◌++◌}
use Prim.Native.Nat.{ℕ, ◌+◌, ◌*◌, ◌-◌, ◌%◌, ◌^◌, ◌≤◌, ◌<◌}
use native.Mathlib.Numerals.{add-one}
use native.Mathlib.Omega.{arith}
use lib.ListN.{length, take, replicate, length-append}
use lib.Pow.{pow_pos}
use Rattle.std.specs.Prelude.{Result}
use Rattle.base.specs.declared.Refusal.{Refusal}
use Rattle.base.specs.Size.{stop_count}
use Rattle.base.proofs.Outcome.{over-front}
use Rattle.base.proofs.Size.{stop_count-pow}
use Rattle.records.specs.Field.{number_of}
use Rattle.times.proofs.Rows.{rows-suc}
use Rattle.tree.specs.Order.{order_of}
use Rattle.tree.specs.Total.{entry, total}
use Rattle.tree.proofs.Link.{length-order_of}
use Rattle.orders.specs.Allowed.{set_count}
use Rattle.orders.specs.Bits.{byte_count, only_forks}
use Rattle.orders.specs.Lent.{forks_in}
use Rattle.orders.specs.OrderOfBits.{OrderIsMade}
use Rattle.orders.proofs.Allowed.{set_count-twice}
use Rattle.orders.proofs.Bits.{forks-only}
use Rattle.orders.proofs.Calls.{JudgedForks, order-when}
use Rattle.all_orders_output.specs.Text.{line_of, order_line, lines_of}
use Rattle.all_orders_output.specs.Output.{print_max_k}
use Rattle.all_orders_output.specs.Local.{longest_line}
use Rattle.all_orders_output.proofs.Sizes.{pow-le-8, sets-le-128}

-- ---- the order of a set

-- the set that one byte says
byte-set : (k F : ℕ) → k ≤ print_max_k → forks_in k (F ∷ []) ≡ F
unfolding number_of
byte-set k F h =
    let one : byte_count (2 ^ k) ≡ 1 = omega (arith, pow-le-8 k h, pow_pos k) in
    rw one (omega arith)

-- the order that is made of it, in 8 places
pub order-made : (k F : ℕ) (order : List ℕ) (r : Result Unit Refusal) → k ≤ print_max_k → only_forks k F ≡ true → OrderIsMade k (F ∷ []) (replicate 8 0) order r
    → take (2 ^ k) order ≡ order_of k F
order-made k F order r h only made =
    let is : forks_in k (F ∷ []) ≡ F = byte-set k F h in
    let judged : JudgedForks k (F ∷ []) (length {A = ℕ} (replicate 8 0)) = record {
      small = omega arith;
      long = omega (arith, pow-le-8 k h);
      places = pow-le-8 k h;
      only = rw is only;
    } in
    rw ((order-when k (F ∷ []) (replicate 8 0) order r judged made).1, is) (over-front (2 ^ k) (order_of k F) (replicate 8 0) (length-order_of k F))

-- the line of a set, by its order and total as the code has them
pub made-line : (k F : ℕ) (table order : List ℕ) (n sum : ℕ) → k ≤ print_max_k → n ≡ 2 ^ k → take (2 ^ k) order ≡ order_of k F
    → sum ≡ total (entry (stop_count k) table) (take (stop_count k) order) → line_of sum (take n order) ≡ order_line k (entry (2 ^ k) table) F
unfolding order_line
made-line k F table order n sum h en eo es = rw (es, en, stop_count-pow k (omega arith), eo)

-- the set of line j
pub line_set : (k j : ℕ) → j < set_count k → only_forks k (2 * j) ≡ true
line_set k j b = forks-only k (2 * j) (omega arith) (omega (arith, set_count-twice k))

-- as many lines as the code counts
pub line-count : (k n : ℕ) → k ≤ print_max_k → n ≡ 2 ^ k → 1 * 2 ^ (n - 1) % 18446744073709551616 ≡ set_count k
line-count k n h e = rw e (omega (arith, sets-le-128 k h))

-- ---- one line after the other

module _ (k : ℕ) (t : ℕ → ℕ → ℕ) where
  lines_more : (j : ℕ) → lines_of k t (j + 1) ≡ lines_of k t j ++ order_line k t (2 * j)
  unfolding lines_of
  lines_more j = rw (add-one j) (rows-suc j (λ i. order_line k t (2 * i)))

  -- none at first
  pub lines_none : (u : List ℕ) → u ≡ [] → (u ≡ lines_of k t 0) × (length u ≤ 0)
  unfolding lines_of
  lines_none u e = (e, rw e (omega arith))

  -- one line more, each of at most 28 bytes
  pub lines_next : (u u' : List ℕ) (j F : ℕ) → (u ≡ lines_of k t j) × (length u ≤ longest_line * j) → F ≡ 2 * j → length (order_line k t (2 * j)) ≤ longest_line → u' ≡ u ++ order_line k t F
      → (u' ≡ lines_of k t (j + 1)) × (length u' ≤ longest_line * (j + 1))
  lines_next u u' j F p e small f =
      let g : u' ≡ u ++ order_line k t (2 * j) = f ∙ ap (λ (x : ℕ). u ++ order_line k t x) e in
      (g ∙ ap (λ (l : List ℕ). l ++ order_line k t (2 * j)) p.0 ∙ sym (lines_more j), rw g (omega (arith, p.1, small, length-append u (order_line k t (2 * j)))))
