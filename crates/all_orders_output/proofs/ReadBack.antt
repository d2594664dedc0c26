-- The text read back: each line says the total and the order that it was made of, so nothing of them is lost in the bytes.
use mathlib.Core.Path.{◌≡◌, refl, ap, ◌∙◌}
use mathlib.Core.List.{List, [], ◌∷◌, ◌++◌, append_assoc}
use Prim.Native.Nat.{ℕ, zero, suc, ◌+◌, ◌*◌, ◌-◌, ◌/◌, ◌%◌, ◌<◌, ◌≤◌}
use native.Mathlib.Decide.{dec_lt}
use native.Mathlib.Omega.{arith}
use borrow.Author.Tests.{ne_eqb}
use Rattle.base.specs.Lists.{tabulate}
use Rattle.times.specs.Rows.{rows}
use Rattle.all_orders_output.specs.Decimal.{digit, decimal}
use Rattle.all_orders_output.specs.Text.{space, line_end, spaced, line_of, refusal_line}
use Rattle.all_orders_output.specs.ReadBack.{lines_from, lines_in}
use Rattle.all_orders_output.proofs.Decimal.{decimal-small, decimal-more}

-- a digit
read-digit : (before : List ℕ) (n d : ℕ) (text : List ℕ) → d < 10 → lines_from before n (digit d ∷ text) ≡ lines_from before (10 * n + d) text
unfolding lines_from
read-digit before n d text h =
    let value : 48 + d - 48 ≡ d = omega arith in
    rw (ne_eqb (48 + d) 10 (λ e. omega arith), ne_eqb (48 + d) 32 (λ e. omega arith), value)

-- a number: its decimal has the number's value
read-decimal-below : (most n : ℕ) → n < most → (before text : List ℕ) → lines_from before 0 (decimal n ++ text) ≡ lines_from before n text
read-decimal-below zero n h before text = absurd (omega arith)
read-decimal-below (suc most) n h before text = go (dec_lt n 10) (λ s. read-decimal-below most (n / 10) (omega arith) before (digit (n % 10) ∷ text))
  where
    go : Dec (n < 10) → (10 ≤ n → lines_from before 0 (decimal (n / 10) ++ digit (n % 10) ∷ text) ≡ lines_from before (n / 10) (digit (n % 10) ∷ text))
        → lines_from before 0 (decimal n ++ text) ≡ lines_from before n text
    go (yes s) less =
        let value : 10 * 0 + n ≡ n = omega arith in
        rw (decimal-small n s) (read-digit before 0 n text s ∙ ap (λ (x : ℕ). lines_from before x text) value)
    go (no s) less =
        let value : 10 * (n / 10) + n % 10 ≡ n = omega arith in
        rw (decimal-more n (omega arith), append_assoc)
        (less (omega arith)
        ∙ read-digit before (n / 10) (n % 10) text (omega arith)
        ∙ ap (λ (x : ℕ). lines_from before x text) value)

pub read-decimal : (n : ℕ) (before text : List ℕ) → lines_from before 0 (decimal n ++ text) ≡ lines_from before n text
read-decimal n = read-decimal-below (suc n) n (omega arith)

-- a space, and the end of a line
read-space : (before : List ℕ) (n : ℕ) (text : List ℕ) → lines_from before n (space ∷ text) ≡ lines_from (before ++ n ∷ []) 0 text
unfolding lines_from
read-space before n text = refl

read-end : (before : List ℕ) (n : ℕ) (text : List ℕ) → lines_from before n (line_end ∷ text) ≡ (before ++ n ∷ []) ∷ lines_in text
unfolding lines_from
read-end before n text = refl

-- the rest of a line after a number
read-spaced : (ss before : List ℕ) (n : ℕ) (text : List ℕ) → lines_from before n (spaced ss ++ line_end ∷ text) ≡ (before ++ n ∷ ss) ∷ lines_in text
unfolding spaced
read-spaced [] before n text = read-end before n text
read-spaced (s ∷ ss) before n text =
    read-space before n ((decimal s ++ spaced ss) ++ line_end ∷ text)
    ∙ ap (lines_from (before ++ n ∷ []) 0) (append_assoc (decimal s) (spaced ss) (line_end ∷ text))
    ∙ (read-decimal s (before ++ n ∷ []) (spaced ss ++ line_end ∷ text)
    ∙ read-spaced ss (before ++ n ∷ []) s text
    ∙ ap (λ (l : List ℕ). l ∷ lines_in text) (append_assoc before (n ∷ []) (s ∷ ss)))

-- a line
pub read-line : (total : ℕ) (order text : List ℕ) → lines_in (line_of total order ++ text) ≡ (total ∷ order) ∷ lines_in text
unfolding line_of
read-line total order text =
    ap lines_in (append_assoc (decimal total ++ spaced order) (line_end ∷ []) text ∙ append_assoc (decimal total) (spaced order) (line_end ∷ text))
    ∙ read-decimal total [] (spaced order ++ line_end ∷ text)
    ∙ read-spaced order [] total text

-- all lines
pub read-lines : (m : ℕ) (totals : ℕ → ℕ) (orders : ℕ → List ℕ) → lines_in (rows m (λ j. line_of (totals j) (orders j))) ≡ tabulate m (λ j. totals j ∷ orders j)
unfolding lines_from
read-lines zero totals orders = refl
read-lines (suc m) totals orders =
    read-line (totals 0) (orders 0) (rows m (λ j. line_of (totals (suc j)) (orders (suc j))))
    ∙ ap (λ (l : List (List ℕ)). (totals 0 ∷ orders 0) ∷ l) (read-lines m (λ j. totals (suc j)) (λ j. orders (suc j)))

-- a refusal is the line of its number
pub read-refusal : (n : ℕ) → lines_in (refusal_line n) ≡ (n ∷ []) ∷ []
unfolding refusal_line lines_from
read-refusal n = read-decimal n [] (line_end ∷ []) ∙ read-end [] n []
