-- Laws of decimal numbers: one digit more, and how many there are.
use mathlib.Core.Path.{◌≡◌, sym, ap, ◌∙◌}
use mathlib.Core.List.{List, [], ◌∷◌, ◌++◌}
use Prim.Native.Nat.{ℕ, zero, suc, ◌/◌, ◌%◌, ◌^◌, ◌≤◌, ◌<◌}
use native.Mathlib.Decide.{dec_lt}
use native.Mathlib.Nat.{pow-succ'}
use native.Mathlib.Omega.{arith}
use lib.ListN.{length, get_or, length-append, get_or-append}
use borrow.Author.Tests.{lt-ltb, le-ltb}
use Rattle.std.specs.Fmt as fmt
use Rattle.std.proofs.lemmas.Fmt.{decimal_from_appends, length-decimal-le_succ}
use Rattle.all_orders_output.specs.Decimal.{digit, digits, decimal}

-- a number of one digit
digits-small : (most n : ℕ) → n < 10 → digits (suc most) n ≡ digit n ∷ []
unfolding digits
digits-small most n h = rw (lt-ltb n 10 h)

-- one digit more
digits_more : (most n : ℕ) → 10 ≤ n → digits (suc most) n ≡ digits most (n / 10) ++ digit (n % 10) ∷ []
unfolding digits
digits_more most n h = rw (le-ltb n 10 h)

-- no digit is left out of more than n
enough : (most more n : ℕ) → n < most → n < more → digits most n ≡ digits more n
enough zero more n a b = absurd (omega arith)
enough (suc most) zero n a b = absurd (omega arith)
enough (suc most) (suc more) n a b = go (dec_lt n 10) (λ h. enough most more (n / 10) (omega arith) (omega arith))
  where
    go : Dec (n < 10) → (10 ≤ n → digits most (n / 10) ≡ digits more (n / 10)) → digits (suc most) n ≡ digits (suc more) n
    go (yes h) less = digits-small most n h ∙ sym (digits-small more n h)
    go (no h) less =
        let ten : 10 ≤ n = omega arith in
        digits_more most n ten ∙ ap (λ (l : List ℕ). l ++ digit (n % 10) ∷ []) (less ten) ∙ sym (digits_more more n ten)

-- a digit is a number's decimal
pub decimal-small : (n : ℕ) → n < 10 → decimal n ≡ digit n ∷ []
unfolding decimal
decimal-small n h = digits-small n n h

-- the last digit stands last, after the number of the digits before it
pub decimal-more : (n : ℕ) → 10 ≤ n → decimal n ≡ decimal (n / 10) ++ digit (n % 10) ∷ []
unfolding decimal
decimal-more n h =
    digits_more n n h ∙ ap (λ (l : List ℕ). l ++ digit (n % 10) ∷ []) (enough n (suc (n / 10)) (n / 10) (omega arith) (omega arith))

-- the library writes the same digits
pub same-decimal : (n : ℕ) → n < 2 ^ 64 → fmt.decimal n ≡ decimal n
unfolding decimal
same-decimal n h = sym (decimal_from_appends digits (record { one = λ k m. digits-small k m; more = λ k m. digits_more k m }) (suc n) n h (omega (arith, length-decimal-le_succ n h)))

-- a number below 10^(d + 1) has at most d + 1 digits
pub length-decimal : (d n : ℕ) → n < 10 ^ suc d → length (decimal n) ≤ suc d
length-decimal zero n h = rw (decimal-small n (omega arith)) (omega arith)
length-decimal (suc d) n h = go (dec_lt n 10) (length-decimal d (n / 10) (omega (arith, pow-succ' 10 (suc d))))
  where
    go : Dec (n < 10) → length (decimal (n / 10)) ≤ suc d → length (decimal n) ≤ suc (suc d)
    go (yes s) less = rw (decimal-small n s) (omega arith)
    go (no s) less = rw (decimal-more n (omega arith), length-append) (omega arith)

-- every number has a digit
decimal-some : (n : ℕ) → 0 < length (decimal n)
decimal-some n = go (dec_lt n 10)
  where
    go : Dec (n < 10) → 0 < length (decimal n)
    go (yes s) = rw (decimal-small n s) (omega arith)
    go (no s) = rw (decimal-more n (omega arith), length-append) (omega arith)

-- NO LEADING ZERO: the first digit of a number that is not 0 is not '0'. (That the digits have the number's value is `read-decimal`.)
first_below : (most n : ℕ) → n < most → 1 ≤ n → digit 1 ≤ get_or (decimal n) 0 0
first_below zero n h one = absurd (omega arith)
first_below (suc most) n h one = go (dec_lt n 10) (λ s. first_below most (n / 10) (omega arith) (omega arith))
  where
    go : Dec (n < 10) → (10 ≤ n → digit 1 ≤ get_or (decimal (n / 10)) 0 0) → digit 1 ≤ get_or (decimal n) 0 0
    go (yes s) less = rw (decimal-small n s) (omega arith)
    go (no s) less =
        let ten : 10 ≤ n = omega arith in
        rw (decimal-more n ten, get_or-append (decimal (n / 10)) (digit (n % 10) ∷ []) 0 0 (decimal-some (n / 10))) (less ten)

pub first-digit : (n : ℕ) → 1 ≤ n → digit 1 ≤ get_or (decimal n) 0 0
first-digit n = first_below (suc n) n (omega arith)
