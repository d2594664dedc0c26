-- An exchange of one fork in place: the halves of a block swapped, in a buffer that may be longer than the order. Lists with swapped halves
-- are one (`swapped_one`), so the swap makes the exchanged order.
use mathlib.Core.Path.{◌≡◌, sym, ap, ◌∙◌}
use mathlib.Core.Bool.{true}
use mathlib.Core.List.{List, ◌++◌, append_assoc}
use Prim.Native.Nat.{ℕ, ◌+◌, ◌*◌, ◌-◌, ◌^◌, ◌≤◌, ◌<◌}
use native.Mathlib.Decide.{dec_lt}
use native.Mathlib.Omega.{arith}
use lib.ListN.{length, get_or, take, drop, length-append, length-drop, get_or-append}
use lib.Seq.{ext_get_or, get_or-append_right, length-take-le}
use Rattle.std.proofs.lemmas.List.{get_or-take, get_or-drop, take-append-le, drop-append-le}
use Rattle.orders.specs.Allowed.{is_allowed}
use Rattle.orders.proofs.Allowed.{allowed-long}
use Rattle.groups.specs.Exchange.{exchange_fork}
use Rattle.groups.specs.Group.{half_size, group_start}
use Rattle.groups.proofs.Swap.{Swapped}
use Rattle.groups.proofs.Exchange.{length-exchange}
use Rattle.groups.proofs.Sides.{fork-swaps}
use Rattle.group_sums.specs.Swaps.{block_from, halves_swapped}

-- ---- the halves swapped

module _ (a half : ℕ) (o : List ℕ) (fits : a + 2 * half ≤ length o) where
  block-long : length (block_from a half o) ≡ 2 * half
  block-long = length-take-le (2 * half) (drop a o) (rw (length-drop a o) (omega arith))

  -- its two parts, and what they have
  second-long : length (drop half (block_from a half o)) ≡ half
  second-long = rw (length-drop half (block_from a half o), block-long) (omega arith)

  first-long : length (take half (block_from a half o)) ≡ half
  first-long = length-take-le half (block_from a half o) (omega (arith, block-long))

  halves : List ℕ
  halves = drop half (block_from a half o) ++ take half (block_from a half o)

  halves-long : length halves ≡ 2 * half
  unfolding halves
  halves-long = length-append (drop half (block_from a half o)) (take half (block_from a half o)) ∙ omega (arith, first-long, second-long)

  in-block : (x : ℕ) → x < 2 * half → get_or (block_from a half o) x 0 ≡ get_or o (a + x) 0
  in-block x l = get_or-take (2 * half) (drop a o) x 0 l ∙ get_or-drop a o x 0

  -- a place from a on
  behind : (x : ℕ) → get_or (halves_swapped a half o) (a + x) 0 ≡ get_or (halves ++ drop (2 * half) (drop a o)) x 0
  unfolding halves_swapped halves
  behind x =
      let l : length (take a o) ≡ a = length-take-le a o (omega arith) in
      get_or-append_right (take a o) (halves ++ drop (2 * half) (drop a o)) (a + x) 0 (omega (arith, l))
      ∙ ap (λ (i : ℕ). get_or (halves ++ drop (2 * half) (drop a o)) i 0) (omega (arith, l))

  left : (x : ℕ) → x < half → get_or (halves_swapped a half o) (a + x) 0 ≡ get_or o (a + half + x) 0
  unfolding halves
  left x l =
      let e : a + (half + x) ≡ a + half + x = omega arith in
      behind x ∙ get_or-append halves (drop (2 * half) (drop a o)) 0 x (omega (arith, halves-long))
      ∙ get_or-append (drop half (block_from a half o)) (take half (block_from a half o)) 0 x (omega (arith, second-long))
      ∙ get_or-drop half (block_from a half o) x 0 ∙ in-block (half + x) (omega arith) ∙ ap (λ (i : ℕ). get_or o i 0) e

  right : (x : ℕ) → x < half → get_or (halves_swapped a half o) (a + half + x) 0 ≡ get_or o (a + x) 0
  unfolding halves
  right x l =
      let e : a + half + x ≡ a + (half + x) = omega arith in
      let f : half + x - length (drop half (block_from a half o)) ≡ x = omega (arith, second-long) in
      ap (λ (i : ℕ). get_or (halves_swapped a half o) i 0) e
      ∙ behind (half + x) ∙ get_or-append halves (drop (2 * half) (drop a o)) 0 (half + x) (omega (arith, halves-long))
      ∙ get_or-append_right (drop half (block_from a half o)) (take half (block_from a half o)) (half + x) 0 (omega (arith, second-long))
      ∙ ap (λ (i : ℕ). get_or (take half (block_from a half o)) i 0) f
      ∙ get_or-take half (block_from a half o) x 0 l ∙ in-block x (omega arith)

  before : (p : ℕ) → p < a → get_or (halves_swapped a half o) p 0 ≡ get_or o p 0
  unfolding halves_swapped
  before p l =
      get_or-append (take a o) _ 0 p (omega (arith, length-take-le a o (omega arith))) ∙ get_or-take a o p 0 l

  after : (p : ℕ) → a + 2 * half ≤ p → get_or (halves_swapped a half o) p 0 ≡ get_or o p 0
  after p l =
      let x : ℕ = p - a in
      let e : a + (p - a) ≡ p = omega arith in
      let f : a + (2 * half + (p - a - 2 * half)) ≡ p = omega arith in
      let g : p - a - length halves ≡ p - a - 2 * half = omega (arith, halves-long) in
      ap (λ (i : ℕ). get_or (halves_swapped a half o) i 0) (sym e) ∙ behind (p - a)
      ∙ get_or-append_right halves (drop (2 * half) (drop a o)) (p - a) 0 (omega (arith, halves-long))
      ∙ ap (λ (i : ℕ). get_or (drop (2 * half) (drop a o)) i 0) g
      ∙ get_or-drop (2 * half) (drop a o) (p - a - 2 * half) 0 ∙ get_or-drop a o (2 * half + (p - a - 2 * half)) 0
      ∙ ap (λ (i : ℕ). get_or o i 0) f

  -- the list keeps its length
  pub length-halves_swapped : length (halves_swapped a half o) ≡ length o
  unfolding halves_swapped halves
  length-halves_swapped =
      length-append (take a o) (halves ++ drop (2 * half) (drop a o))
      ∙ omega (arith, length-take-le a o (omega arith), length-append halves (drop (2 * half) (drop a o)), halves-long, length-drop (2 * half) (drop a o), length-drop a o)

  pub halves_swapped-swaps : Swapped (length o) a half o (halves_swapped a half o)
  halves_swapped-swaps = record { fits = fits; left = left; right = right; before = before; after = λ p l _. after p l }

-- ---- the exchanged order

-- lists with the same halves swapped are one
pub swapped_one : (n a half : ℕ) (o s u : List ℕ) → Swapped n a half o s → Swapped n a half o u → length s ≡ n → length u ≡ n → s ≡ u
swapped_one n a half o s u x y e f = ext_get_or 0 s u (e ∙ sym f) (λ p l. each p (rw e at l) (dec_lt p a) (dec_lt p (a + half)) (dec_lt p (a + 2 * half)))
  where
    each : (p : ℕ) → p < n → Dec (p < a) → Dec (p < a + half) → Dec (p < a + 2 * half) → get_or s p 0 ≡ get_or u p 0
    each p l (yes b) _ _ = x.before p b ∙ sym (y.before p b)
    each p l (no b) (yes c) _ =
        let q : a + (p - a) ≡ p = omega arith in
        rw q at (x.left (p - a) (omega arith) ∙ sym (y.left (p - a) (omega arith)))
    each p l (no b) (no c) (yes d) =
        let z : ℕ = p - (a + half) in
        let q : a + half + (p - (a + half)) ≡ p = omega arith in
        rw q at (x.right z (omega arith) ∙ sym (y.right z (omega arith)))
    each p l (no b) (no c) (no d) = x.after p (omega arith) l ∙ sym (y.after p (omega arith) l)

-- what is behind the order in the buffer stays
pub halves_swapped-append : (a half : ℕ) (o r : List ℕ) → a + 2 * half ≤ length o → halves_swapped a half (o ++ r) ≡ halves_swapped a half o ++ r
unfolding halves_swapped
halves_swapped-append a half o r fits =
    let l : a ≤ length o = omega arith in
    let m : 2 * half ≤ length (drop a o) = rw (length-drop a o) (omega arith) in
    let e : take a (o ++ r) ≡ take a o = take-append-le a o r l in
    let f : drop a (o ++ r) ≡ drop a o ++ r = drop-append-le a o r l in
    let g : take (2 * half) (drop a o ++ r) ≡ take (2 * half) (drop a o) = take-append-le (2 * half) (drop a o) r m in
    let h : drop (2 * half) (drop a o ++ r) ≡ drop (2 * half) (drop a o) ++ r = drop-append-le (2 * half) (drop a o) r m in
    rw (e, f, g, h) (simp append_assoc)

-- the halves swapped in a buffer that starts with an allowed order
pub swap-exchanges : (k : ℕ) (o r : List ℕ) (v : ℕ) → is_allowed k o ≡ true → 1 ≤ v → v < 2 ^ k
    → halves_swapped (group_start k o v) (half_size k v) (o ++ r) ≡ exchange_fork k o v ++ r
swap-exchanges k o r v allowed a b =
    let w : Swapped (2 ^ k) (group_start k o v) (half_size k v) o (exchange_fork k o v) = fork-swaps k o allowed v a b in
    let n : length o ≡ 2 ^ k = allowed-long k o allowed in
    let fits : group_start k o v + 2 * half_size k v ≤ length o = omega (arith, w.fits) in
    let s : List ℕ = halves_swapped (group_start k o v) (half_size k v) o in
    let e : s ≡ exchange_fork k o v
    = swapped_one (2 ^ k) (group_start k o v) (half_size k v) o s (exchange_fork k o v) (rw n at (halves_swapped-swaps (group_start k o v) (half_size k v) o fits)) w
    (length-halves_swapped (group_start k o v) (half_size k v) o fits ∙ n) (length-exchange k o (2 ^ v)) in
    halves_swapped-append (group_start k o v) (half_size k v) o r fits ∙ ap (λ (l : List ℕ). l ++ r) e
