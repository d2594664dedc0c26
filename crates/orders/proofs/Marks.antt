-- Every fork is the lowest above the stops in two neighbouring places, so a string in which the bit of each lowest fork is set exactly
-- if bit t of the stop in p is 0 is the string of the set that gives the order.
use mathlib.Core.Path.{◌≡◌, refl, sym, ap, ◌∙◌}
use mathlib.Core.Bool.{Bool, true, false, cond}
use mathlib.Core.List.{List, ◌++◌}
use Prim.Native.Nat.{ℕ, zero, suc, ◌+◌, ◌*◌, ◌-◌, ◌/◌, ◌%◌, ◌^◌, ◌≤◌, ◌<◌}
use native.Mathlib.Nat.{pow-succ', add-zero, div-one, one-le-mul, mul-div_cancel}
use native.Mathlib.Decide.{dec_lt}
use native.Mathlib.Omega.{arith}
use lib.Dec.{eqb}
use lib.ListN.{length, get_or, take, drop, replicate, length-replicate, get_or-replicate, get_or-append, take-append-drop}
use lib.Pow.{pow_pos, pow_mono, shl_lt}
use lib.Seq.{get_or-take, length-take-le}
use borrow.Author.Tests.{eqb-true, eqb-false}
use Rattle.tree.specs.Fork.{bit}
use Rattle.tree.specs.Order.{stop_in}
use Rattle.tree.specs.Neighbour.{trail, in_place, lowest_fork, fork_state}
use Rattle.tree.proofs.Beside.{trail-lt, trail-join}
use Rattle.tree.proofs.Bit.{shr-half, shr-add, bit-zero}
use Rattle.tree.proofs.Link.{stop_in-stop, get_or-order_of}
use Rattle.tree.proofs.Node.{node, place, node-half, node-lt, node-place, place-lt}
use Rattle.tree.proofs.Seven.{stop, stop-node}
use Rattle.tree.proofs.Theorem7.{read-fork}
use Rattle.orders.specs.Bits.{byte_count, bit_string, string_bit, raised, marked}
use Rattle.orders.proofs.Same.{equal}
use Rattle.orders.proofs.Allowed.{Gives}
use Rattle.orders.proofs.Bits.{bit-lt, bit-none, bit_past, are_bytes-all, string-ext, set-fits, length-raised, drop-raised, raised-same, raised-other, raised-bytes}

-- ---- every fork is the lowest above two neighbours

-- to leave out the lowest d bits of a place is to go up d depths
pub node-shr : (f : ℕ → ℕ) (e d p : ℕ) → node f (e + d) p / 2 ^ d ≡ node f e (p / 2 ^ d)
node-shr f e zero p = rw (add-zero e, div-one p, div-one (node f e p))
node-shr f e (suc d) p =
    let h : e + suc d ≡ suc e + d = omega arith in
    rw (h, ← shr-half (node f (suc e + d) p) d, node-shr f (suc e) d p, node-half f e (p / 2 ^ d), shr-half p d)

module _ (k F : ℕ) where
  -- the lowest fork above places p - 1 and p is the one in place p / 2^(t+1) at its depth
  lowest-node : (p : ℕ) → 1 ≤ p → p < 2 ^ k → lowest_fork k p (stop_in k F p) ≡ node (bit F) (k - 1 - trail p) (p / 2 ^ suc (trail p))
  lowest-node p a b =
      let t : ℕ = trail p in
      let i : ℕ = stop (bit F) k p in
      let h : ℕ = k - 1 - t in
      let l : t < k = trail-lt k p a b in
      let e : k ≡ h + suc t = omega arith in
      let d : k - h ≡ suc t = omega arith in
      let u : (2 ^ k + i) / 2 ^ suc t ≡ 2 ^ h + i / 2 ^ suc t = ap (λ x. (2 ^ x + i) / 2 ^ suc t) e ∙ shr-add h (suc t) i in
      let n : (2 ^ k + i) / 2 ^ suc t ≡ node (bit F) h (p / 2 ^ suc t)
      = rw (stop-node (bit F) k p) (ap (λ x. node (bit F) x p / 2 ^ suc t) e ∙ node-shr (bit F) h (suc t) p) in
      rw (stop_in-stop k F p, d) (sym u ∙ n)

  -- it is a fork of the tree
  pub lowest-lt : (p : ℕ) → 1 ≤ p → p < 2 ^ k → lowest_fork k p (stop_in k F p) < 2 ^ k
  lowest-lt p a b =
      let h : ℕ = k - 1 - trail p in
      let l : trail p < k = trail-lt k p a b in
      rw (lowest-node p a b) (omega (arith, node-lt (bit F) h (p / 2 ^ suc (trail p)), pow_mono {i = suc h} {j = k} (omega arith)))

-- the depth of a fork
record Depth (k v : ℕ) : Type 0 where
  pub depth : ℕ
  pub above : depth < k
  pub low : 2 ^ depth ≤ v
  pub high : v < 2 ^ suc depth

depth-of : (k v : ℕ) → 1 ≤ v → v < 2 ^ k → Depth k v
depth-of zero v a b = absurd (omega arith)
depth-of (suc k) v a b = go (depth-of k v a) (dec_lt v (2 ^ k))
  where
    go : (v < 2 ^ k → Depth k v) → Dec (v < 2 ^ k) → Depth (suc k) v
    go ih (yes h) = let d = ih h in record { depth = d.depth; above = omega (arith, d.above); low = d.low; high = d.high }
    go ih (no h) = record { depth = k; above = omega arith; low = omega arith; high = b }

-- a place at which fork v is the lowest above it and the place before
pub record Lowest (k F v : ℕ) : Type 0 where
  pub at : ℕ
  pub first : 1 ≤ at
  pub last : at < 2 ^ k
  pub is : lowest_fork k at (stop_in k F at) ≡ v

pub lowest : (k F v : ℕ) → 1 ≤ v → v < 2 ^ k → Lowest k F v
lowest k F v a b = record { at = q; first = first'; last = last'; is = lowest-node k F q first' last' ∙ rw (t-is, q-half, h-is) n }
  where
    d : Depth k v
    d = depth-of k v a b

    h : ℕ
    h = d.depth

    t : ℕ
    t = k - 1 - h

    p : ℕ
    p = place (bit F) h v

    q : ℕ
    q = (2 * p + 1) * 2 ^ t

    first' : 1 ≤ q
    first' = one-le-mul (omega arith) (pow_pos t)

    last' : q < 2 ^ k
    last' =
        let e : suc h + t ≡ k = omega (arith, d.above) in
        rw e at (shl_lt {a = 2 * p + 1} (suc h) t (omega (arith, place-lt (bit F) h v, pow-succ' 2 h)))

    t-is : trail q ≡ t
    t-is = trail-join p t

    h-is : k - 1 - t ≡ h
    h-is = omega (arith, d.above)

    q-half : q / 2 ^ suc t ≡ p
    q-half = rw (← shr-half q t, mul-div_cancel (2 * p + 1) (pow_pos t)) (omega arith)

    n : node (bit F) h p ≡ v
    n = node-place (bit F) h v d.low d.high

-- ---- the string while its bits are set

-- after the places below p: the first bytes of `before` were all 0; no bit is set that the set F has not, and each lowest fork that was
-- met has its bit
pub record Marks (k : ℕ) (o : List ℕ) (F : ℕ) (before after : List ℕ) (p : ℕ) : Type 0 where
  pub long : length after ≡ length before
  pub rest : drop (byte_count (2 ^ k)) after ≡ drop (byte_count (2 ^ k)) before
  pub bytes : (j : ℕ) → get_or after j 0 < 256
  pub under : (v : ℕ) → v < 8 * byte_count (2 ^ k) → string_bit after v ≤ bit F v
  pub done : (q : ℕ) → 1 ≤ q → q < p → bit F (lowest_fork k q (in_place o q)) ≤ string_bit after (lowest_fork k q (in_place o q))

module _ (k : ℕ) (o : List ℕ) (F : ℕ) (g : Gives k o F) where
  -- the stop in a place
  stop_is : (p : ℕ) → p < 2 ^ k → in_place o p ≡ stop_in k F p
  stop_is p b = rw (← g.given) (get_or-order_of k F p b)

  -- a lowest fork's state
  state : (p : ℕ) → 1 ≤ p → p < 2 ^ k → bit F (lowest_fork k p (in_place o p)) ≡ fork_state p (in_place o p)
  state p a b = rw (stop_is p b) (read-fork k F p a b)

  -- it is a fork of the tree
  fork-lt : (p : ℕ) → 1 ≤ p → p < 2 ^ k → lowest_fork k p (in_place o p) < 2 ^ k
  fork-lt p a b = rw (stop_is p b) (lowest-lt k F p a b)

  -- at first no bit is set
  pub marks-none : (d : List ℕ) → ((j : ℕ) → get_or (replicate (byte_count (2 ^ k)) 0 ++ drop (byte_count (2 ^ k)) d) j 0 < 256)
      → Marks k o F (replicate (byte_count (2 ^ k)) 0 ++ drop (byte_count (2 ^ k)) d) (replicate (byte_count (2 ^ k)) 0 ++ drop (byte_count (2 ^ k)) d) 1
  marks-none d bytes = record { long = refl; rest = refl; bytes = bytes; under = none; done = λ q a b. absurd (omega arith) }
    where
      m : ℕ
      m = byte_count (2 ^ k)

      none : (v : ℕ) → v < 8 * m → string_bit (replicate m 0 ++ drop m d) v ≤ bit F v
      none v b =
          let l : v / 8 < m = omega arith in
          let z : get_or (replicate m 0 ++ drop m d) (v / 8) 0 ≡ 0
          = get_or-append (replicate m 0) (drop m d) 0 (v / 8) (rw (length-replicate {A = ℕ} m 0) l) ∙ get_or-replicate m (v / 8) 0 0 l in
          rw (z, bit-none (v % 8)) (omega arith)

  module _ (before after : List ℕ) (p : ℕ) (first : 1 ≤ p) (last : p < 2 ^ k) (room : byte_count (2 ^ k) ≤ length after)
      (h : Marks k o F before after p) where
    abbrev m : ℕ
    m = byte_count (2 ^ k)

    abbrev b : ℕ
    b = in_place o p

    abbrev v : ℕ
    v = lowest_fork k p b

    in-string : v / 8 < m
    in-string = omega (arith, fork-lt p first last)

    -- an exchanged fork's bit is set
    raise : fork_state p b ≡ 1 → Marks k o F before (raised after v) (p + 1)
    raise e = record {
      long = length-raised after v fits ∙ h.long;
      rest = drop-raised after v fits m in-string ∙ h.rest;
      bytes = raised-bytes after v fits h.bytes;
      under = λ w l. under' w l (equal w v);
      done = λ q x y. done' q x y (equal (lowest_fork k q (in_place o q)) v);
    }
      where
        fits : v / 8 < length after
        fits = omega (arith, in-string)

        one : bit F v ≡ 1
        one = state p first last ∙ e

        under' : (w : ℕ) → w < 8 * m → Dec (w ≡ v) → string_bit (raised after v) w ≤ bit F w
        under' w l (yes s) = rw s (omega (arith, raised-same after v fits, one))
        under' w l (no s) = rw (raised-other after v fits w s) (h.under w l)

        done' : (q : ℕ) → 1 ≤ q → q < p + 1 → Dec (lowest_fork k q (in_place o q) ≡ v)
            → bit F (lowest_fork k q (in_place o q)) ≤ string_bit (raised after v) (lowest_fork k q (in_place o q))
        done' q x y (yes s) = rw s (omega (arith, raised-same after v fits, bit-lt F v))
        done' q x y (no s) = rw (raised-other after v fits (lowest_fork k q (in_place o q)) s) (h.done q x (earlier (equal q p)))
          where
            earlier : Dec (q ≡ p) → q < p
            earlier (yes i) = absurd (s (ap (λ z. lowest_fork k z (in_place o z)) i))
            earlier (no i) = omega arith

    -- no other is
    keep : (fork_state p b ≡ 1 → ⊥) → Marks k o F before after (p + 1)
    keep e = record { long = h.long; rest = h.rest; bytes = h.bytes; under = h.under; done = λ q x y. done' q x y (equal q p) }
      where
        done' : (q : ℕ) → 1 ≤ q → q < p + 1 → Dec (q ≡ p) → bit F (lowest_fork k q (in_place o q)) ≤ string_bit after (lowest_fork k q (in_place o q))
        done' q x y (yes i) =
            let z : bit F v ≡ 0 = omega (arith, state p first last, bit-lt F v, not-one e) in
            rw i (omega (arith, z))
          where
            not-one : (fork_state p b ≡ 1 → ⊥) → fork_state p b ≡ 0
            not-one f = zero_or (fork_state p b) refl
              where
                zero_or : (x : ℕ) → fork_state p b ≡ x → fork_state p b ≡ 0
                zero_or zero r = r
                zero_or (suc x) r = absurd (f (omega arith))
        done' q x y (no i) = h.done q x (omega arith)

    -- one place more
    pub marks-more : Marks k o F before (marked k p (in_place o p) after) (p + 1)
    unfolding marked
    marks-more = go (eqb (fork_state p b) 1) refl
      where
        go : (t : Bool) → eqb (fork_state p b) 1 ≡ t → Marks k o F before (cond t (raised after v) after) (p + 1)
        go true e = raise (eqb-true _ _ e)
        go false e = keep (eqb-false _ _ e)

  -- after all places the string is that of the set
  pub marks-all : (before after : List ℕ) (p : ℕ) → 2 ^ k ≤ p → byte_count (2 ^ k) ≤ length after → Marks k o F before after p
      → after ≡ bit_string k F ++ drop (byte_count (2 ^ k)) before
  marks-all before after p end room h =
      sym (take-append-drop m after) ∙ rw (front, h.rest)
    where
      m : ℕ
      m = byte_count (2 ^ k)

      same : (v : ℕ) → v < 8 * m → Dec (v < 2 ^ k) → string_bit after v ≡ bit F v
      same zero l d = omega (arith, bit-zero F, g.even, h.under 0 l)
      same (suc v) l (yes x) =
          let f = lowest k F (suc v) (omega arith) x in
          let e : lowest_fork k f.at (in_place o f.at) ≡ suc v = rw (stop_is f.at f.last) f.is in
          let u : bit F (suc v) ≤ string_bit after (suc v) = rw e at (h.done f.at f.first (omega (arith, f.last))) in
          omega (arith, h.under (suc v) l)
      same (suc v) l (no x) = omega (arith, h.under (suc v) l, bit_past F (2 ^ k) (suc v) g.small (omega arith))

      front : take m after ≡ bit_string k F
      front = string-ext m (take m after) F
          (are_bytes-all (take m after) (λ j l. rw (get_or-take m after j 0 (omega (arith, length-take-le m after room))) (h.bytes j)))
          (length-take-le m after room)
          (set-fits k F g.small)
          (λ v l. rw (get_or-take m after (v / 8) 0 (omega arith)) (same v l (dec_lt v (2 ^ k))))
