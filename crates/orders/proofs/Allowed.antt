-- Laws of the judgement of an order: the tests say what they are to say, Theorem 7's test decides 10, and the set that gives an order is
-- the only one.
use mathlib.Core.Path.{◌≡◌, refl, sym, ap, subst, ◌∙◌}
use mathlib.Core.Bool.{Bool, true, false, true≢false, false≢true, cond, ◌||◌}
use mathlib.Core.List.{List, [], ◌∷◌}
use mathlib.Core.Logic.{◌↔◌}
use Prim.Native.Nat.{ℕ, zero, suc, ◌*◌, ◌-◌, ◌/◌, ◌%◌, ◌^◌, ◌≤◌, ◌<◌}
use native.Mathlib.Nat.{pow-succ'}
use native.Mathlib.Decide.{dec_lt}
use native.Mathlib.Omega.{arith}
use lib.Dec.{ltb}
use Rattle.std.specs.List.{list_all}
use lib.ListN.{length, get_or}
use lib.Pow.{pow_pos}
use borrow.Author.Tests.{lt-ltb, ltb-true}
use Rattle.base.specs.Refusal.{no_such_stop, not_allowed}
use Rattle.base.specs.Outcome.{gives, refuses, number}
use Rattle.base.proofs.Outcome.{passed}
use Rattle.tree.specs.Order.{order_of, Allowed}
use Rattle.tree.specs.Neighbour.{may_follow, in_place, Meets}
use Rattle.tree.proofs.Graph.{may_follow-iff}
use Rattle.tree.proofs.Theorem7.{theorem7, set_of, set_of-lt, set_of-even, set_of-order_of, backward}
use Rattle.orders.specs.Same.{alike}
use Rattle.orders.specs.Allowed.{stops_below, some_set, set_giving, set_count, is_allowed, forks_of, judge_order}
use Rattle.base.proofs.Bools.{both}
use Rattle.orders.proofs.Same.{alike_same, same_alike}

-- ---- stops below n

-- each is, where all are
pub below_each : (n : ℕ) (o : List ℕ) → stops_below n o ≡ true → (p : ℕ) → p < length o → get_or o p 0 < n
unfolding stops_below
below_each n [] h p b = absurd (omega arith)
below_each n (a ∷ o) h zero b = ltb-true a n (both (ltb a n) (stops_below n o) h).0
below_each n (a ∷ o) h (suc p) b = below_each n o (both (ltb a n) (stops_below n o) h).1 p (omega arith)

-- all are, where each is
pub below_all : (n : ℕ) (o : List ℕ) → ((p : ℕ) → p < length o → get_or o p 0 < n) → stops_below n o ≡ true
unfolding stops_below
below_all n [] h = refl
below_all n (a ∷ o) h = rw (lt-ltb a n (h 0 (omega arith))) (below_all n o (λ p b. h (suc p) (omega arith)))

-- the test of all, as a chain has it
pub stops_below-all : (n : ℕ) (o : List ℕ) → stops_below n o ≡ list_all (λ b. ltb b n) o
unfolding stops_below
stops_below-all n [] = refl
stops_below-all n (a ∷ o) = rw (stops_below-all n o)

-- ---- the sets that give an order

-- F is a set of forks of the tree, and gives the order o
pub record Gives (k : ℕ) (o : List ℕ) (F : ℕ) : Type 0 where
  pub given : order_of k F ≡ o
  pub even : F % 2 ≡ 0
  pub small : F < 2 ^ 2 ^ k

-- there is one such set at most
pub gives_one : (k : ℕ) (o : List ℕ) (F G : ℕ) → Gives k o F → Gives k o G → F ≡ G
gives_one k o F G f g =
    sym (set_of-order_of k F f.small f.even) ∙ ap (set_of k) (f.given ∙ sym g.given) ∙ set_of-order_of k G g.small g.even

-- an allowed order is given by its set
pub allowed-gives : (k : ℕ) (o : List ℕ) → Allowed k o → Gives k o (set_of k o)
allowed-gives k o a = record { given = backward k o ((theorem7 k o).0 a); even = set_of-even k o; small = set_of-lt k o }

-- twice the number of sets is 2^n
pub set_count-twice : (k : ℕ) → 2 * set_count k ≡ 2 ^ 2 ^ k
set_count-twice k = sym (subst (λ x. 2 ^ x ≡ 2 * 2 ^ (2 ^ k - 1)) (omega (arith, pow_pos k)) (pow-succ' 2 (2 ^ k - 1)))

module _ (k : ℕ) (o : List ℕ) where
  -- what the enumeration finds gives the order
  found : (m : ℕ) → some_set k o m ≡ true → (order_of k (set_giving k o m) ≡ o) × (set_giving k o m % 2 ≡ 0) × (set_giving k o m < 2 * m)
  unfolding some_set set_giving
  found zero h = absurd (false≢true h)
  found (suc m) h = go (alike (order_of k (2 * m)) o) refl h (found m)
    where
      go : (t : Bool) → alike (order_of k (2 * m)) o ≡ t → (t || some_set k o m) ≡ true
          → (some_set k o m ≡ true → (order_of k (set_giving k o m) ≡ o) × (set_giving k o m % 2 ≡ 0) × (set_giving k o m < 2 * m))
          → (order_of k (cond t (2 * m) (set_giving k o m)) ≡ o) × (cond t (2 * m) (set_giving k o m) % 2 ≡ 0) × (cond t (2 * m) (set_giving k o m) < 2 * suc m)
      go true e q ih = (alike_same _ _ e, omega arith, omega arith)
      go false e q ih = let r = ih q in (r.0, r.1, omega (arith, r.2))

  -- it finds one where there is one
  finds : (m j : ℕ) → j < m → order_of k (2 * j) ≡ o → some_set k o m ≡ true
  unfolding some_set
  finds zero j b e = absurd (omega arith)
  finds (suc m) j b e = go (alike (order_of k (2 * m)) o) refl (dec_lt j m) (λ h. finds m j h e)
    where
      go : (t : Bool) → alike (order_of k (2 * m)) o ≡ t → Dec (j < m) → (j < m → some_set k o m ≡ true) → (t || some_set k o m) ≡ true
      go true q d ih = refl
      go false q (yes h) ih = ih h
      go false q (no h) ih = let i : j ≡ m = omega arith in absurd (true≢false (sym (same_alike _ _ (rw (← i) e)) ∙ q))

  -- the set of an allowed order gives it
  pub forks_of-gives : is_allowed k o ≡ true → Gives k o (forks_of k o)
  unfolding is_allowed forks_of
  forks_of-gives h =
      let f = found (set_count k) h in
      record { given = f.0; even = f.1; small = omega (arith, f.2, set_count-twice k) }

  -- a set of forks that gives the order makes it allowed
  pub gives-allowed : (F : ℕ) → Gives k o F → is_allowed k o ≡ true
  unfolding is_allowed
  gives-allowed F g =
      let e : 2 * (F / 2) ≡ F = omega (arith, g.even) in
      finds (set_count k) (F / 2) (omega (arith, g.small, set_count-twice k)) (rw e g.given)

-- 'It is allowed exactly if some set of forks gives it': the test by enumeration says so
pub is_allowed-iff : (k : ℕ) (o : List ℕ) → (is_allowed k o ≡ true) ↔ Allowed k o
is_allowed-iff k o = (λ h. (forks_of k o, (forks_of-gives k o h).given), λ a. gives-allowed k o (set_of k o) (allowed-gives k o a))

-- the order of a set is allowed
pub order_of-allowed : (k F : ℕ) → is_allowed k (order_of k F) ≡ true
order_of-allowed k F = (is_allowed-iff k (order_of k F)).1 (F, refl)

-- the set that gives an allowed order is the one that Theorem 7 reads off it
pub forks_of-set_of : (k : ℕ) (o : List ℕ) → is_allowed k o ≡ true → forks_of k o ≡ set_of k o
forks_of-set_of k o h = gives_one k o _ _ (forks_of-gives k o h) (allowed-gives k o ((is_allowed-iff k o).0 h))

-- the set of the order of F is F
pub forks_of-order_of : (k F : ℕ) → F % 2 ≡ 0 → F < 2 ^ 2 ^ k → forks_of k (order_of k F) ≡ F
forks_of-order_of k F e s =
    let g : Gives k (order_of k F) F = record { given = refl; even = e; small = s } in
    gives_one k (order_of k F) _ F (forks_of-gives k (order_of k F) (gives-allowed k (order_of k F) F g)) g

-- ---- Theorem 7's test decides

module _ (k : ℕ) (o : List ℕ) where
  -- an order that passes at every place is allowed
  pub passes-allowed : length o ≡ 2 ^ k → stops_below (2 ^ k) o ≡ true
      → ((p : ℕ) → 1 ≤ p → p < 2 ^ k → may_follow p (in_place o (p - 1)) (in_place o p) ≡ true) → is_allowed k o ≡ true
  passes-allowed long below passes = (is_allowed-iff k o).1 ((theorem7 k o).1 meets)
    where
      meets : Meets k o
      meets = record {
        long = long;
        small = λ p b. below_each (2 ^ k) o below p (omega arith);
        near = λ p a b. (may_follow-iff p _ _).0 (passes p a b);
      }

  -- one that fails at a place is not
  pub fails-not : (p : ℕ) → 1 ≤ p → p < 2 ^ k → may_follow p (in_place o (p - 1)) (in_place o p) ≡ false → is_allowed k o ≡ false
  fails-not p a b h = go (is_allowed k o) refl
    where
      go : (t : Bool) → is_allowed k o ≡ t → is_allowed k o ≡ false
      go true e =
          let m : Meets k o = (theorem7 k o).0 ((is_allowed-iff k o).0 e) in
          absurd (true≢false (sym ((may_follow-iff p _ _).1 (m.near p a b)) ∙ h))
      go false e = e

-- ---- the judgement of an order

module _ (k : ℕ) (o : List ℕ) where
  -- 9 where a stop is not below n
  pub judge-stop : stops_below (2 ^ k) o ≡ false → judge_order k o ≡ refuses no_such_stop
  unfolding judge_order
  judge-stop h = rw h

  -- itself otherwise
  pub judge-good : stops_below (2 ^ k) o ≡ true → is_allowed k o ≡ true → judge_order k o ≡ gives o
  unfolding judge_order
  judge-good h a = rw (h, a)

  -- and only then
  pub judged-good : number (judge_order k o) ≡ 0 → (stops_below (2 ^ k) o ≡ true) × (is_allowed k o ≡ true)
  unfolding judge_order
  judged-good h =
      let below = passed (stops_below (2 ^ k) o) no_such_stop _ (omega arith) h in
      (below.holds, (passed (is_allowed k o) not_allowed _ (omega arith) below.goes_on).holds)

  -- an allowed order has n stops
  pub allowed-long : is_allowed k o ≡ true → length o ≡ 2 ^ k
  allowed-long h = ((theorem7 k o).0 ((is_allowed-iff k o).0 h)).long

  -- that are below n
  pub allowed-below : is_allowed k o ≡ true → stops_below (2 ^ k) o ≡ true
  allowed-below h =
      let m : Meets k o = (theorem7 k o).0 ((is_allowed-iff k o).0 h) in
      below_all (2 ^ k) o (λ p b. m.small p (omega (arith, m.long)))
