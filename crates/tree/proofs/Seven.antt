-- Theorem 7, for orders as functions from places to stops and sets of forks as functions: an order is allowed exactly if
-- any two stops in neighbouring places p - 1 and p lie on two sides of one fork, that with 2^t stops on each side, t the number of
-- trailing zero bits of p.
use mathlib.Core.Path.{◌≡◌, refl, ap, ◌∙◌}
use mathlib.Core.Logic.{◌⊎◌, inl, inr}
use Prim.Native.Nat.{ℕ, zero, suc, ◌+◌, ◌*◌, ◌-◌, ◌/◌, ◌%◌, ◌^◌, ◌≤◌, ◌<◌}
use native.Mathlib.Nat.{pow-succ', div-one}
use native.Mathlib.Decide.{dec_lt}
use native.Mathlib.Omega.{arith}
use Rattle.tree.specs.Neighbour.{trail}
use Rattle.tree.proofs.Node.{node, place, node-suc, node-half, node-ge, node-lt, node-same, place-node}
use Rattle.tree.proofs.Beside.{trail-odd, trail-even, parity, shr-suc, Beside, beside-up, beside-down, beside-zero, beside-zero-same, beside-zero-apart}

-- the stop in place p of a tree with 2^k stops
unfoldable pub stop : (ℕ → ℕ) → ℕ → ℕ → ℕ
stop f k p = node f k p - 2 ^ k

module _ (f : ℕ → ℕ) where
  -- a stop is a node less 2^k
  pub stop-node : (k p : ℕ) → 2 ^ k + stop f k p ≡ node f k p
  unfolding stop
  stop-node k p = omega (arith, node-ge f k p)

  -- and less than 2^k
  pub stop-lt : (k p : ℕ) → stop f k p < 2 ^ k
  stop-lt k p = omega (arith, stop-node k p, node-lt f k p, pow-succ' 2 k)

  -- one depth more: the last bit of the place
  pub stop-suc : (k p : ℕ) → stop f (suc k) p ≡ 2 * stop f k (p / 2) + (p % 2 + f (2 ^ k + stop f k (p / 2))) % 2
  stop-suc k p = rw (stop-node k (p / 2)) (omega (arith, stop-node k (p / 2), stop-node (suc k) p, pow-succ' 2 k, node-suc f k p))

  -- the fork above, as a stop of the smaller tree
  pub stop-half : (k p : ℕ) → stop f (suc k) p / 2 ≡ stop f k (p / 2)
  stop-half k p = omega (arith, stop-suc k p)

  -- forward: the stops in places p - 1 and p
  pub stops-beside : (k p : ℕ) → 1 ≤ p → p < 2 ^ k → Beside (trail p) (stop f k (p - 1)) (stop f k p)
  stops-beside zero p a b = absurd (omega arith)
  stops-beside (suc k) p a b = go (λ x. stops-beside k (p / 2) x (omega (arith, pow-succ' 2 k))) (parity p)
    where
      go : (1 ≤ p / 2 → Beside (trail (p / 2)) (stop f k (p / 2 - 1)) (stop f k (p / 2))) → (p % 2 ≡ 0) ⊎ (p % 2 ≡ 1)
          → Beside (trail p) (stop f (suc k) (p - 1)) (stop f (suc k) p)
      go ih (inl h) =
          let e : (p - 1) / 2 ≡ p / 2 - 1 = omega arith in
          rw (trail-even p a h) (beside-up _ _ _ (rw (stop-half k (p - 1), stop-half k p, e) (ih (omega arith))))
      go ih (inr h) =
          let e : (p - 1) / 2 ≡ p / 2 = omega arith in
          let s : stop f (suc k) (p - 1) ≡ 2 * stop f k (p / 2) + ((p - 1) % 2 + f (2 ^ k + stop f k (p / 2))) % 2
          = rw (← e) (stop-suc k (p - 1)) in
          rw (trail-odd p h) (beside-zero _ _ (omega (arith, stop-suc k p)) (omega (arith, stop-suc k p)))

-- the lowest fork above the stops in places p - 1 and p is exchanged exactly if bit t of the stop in p is 0
pub node-read : (f : ℕ → ℕ) (k p : ℕ) → 1 ≤ p → p < 2 ^ k → f (node f k p / 2 ^ suc (trail p)) % 2 + node f k p / 2 ^ trail p % 2 ≡ 1
node-read f zero p a b = omega arith
node-read f (suc k) p a b = go (λ x. node-read f k (p / 2) x (omega (arith, pow-succ' 2 k))) (parity p)
  where
    go : (1 ≤ p / 2 → f (node f k (p / 2) / 2 ^ suc (trail (p / 2))) % 2 + node f k (p / 2) / 2 ^ trail (p / 2) % 2 ≡ 1) → (p % 2 ≡ 0) ⊎ (p % 2 ≡ 1)
        → f (node f (suc k) p / 2 ^ suc (trail p)) % 2 + node f (suc k) p / 2 ^ trail p % 2 ≡ 1
    go ih (inl h) =
        let n : ℕ = node f (suc k) p in
        let t : ℕ = trail (p / 2) in
        rw (trail-even p a h, shr-suc n (suc t), shr-suc n t, node-half f k p) (ih (omega arith))
    go ih (inr h) = rw (trail-odd p h, node-half f k p, div-one) (omega (arith, node-suc f k p))

-- what an allowed order is, for the order as a function
pub record Good (k : ℕ) (o : ℕ → ℕ) : Type 0 where
  pub small : (p : ℕ) → p < 2 ^ k → o p < 2 ^ k
  pub beside : (p : ℕ) → 1 ≤ p → p < 2 ^ k → Beside (trail p) (o (p - 1)) (o p)

module _ (k : ℕ) (o : ℕ → ℕ) (g : Good (suc k) o) where
  -- the stops in places 2p and 2p + 1 lie on two sides of one fork
  pair : (p : ℕ) → p < 2 ^ k → Beside 0 (o (2 * p)) (o (2 * p + 1))
  pair p b =
      let e : 2 * p + 1 - 1 ≡ 2 * p = omega arith in
      rw (trail-odd (2 * p + 1) (omega arith), e) at (g.beside (2 * p + 1) (omega arith) (omega (arith, pow-succ' 2 k)))

  -- an order of the tree's stops is one of the forks just above them
  good-half : Good k (λ p. o (2 * p) / 2)
  good-half = record { small = small'; beside = beside' }
    where
      small' : (p : ℕ) → p < 2 ^ k → o (2 * p) / 2 < 2 ^ k
      small' p b = omega (arith, g.small (2 * p) (omega (arith, pow-succ' 2 k)), pow-succ' 2 k)

      beside' : (p : ℕ) → 1 ≤ p → p < 2 ^ k → Beside (trail p) (o (2 * (p - 1)) / 2) (o (2 * p) / 2)
      beside' p a b =
          let e : 2 * p - 1 ≡ 2 * (p - 1) + 1 = omega arith in
          let h : 2 * p / 2 ≡ p = omega arith in
          let t : trail (2 * p) ≡ suc (trail p) = rw (trail-even (2 * p) (omega arith) (omega arith), h) in
          rw (beside-zero-same _ _ (pair (p - 1) (omega arith)))
          (beside-down _ _ _ (rw (t, e) at (g.beside (2 * p) (omega arith) (omega (arith, pow-succ' 2 k)))))

-- f below n, and g from n on
unfoldable pub glue : ℕ → (ℕ → ℕ) → (ℕ → ℕ) → ℕ → ℕ
unfolding dec_lt
glue n f g v = elim (dec_lt v n) [ yes h ↦ f v | no h ↦ g v ]

-- below n it is f
pub glue-lt : (n : ℕ) (f g : ℕ → ℕ) (v : ℕ) → v < n → glue n f g v ≡ f v
unfolding glue
glue-lt n f g v h = go (dec_lt v n)
  where
    go : (d : Dec (v < n)) → elim d as (λ x. ℕ) [ yes h ↦ f v | no h ↦ g v ] ≡ f v
    go (yes e) = refl
    go (no e) = absurd (e h)

-- from n on it is g
pub glue-ge : (n : ℕ) (f g : ℕ → ℕ) (v : ℕ) → n ≤ v → glue n f g v ≡ g v
unfolding glue
glue-ge n f g v h = go (dec_lt v n)
  where
    go : (d : Dec (v < n)) → elim d as (λ x. ℕ) [ yes h ↦ f v | no h ↦ g v ] ≡ g v
    go (yes e) = absurd (omega arith)
    go (no e) = refl

-- the set of forks that gives an order: a lowest fork is exchanged exactly if the first of its two stops is the odd one
unfoldable pub forks : ℕ → (ℕ → ℕ) → ℕ → ℕ
forks zero o v = 0
forks (suc k) o v =
    let f = forks k (λ p. o (2 * p) / 2) in
    glue (2 ^ k) f (λ w. o (2 * place f k w)) v

-- forks above the lowest depth are those of the half order
forks-lt : (k : ℕ) (o : ℕ → ℕ) (v : ℕ) → v < 2 ^ k → forks (suc k) o v ≡ forks k (λ p. o (2 * p) / 2) v
unfolding forks
forks-lt k o v b = glue-lt (2 ^ k) _ _ v b

-- a fork of the lowest depth is read off its first stop
forks-ge : (k : ℕ) (o : ℕ → ℕ) (v : ℕ) → 2 ^ k ≤ v → forks (suc k) o v ≡ o (2 * place (forks k (λ p. o (2 * p) / 2)) k v)
unfolding forks
forks-ge k o v b = glue-ge (2 ^ k) _ _ v b

-- backward: the set gives the order
pub forks-give : (k : ℕ) (o : ℕ → ℕ) → Good k o → (p : ℕ) → p < 2 ^ k → stop (forks k o) k p ≡ o p
forks-give zero o g p b =
    let e : p ≡ 0 = omega arith in
    rw e (omega (arith, g.small 0 (omega arith), stop-lt (forks 0 o) 0 0))
forks-give (suc k) o g p b =
    let f : ℕ → ℕ = forks k (λ q. o (2 * q) / 2) in
    let F : ℕ → ℕ = forks (suc k) o in
    let q : ℕ = p / 2 in
    let c : q < 2 ^ k = omega (arith, pow-succ' 2 k) in
    let n : node F k q ≡ node f k q = node-same F f k (λ v x y. rw (forks-lt k o v y)) q in
    let ih : stop f k q ≡ o (2 * q) / 2 = forks-give k (λ q. o (2 * q) / 2) (good-half k o g) q c in
    let d : F (2 ^ k + stop F k q) ≡ o (2 * q)
    = rw (stop-node F k q, n) (forks-ge k o (node f k q) (node-ge f k q) ∙ rw (place-node f k q c)) in
    let e : stop F k q ≡ o (2 * q) / 2 = omega (arith, stop-node F k q, stop-node f k q) in
    let w : Beside 0 (o (2 * q)) (o (2 * q + 1)) = pair k o g q c in
    let r : stop F (suc k) p ≡ 2 * (o (2 * q) / 2) + (p % 2 + o (2 * q)) % 2 = stop-suc F k p ∙ rw (d, e) in
    go r w (parity p)
  where
    go : stop (forks (suc k) o) (suc k) p ≡ 2 * (o (2 * (p / 2)) / 2) + (p % 2 + o (2 * (p / 2))) % 2 → Beside 0 (o (2 * (p / 2))) (o (2 * (p / 2) + 1))
        → (p % 2 ≡ 0) ⊎ (p % 2 ≡ 1) → stop (forks (suc k) o) (suc k) p ≡ o p
    go r w (inl h) =
        let e : o (2 * (p / 2)) ≡ o p = ap o (omega arith) in
        omega arith
    go r w (inr h) =
        let e : o (2 * (p / 2) + 1) ≡ o p = ap o (omega arith) in
        omega (arith, beside-zero-same _ _ w, beside-zero-apart _ _ w)
