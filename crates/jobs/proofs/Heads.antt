-- A job's path by its head: the head's refusal, and directly after it that of k, is the path's.
use mathlib.Core.Path.{◌≡◌, refl, sym, ap, ◌∙◌}
use mathlib.Core.List.{List}
use Prim.Native.Nat.{ℕ}
use native.Mathlib.Omega.{arith}
use Rattle.base.specs.Outcome.{Outcome, gives, refuses, and_then, giving}
use Rattle.base.proofs.Outcome.{refused-giving}
use Rattle.path.specs.Path.{PathHead, read_head, read_path}
use Rattle.path.proofs.JudgeLaws.{path-refused, path-untaken}
use Rattle.jobs.specs.Limit.{small_enough}
use Rattle.jobs.specs.Local.{job_head}

module _ (bytes : List ℕ) (highest : ℕ) where
  -- a head that is refused
  pub head-refused : (n : ℕ) → read_head bytes highest ≡ refuses n → job_head bytes highest ≡ refuses n
  head-refused n e = rw e

  -- where a call's own test begins with that of k, either refuses its path
  pub job-refused : (test : ℕ → Outcome Unit) → ((k n : ℕ) → small_enough k ≡ refuses n → test k ≡ refuses n) → (n : ℕ) → refuses n ≡ job_head bytes highest → read_path bytes highest test ≡ refuses n
  job-refused test first n e = by (read_head bytes highest) refl e
    where
      by : (o : Outcome PathHead) → read_head bytes highest ≡ o → refuses n ≡ and_then o (λ h. giving (λ small. h) (small_enough h.k)) → read_path bytes highest test ≡ refuses n
      by (refuses m) i e = let same : m ≡ n = cc in path-refused bytes highest test n (i ∙ ap refuses same)
      by (gives h) i e = path-untaken bytes highest test h.version h.k h.rest i n (first h.k n (refused-giving (λ small. h) (small_enough h.k) n (sym e)))

  -- a head that is given passed both tests
  pub job-given : (h : PathHead) → gives h ≡ job_head bytes highest → (gives h ≡ read_head bytes highest) × (small_enough h.k ≡ gives tt)
  job-given h e = by (read_head bytes highest) e
    where
      small : (g : PathHead) (s : Outcome Unit) → small_enough g.k ≡ s → gives h ≡ giving (λ small. g) s → (gives h ≡ gives g) × (small_enough h.k ≡ gives tt)
      small g (gives u) i e = let same : h ≡ g = cc in (e, ap (λ (x : PathHead). small_enough x.k) same ∙ i)
      small g (refuses m) i e = let z : ◌≡◌ {A = ℕ} 0 1 = cc in absurd (omega arith)

      by : (o : Outcome PathHead) → gives h ≡ and_then o (λ h. giving (λ small. h) (small_enough h.k)) → (gives h ≡ o) × (small_enough h.k ≡ gives tt)
      by (gives g) e = small g (small_enough g.k) refl e
      by (refuses m) e = let z : ◌≡◌ {A = ℕ} 0 1 = cc in absurd (omega arith)
