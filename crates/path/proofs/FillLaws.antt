-- Laws of stops stored into buffers one after the other. A buffer holds, for each stop, a list of its numbers: one law serves the coordinates,
-- the speeds, the blends and the dwells.
use mathlib.Core.Path.{◌≡◌, refl, sym, ap, ◌∙◌}
use mathlib.Core.List.{List, [], ◌∷◌, ◌++◌, append_assoc, append-nil}
use Prim.Native.Nat.{ℕ, suc, ◌+◌, ◌*◌, ◌≤◌}
use native.Mathlib.Numerals.{add-one}
use native.Mathlib.Omega.{arith}
use lib.IntN.{ℤ}
use lib.ListN.{length, set}
use lib.Seq.{sets}
use Rattle.stop.specs.declared.Stop.{Stop}
use Rattle.stop.specs.Stop.{coordinate}
use Rattle.stop.specs.Lent.{coords_of, speeds_of, blends_of, dwells_of}
use Rattle.base.specs.Lists.{tabulate}
use Rattle.stop.proofs.Lent.{length-coords_of, length-speeds_of, length-blends_of, length-dwells_of}
use Rattle.base.proofs.Lists.{length-tabulate, tabulate-suc}
use Rattle.base.specs.Outcome.{over}
use Rattle.base.proofs.Outcome.{over-more}
use Rattle.records.specs.Put.{put}
use Rattle.records.proofs.PutLaws.{put-put}
use Rattle.path.specs.Path.{stop_size}
use Rattle.path.specs.Written.{stop_bytes, stops_bytes}
use Rattle.path.proofs.WrittenLaws.{length-stop_bytes, length-stops_bytes}

module _ {A : Type 0} (all : List Stop → List A) (one : Stop → List A) (none : all [] ≡ []) (more : (s : Stop) (ss : List Stop) → all (s ∷ ss) ≡ one s ++ all ss) where
  all_append : (a b : List Stop) → all (a ++ b) ≡ all a ++ all b
  all_append [] b = rw none
  all_append (s ∷ a) b = more s (a ++ b) ∙ ap (λ (l : List A). one s ++ l) (all_append a b) ∙ rw more (sym (append_assoc (one s) (all a) (all b)))

  next-all : (n : ℕ) (f : ℕ → Stop) → all (tabulate n f) ++ one (f n) ≡ all (tabulate (suc n) f)
  next-all n f =
      sym (ap all (tabulate-suc n f) ∙ all_append (tabulate n f) (f n ∷ []) ∙ ap (λ (l : List A). all (tabulate n f) ++ l) (more (f n) [] ∙ rw none (append-nil (one (f n)))))

  -- the numbers of stop n, which is s, stored after those of the stops before it, at a place that their count tells
  store_at : (n : ℕ) (f : ℕ → Stop) (at : ℕ) (old before after : List A) (s : Stop) → length (all (tabulate n f)) ≡ at → at + length (one (f n)) ≤ length old → s ≡ f n → before ≡ over (all (tabulate n f)) old → after ≡ sets before at (one s) → after ≡ over (all (tabulate (n + 1) f)) old
  store_at n f at old before after s e h es eb ea =
      ea ∙ rw (eb, es, ← e, add-one n) (over-more (all (tabulate n f)) (one (f n)) old (rw e h) ∙ ap (λ (l : List A). over l old) (next-all n f))

module _ (n : ℕ) (f : ℕ → Stop) where
  size-coords : length (coords_of (tabulate n f)) ≡ 3 * n
  size-coords = length-coords_of (tabulate n f) ∙ rw length-tabulate

  size-speeds : length (speeds_of (tabulate n f)) ≡ n
  size-speeds = length-speeds_of (tabulate n f) ∙ length-tabulate n f

  size-blends : length (blends_of (tabulate n f)) ≡ n
  size-blends = length-blends_of (tabulate n f) ∙ length-tabulate n f

  size-dwells : length (dwells_of (tabulate n f)) ≡ n
  size-dwells = length-dwells_of (tabulate n f) ∙ length-tabulate n f

  pub next-coords : (old before after : List ℤ) (s : Stop) → 3 * n + 3 ≤ length old → s ≡ f n → before ≡ over (coords_of (tabulate n f)) old → after ≡ set (set (set before (3 * n) (coordinate s 0)) (3 * n + 1) (coordinate s 1)) (3 * n + 2) (coordinate s 2) → after ≡ over (coords_of (tabulate (n + 1) f)) old
  unfolding coords_of
  next-coords old before after s h es eb ea =
      let one : 3 * n + 1 ≡ suc (3 * n) = omega arith in
      let two : 3 * n + 2 ≡ suc (suc (3 * n)) = omega arith in
      store_at coords_of (λ t. coordinate t 0 ∷ coordinate t 1 ∷ coordinate t 2 ∷ []) refl (λ t ts. refl) n f (3 * n) old before after s size-coords h es eb (rw (one, two) at ea)

  pub next-speeds : (old before after : List ℕ) (s : Stop) → n + 1 ≤ length old → s ≡ f n → before ≡ over (speeds_of (tabulate n f)) old → after ≡ set before n s.speed → after ≡ over (speeds_of (tabulate (n + 1) f)) old
  unfolding speeds_of
  next-speeds old before after s h es eb ea = store_at speeds_of (λ t. t.speed ∷ []) refl (λ t ts. refl) n f n old before after s size-speeds h es eb ea

  pub next-blends : (old before after : List ℕ) (s : Stop) → n + 1 ≤ length old → s ≡ f n → before ≡ over (blends_of (tabulate n f)) old → after ≡ set before n s.blend → after ≡ over (blends_of (tabulate (n + 1) f)) old
  unfolding blends_of
  next-blends old before after s h es eb ea = store_at blends_of (λ t. t.blend ∷ []) refl (λ t ts. refl) n f n old before after s size-blends h es eb ea

  pub next-dwells : (old before after : List ℕ) (s : Stop) → n + 1 ≤ length old → s ≡ f n → before ≡ over (dwells_of (tabulate n f)) old → after ≡ set before n s.dwell → after ≡ over (dwells_of (tabulate (n + 1) f)) old
  unfolding dwells_of
  next-dwells old before after s h es eb ea = store_at dwells_of (λ t. t.dwell ∷ []) refl (λ t ts. refl) n f n old before after s size-dwells h es eb ea

-- the record of stop n put after those of the stops before it
pub next-record : (version n : ℕ) (f : ℕ → Stop) (old : List ℕ) → 8 + (n * stop_size version + stop_size version) ≤ length old → put (put old 8 (stops_bytes version (tabulate n f))) (8 + n * stop_size version) (stop_bytes version (f n)) ≡ put old 8 (stops_bytes version (tabulate (suc n) f))
unfolding stops_bytes
next-record version n f old h =
    let before : length (stops_bytes version (tabulate n f)) ≡ n * stop_size version = length-stops_bytes version (tabulate n f) ∙ rw length-tabulate in
    let this : length (stop_bytes version (f n)) ≡ stop_size version = length-stop_bytes version (f n) in
    ap (λ (i : ℕ). put (put old 8 (stops_bytes version (tabulate n f))) (8 + i) (stop_bytes version (f n))) (sym before)
    ∙ put-put old 8 (stops_bytes version (tabulate n f)) (stop_bytes version (f n)) (omega arith)
    ∙ ap (put old 8) (next-all (stops_bytes version) (stop_bytes version) refl (λ s ss. refl) n f)
