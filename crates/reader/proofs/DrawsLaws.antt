-- Draws one after another: draw d from the start of some bytes is `draw_at` of the paths' definitions. Before draw d the cursor stands at
-- stop d, each stop before it is good, or the answer was given already and every draw repeats it.
use mathlib.Core.Path.{◌≡◌, refl, sym, ap, ◌∙◌}
use mathlib.Core.Bool.{Bool, true, false}
use mathlib.Core.List.{List}
use Prim.Native.Nat.{ℕ, zero, suc, ◌+◌, ◌^◌, ◌≤◌, ◌<◌}
use native.Mathlib.Nat.{add-zero, add-suc}
use native.Mathlib.Omega.{arith}
use lib.Dec.{ltb, eqb}
use lib.ListN.{drop}
use borrow.Author.Tests.{ltb-true, ltb-false, eqb-true, eqb-false}
use Rattle.base.specs.Outcome.{Outcome, gives, refuses, number}
use Rattle.base.proofs.Outcome.{refused}
use Rattle.path.specs.Path.{PathHead, path_head, read_head, read_stop, read_body, stop_in, stop_place}
use Rattle.path.specs.Draw.{Draw, drawn, draw_refused, draw_at}
use Rattle.path.proofs.DrawLaws.{Reached, reach-more, last_of, draw-head, draw-stop, draw-refused, draw-end}
use Rattle.reader.specs.Draws.{Stepped, is_stop, stop_before, draw_of, staying, step_of, step_at, steps_from}
use Rattle.reader.proofs.StepLaws.{rest_of, head-again, before-start, before-place, of-stop, of-refused, of_end, last-no-stop, of-drawn, of_other, step-refused, step-head, step_stays}

-- the draw from a cursor is no stop, and leaves the cursor and the version
abbrev Stuck : (bytes : List ℕ) (at version : ℕ) → Draw → Type 0
Stuck bytes at version d = step_at bytes at version ≡ staying at version d

-- the cursor and the version before draw d
data Before (bytes : List ℕ) (highest d at version : ℕ) : Type 0 where
  -- the cursor stands at stop d, or at the end, and each stop before is good
  going : (path k : ℕ) → read_head bytes highest ≡ gives (path_head path k (drop 8 bytes)) → read_head bytes version ≡ gives (path_head path k (drop 8 bytes)) → stop_before path at ≡ d → d ≤ 2 ^ k → Reached path bytes d → Before bytes highest d at version
  -- the answer is the same from here on
  settled : (x : Draw) → Stuck bytes at version x → ((e : ℕ) → d ≤ e → draw_at bytes highest e ≡ x) → Before bytes highest d at version

-- draw d from such a cursor, and the cursor after it
record Drew (bytes : List ℕ) (highest d : ℕ) (s : Stepped) : Type 0 where
  pub answer : s.draw ≡ draw_at bytes highest d
  pub next : Before bytes highest (suc d) s.at s.version

-- an answer that was given is given again
again : (bytes : List ℕ) (highest d at version : ℕ) (x : Draw) → Stuck bytes at version x → ((e : ℕ) → d ≤ e → draw_at bytes highest e ≡ x) → Drew bytes highest d (step_at bytes at version)
again bytes highest d at version x stuck same =
    let none : d ≤ d = omega arith in
    rw stuck (record { answer = sym (same d none); next = settled x stuck (λ e h. same e (omega arith)) })

module _ (bytes : List ℕ) (highest d at version path k : ℕ) (first : read_head bytes highest ≡ gives (path_head path k (drop 8 bytes))) (now-head : read_head bytes version ≡ gives (path_head path k (drop 8 bytes))) (here : stop_before path at ≡ d) (reached : Reached path bytes d) where
  step_is : step_at bytes at version ≡ step_of at version path d (draw_of bytes path (2 ^ k) d)
  step_is = rw here at (step-head bytes at version path k (drop 8 bytes) now-head)

  good-stop : d < 2 ^ k → number (read_stop path (drop (stop_place path d) bytes)) ≡ 0 → Drew bytes highest d (step_at bytes at version)
  good-stop h good =
      let left : step_at bytes at version ≡ record { draw = drawn (stop_in path d bytes); at = stop_place path (suc d); version = path } =
      step_is ∙ ap (step_of at version path d) (of-stop bytes path (2 ^ k) d h good) ∙ of-drawn at version path d (drawn (stop_in path d bytes)) refl in
      rw left (record {
        answer = sym (draw-stop bytes highest path k first d h reached good);
        next = going path k first (head-again bytes highest path k (drop 8 bytes) first) (before-place path (suc d)) h (reach-more path d bytes reached good);
      })

  bad-stop : d < 2 ^ k → (number (read_stop path (drop (stop_place path d) bytes)) ≡ 0 → ⊥) → Drew bytes highest d (step_at bytes at version)
  bad-stop h bad =
      let n = number (read_stop path (drop (stop_place path d) bytes)) in
      again bytes highest d at version (draw_refused n)
      (step_is ∙ ap (step_of at version path d) (of-refused bytes path (2 ^ k) d h n (refused (read_stop path (drop (stop_place path d) bytes)) n refl bad)) ∙ of_other at version path d (draw_refused n) refl)
      (λ e l. draw-refused bytes highest path k first d e h l reached bad)

  at-end : d ≡ 2 ^ k → Drew bytes highest d (step_at bytes at version)
  at-end z =
      let n = number (read_body path 0 (drop (stop_place path (2 ^ k)) bytes)) in
      let past : 2 ^ k ≤ d = omega arith in
      let all : Reached path bytes (2 ^ k) = rw z at reached in
      again bytes highest d at version (last_of n)
      (step_is ∙ ap (step_of at version path d) (of_end bytes path (2 ^ k) d past) ∙ of_other at version path d (last_of n) (last-no-stop n))
      (λ e l. draw-end bytes highest path k first e (omega arith) all)

-- one draw more
more : (bytes : List ℕ) (highest d at version : ℕ) → Before bytes highest d at version → Drew bytes highest d (step_at bytes at version)
more bytes highest d at version (settled x stuck same) = again bytes highest d at version x stuck same
more bytes highest d at version (going path k first now-head here inside reached) = pick (ltb d (2 ^ k)) refl
  where
    judged : d < 2 ^ k → (b : Bool) → eqb (number (read_stop path (drop (stop_place path d) bytes))) 0 ≡ b → Drew bytes highest d (step_at bytes at version)
    judged h true t = good-stop bytes highest d at version path k first now-head here reached h (eqb-true _ _ t)
    judged h false t = bad-stop bytes highest d at version path k first now-head here reached h (eqb-false _ _ t)

    pick : (b : Bool) → ltb d (2 ^ k) ≡ b → Drew bytes highest d (step_at bytes at version)
    pick true t = judged (ltb-true _ _ t) (eqb (number (read_stop path (drop (stop_place path d) bytes))) 0) refl
    pick false t =
        let past : 2 ^ k ≤ d = ltb-false _ _ t in
        at-end bytes highest d at version path k first now-head here reached (omega arith)

-- before the first draw
start : (bytes : List ℕ) (highest : ℕ) → Before bytes highest 0 0 highest
start bytes highest = pick (read_head bytes highest) refl
  where
    pick : (h : Outcome PathHead) → read_head bytes highest ≡ h → Before bytes highest 0 0 highest
    pick (gives h) e =
        let f : read_head bytes highest ≡ gives (path_head h.version h.k (drop 8 bytes)) = e ∙ ap (λ (r : List ℕ). gives (path_head h.version h.k r)) (rest_of bytes highest h.version h.k h.rest e) in
        going h.version h.k f f (before-start h.version 0 (omega arith)) (omega arith) (λ j l. absurd (omega arith))
    pick (refuses n) e = settled (draw_refused n) (step-refused bytes 0 highest n e) (λ d h. draw-head bytes highest n d e)

drew : (bytes : List ℕ) (highest d : ℕ) → Drew bytes highest d (steps_from bytes 0 highest d)
unfolding steps_from
drew bytes highest zero = more bytes highest 0 0 highest (start bytes highest)
drew bytes highest (suc d) =
    more bytes highest (suc d) (steps_from bytes 0 highest d).at (steps_from bytes 0 highest d).version (drew bytes highest d).next

-- each draw from the start is the one that the bytes mean
pub draws-are : (bytes : List ℕ) (highest d : ℕ) → (steps_from bytes 0 highest d).draw ≡ draw_at bytes highest d
draws-are bytes highest d = (drew bytes highest d).answer

-- ---- draws from any cursor

-- an answer that is no stop is given again by the next draw
again-step : (bytes : List ℕ) (at version : ℕ) → is_stop (step_at bytes at version).draw ≡ false → step_at bytes (step_at bytes at version).at (step_at bytes at version).version ≡ step_at bytes at version
again-step bytes at version e =
    ap (λ (s : Stepped). step_at bytes s.at s.version) (step_stays bytes at version e)

again-steps : (bytes : List ℕ) (at version d : ℕ) → is_stop (steps_from bytes at version d).draw ≡ false → steps_from bytes at version (suc d) ≡ steps_from bytes at version d
unfolding steps_from
again-steps bytes at version zero e = again-step bytes at version e
again-steps bytes at version (suc d) e = again-step bytes (steps_from bytes at version d).at (steps_from bytes at version d).version e

-- 'later draws repeat it', from any cursor and with any version
pub draws-repeat : (bytes : List ℕ) (at version d : ℕ) → is_stop (steps_from bytes at version d).draw ≡ false → (e : ℕ) → steps_from bytes at version (d + e) ≡ steps_from bytes at version d
draws-repeat bytes at version d f zero = rw add-zero
draws-repeat bytes at version d f (suc e) =
    let before : steps_from bytes at version (d + e) ≡ steps_from bytes at version d = draws-repeat bytes at version d f e in
    rw add-suc (again-steps bytes at version (d + e) (rw before f) ∙ before)
