-- What a reader draws: one after another the draws that the bytes mean.
use Rattle.std.specs.Prelude.{Option, Some, None, Result, Ok, is_some}
use mathlib.Core.Path.{◌≡◌, refl, sym, ap, ◌∙◌}
use mathlib.Core.Bool.{true, false}
use mathlib.Core.List.{List}
use Prim.Native.Nat.{ℕ, zero, suc, ◌+◌, ◌-◌, ◌*◌, ◌^◌, ◌≤◌, ◌<◌}
use native.Mathlib.Nat.{mul-le-mul}
use native.Mathlib.Numerals.{add-one}
use native.Mathlib.Omega.{arith}
use lib.ListN.{drop}
use denote.Ref.{Bor}
use Rattle.base.specs.declared.Refusal.{Refusal}
use Rattle.base.specs.Outcome.{gives}
use Rattle.base.specs.Size.{stop_count}
use Rattle.base.proofs.Size.{stop_count-pow, pow-le-1024}
use Rattle.stop.specs.declared.Stop.{Stop}
use Rattle.path.specs.declared.PathBytes.{PathBytes}
use Rattle.path.specs.Bytes.{opened as path_opened}
use Rattle.path.specs.Path.{read_head, stop_place, stop_size}
use Rattle.path.proofs.HeadLaws.{head-opened}
use Rattle.path.proofs.PlaceLaws.{size-range, place_is, largest_stop}
use Rattle.path.specs.Draw.{draw_at}
use Rattle.reader.specs.declared.Reader.{Reader}
use Rattle.reader.specs.Draws.{Stepped, answered, is_stop, stop_before, draw_of, staying, step_of, step_at, steps_from, opened, next_step, moved, after_draws}
use Rattle.reader.proofs.DrawsLaws.{draws-are, draws-repeat}
use Rattle.reader.proofs.StepLaws.{drawn-below, of-drawn, of_other, step-head}

-- a reader keeps its bytes
pub same_bytes : (r : Reader) (d : ℕ) → (after_draws r d).src ≡ r.src
unfolding after_draws
same_bytes r zero = refl
same_bytes r (suc d) = same_bytes r d

-- the next draw after d draws is draw d from the reader's cursor and version, whatever they are
pub next-steps : (r : Reader) (d : ℕ) → next_step (after_draws r d) ≡ steps_from r.src.now r.at r.version d
unfolding after_draws steps_from
next-steps r zero = refl
next-steps r (suc d) =
    ap (λ (b : Bor (List ℕ)). step_at b.now (next_step (after_draws r d)).at (next_step (after_draws r d)).version) (same_bytes r d)
    ∙ ap (λ (s : Stepped). step_at r.src.now s.at s.version) (next-steps r d)

-- of a reader that was opened it is the draw that the bytes mean
pub reader-draws : (bytes : Bor (List ℕ)) (highest d : ℕ) → (next_step (after_draws (opened bytes highest) d)).draw ≡ draw_at bytes.now highest d
reader-draws bytes highest d =
    ap (λ (s : Stepped). s.draw) (next-steps (opened bytes highest) d) ∙ draws-are bytes.now highest d

-- ---- one draw of the code

-- what is answered is a stop where it holds one
pub told-stop : (o : Option Stop) → is_stop (answered (Ok o)) ≡ is_some o
told-stop (Some s) = refl
told-stop None = refl

-- the promise of a draw, by the step that was made
pub promise : (r after : Reader) (d : Result (Option Stop) Refusal) (s : Stepped) → next_step r ≡ s → answered d ≡ s.draw → after ≡ moved r s → (answered d ≡ (next_step r).draw) × (after ≡ moved r (next_step r))
promise r after d s e a m = rw e (a, m)

-- after an accepted head: the stop i at the cursor, and the count n of the stops
module _ (bytes : List ℕ) (at version : ℕ) (p : PathBytes) (head : gives (path_opened p) ≡ read_head bytes version) (same : p.bytes.now ≡ bytes) (i n : ℕ) (here : i ≡ stop_before p.version at) (count : n ≡ stop_count p.k) where
  small : p.k ≤ 10
  small = (head-opened bytes version (path_opened p) head).small

  count-is : n ≡ 2 ^ p.k
  count-is = count ∙ stop_count-pow p.k small

  step_is : step_at bytes at version ≡ step_of at version p.version i (draw_of p.bytes.now p.version n i)
  step_is = rw (here, count-is, same) (step-head bytes at version p.version p.k (drop 8 bytes) (head-opened bytes version (path_opened p) head).head)

  -- a draw that is no stop
  pub step-other : is_stop (draw_of p.bytes.now p.version n i) ≡ false → step_at bytes at version ≡ staying at version (draw_of p.bytes.now p.version n i)
  step-other e = step_is ∙ of_other at version p.version i (draw_of p.bytes.now p.version n i) e

  module _ (stop : is_stop (draw_of p.bytes.now p.version n i) ≡ true) where
    pub below : i < 1024
    below = omega (arith, drawn-below p.bytes.now p.version n i stop, count-is, pow-le-1024 p.k small)

    -- the next record's place is far below the largest number
    pub near : (size : ℕ) → size ≡ stop_size p.version → (i + 1) * size ≤ 1024 * largest_stop
    near size e =
        let few : i + 1 ≤ 1024 = omega (arith, below) in
        let low : size ≤ largest_stop = omega (arith, size-range p.version) in
        mul-le-mul few low

    pub step-stop : (size : ℕ) → size ≡ stop_size p.version → step_at bytes at version ≡ record { draw = draw_of p.bytes.now p.version n i; at = 8 + (i + 1) * size; version = p.version }
    step-stop size e =
        let place : 8 + (i + 1) * size ≡ stop_place p.version (suc i) = rw (add-one i, e) (sym (place_is p.version (suc i))) in
        step_is
        ∙ of-drawn at version p.version i (draw_of p.bytes.now p.version n i) stop
        ∙ ap (λ (q : ℕ). record { draw = draw_of p.bytes.now p.version n i; at = q; version = p.version }) (sym place)

-- ---- draw d of the code

-- a reader r after i draws of one that was opened
module _ (bytes : Bor (List ℕ)) (highest i : ℕ) (first r : Reader) (begun : first ≡ opened bytes highest) (here : r ≡ after_draws first i) where
  drawn-here : next_step r ≡ steps_from bytes.now 0 highest i
  drawn-here = rw (here, begun) (next-steps (opened bytes highest) i)

  -- its draw is draw i
  pub draw-here : (d : ℕ) → i ≡ d → (next_step r).draw ≡ draw_at bytes.now highest d
  draw-here d e = ap (λ (s : Stepped). s.draw) drawn-here ∙ rw e (draws-are bytes.now highest d)

  -- and every later one, where it is no stop
  pub draw-stays : (d : ℕ) → i ≤ d → is_stop (next_step r).draw ≡ false → (next_step r).draw ≡ draw_at bytes.now highest d
  draw-stays d h f =
      let on : i + (d - i) ≡ d = omega arith in
      let over : is_stop (steps_from bytes.now 0 highest i).draw ≡ false = rw drawn-here at f in
      ap (λ (s : Stepped). s.draw) (drawn-here ∙ sym (draws-repeat bytes.now 0 highest i over (d - i))) ∙ rw on (draws-are bytes.now highest d)

  -- one draw more
  pub draw-more : (after : Reader) → after ≡ moved r (next_step r) → after ≡ after_draws first (i + 1)
  unfolding after_draws
  draw-more after e = rw add-one (e ∙ ap (λ (q : Reader). moved q (next_step q)) here)
