-- Laws of one draw: which part of the definition decides, and where it leaves the cursor.
use mathlib.Core.Path.{◌≡◌, refl, sym, ap, ◌∙◌}
use mathlib.Core.Bool.{Bool, true, false, true≢false}
use mathlib.Core.List.{List, []}
use Prim.Native.Nat.{ℕ, zero, suc, ◌+◌, ◌-◌, ◌*◌, ◌^◌, ◌≤◌, ◌<◌}
use native.Mathlib.Nat.{zero-div, mul-div_cancel}
use native.Mathlib.Omega.{arith}
use lib.Dec.{ltb, eqb}
use lib.ListN.{length, drop}
use borrow.Author.Tests.{ltb-true, ltb-false, lt-ltb, le-ltb}
use Rattle.base.specs.Refusal.{trailing_bytes}
use Rattle.base.specs.Outcome.{Outcome, gives, refuses, need, and_then, number}
use Rattle.base.proofs.Outcome.{number-first}
use Rattle.records.specs.Record.{take_record, record_length}
use Rattle.records.proofs.LengthLaws.{path-length}
use Rattle.records.proofs.RecordLaws.{by-taken}
use Rattle.stop.specs.declared.Stop.{Stop}
use Rattle.stop.specs.Stop.{judge_stop}
use Rattle.path.specs.Path.{PathHead, path_head, read_head, head_of, known_version, read_stop, read_body, end_of, stop_in, stop_place, stop_size}
use Rattle.path.specs.Draw.{Draw, drawn, ended, draw_refused, last_draw}
use Rattle.path.proofs.DrawLaws.{last_of}
use Rattle.path.proofs.HeadLaws.{Seen, good-head, bad-head, head-seen, fields-good}
use Rattle.path.proofs.Inverse.{opened_of}
use Rattle.path.proofs.PlaceLaws.{size-range, place_is}
use Rattle.path.proofs.StopLaws.{stop-judged, stop-present, stop-range, in_place}
use Rattle.reader.specs.Draws.{is_stop, stop_before, stop_draw, draw_of, staying, step_of, step_in, step_at}

-- ---- an accepted head

record Good (bytes : List ℕ) (highest version k : ℕ) (rest : List ℕ) : Type 0 where
  pub known : known_version version ≡ true
  pub small : k ≤ 10
  pub after : rest ≡ drop 8 bytes

good_of : (bytes : List ℕ) (highest version k : ℕ) (rest : List ℕ) → read_head bytes highest ≡ gives (path_head version k rest) → Good bytes highest version k rest
good_of bytes highest version k rest e = pick (read_head bytes highest) (head-seen bytes highest) e
  where
    pick : (h : Outcome PathHead) → Seen bytes highest h → h ≡ gives (path_head version k rest) → Good bytes highest version k rest
    pick h (good-head v j p q r l) e =
        let same : path_head v j (drop 8 bytes) ≡ path_head version k rest = cc in
        let ev : v ≡ version = ap (λ (h : PathHead). h.version) same in
        let ek : j ≡ k = ap (λ (h : PathHead). h.k) same in
        record { known = rw ev at p; small = rw ek at r; after = sym (ap (λ (h : PathHead). h.rest) same) }
    pick h (bad-head n f) e = absurd (let w : ◌≡◌ {A = ℕ} 0 1 = cc in omega arith)

-- what follows an accepted head
pub rest_of : (bytes : List ℕ) (highest version k : ℕ) (rest : List ℕ) → read_head bytes highest ≡ gives (path_head version k rest) → rest ≡ drop 8 bytes
rest_of bytes highest version k rest e = (good_of bytes highest version k rest e).after

-- a reader that knows the path's version and none above it reads the same head
pub head-again : (bytes : List ℕ) (highest version k : ℕ) (rest : List ℕ) → read_head bytes highest ≡ gives (path_head version k rest) → read_head bytes version ≡ gives (path_head version k rest)
unfolding read_head head_of
head-again bytes highest version k rest e =
    let g = good_of bytes highest version k rest e in
    let o = opened_of bytes highest version k rest e in
    let whole = rw (path-length highest) at o.whole in
    let low : version ≤ version = omega arith in
    rw (g.known, path-length version, whole, o.version-is, o.k-is) (fields-good version version k rest g.known low g.small)

-- ---- the number of a stop from the cursor

-- at the start, and at every cursor in the head, it is stop 0
pub before-start : (version at : ℕ) → at ≤ 8 → stop_before version at ≡ 0
unfolding stop_before
before-start version at h =
    let z : at - 8 ≡ 0 = omega arith in
    rw (z, zero-div)

-- at the place of stop i it is i
pub before-place : (version i : ℕ) → stop_before version (stop_place version i) ≡ i
unfolding stop_before
before-place version i =
    let some : 0 < stop_size version = omega (arith, size-range version) in
    let z : stop_place version i - 8 ≡ i * stop_size version = omega (arith, place_is version i) in
    rw z (mul-div_cancel i some)

-- ---- the draw of a stop and of the end

-- a record that is not refused gives the stop at its place
stop-read : (version i : ℕ) (bytes : List ℕ) → number (read_stop version (drop (stop_place version i) bytes)) ≡ 0 → read_stop version (drop (stop_place version i) bytes) ≡ gives (stop_in version i bytes)
unfolding read_stop judge_stop
stop-read version i bytes e =
    let s = drop (stop_place version i) bytes in
    stop-judged version s (number-first (take_record 2 (record_length 2 version 0) s) _ e)
    ∙ rw (stop-range version s e) (ap gives (sym (in_place version i bytes (stop-present version s e))))

-- a refusal's number is that of its draw
refusal-last : (n : ℕ) → (n ≡ 0 → ⊥) → draw_refused n ≡ last_of n
unfolding last_of
refusal-last zero f = absurd (f refl)
refusal-last (suc n) f = refl

-- the end's draw follows from its number
end-draw : (version : ℕ) (s : List ℕ) → last_draw (read_body version 0 s) ≡ last_of (number (read_body version 0 s))
unfolding read_body end_of last_draw last_of
end-draw version s =
    by-taken 3 (record_length 3 version 0) s (λ t. last_draw (and_then t end_of) ≡ last_of (number (and_then t end_of)))
    (λ w. pick (eqb (length (drop (2 + record_length 3 version 0) s)) 0))
    refusal-last
  where
    pick : (b : Bool) → last_draw (need {A = List Stop} b trailing_bytes (gives [])) ≡ last_of (number (need {A = List Stop} b trailing_bytes (gives [])))
    pick true = refl
    pick false = refl

module _ (bytes : List ℕ) (version n i : ℕ) where
  pub of-stop : i < n → number (read_stop version (drop (stop_place version i) bytes)) ≡ 0 → draw_of bytes version n i ≡ drawn (stop_in version i bytes)
  unfolding draw_of stop_draw
  of-stop h z = rw (lt-ltb _ _ h, stop-read version i bytes z)

  pub of-refused : i < n → (r : ℕ) → read_stop version (drop (stop_place version i) bytes) ≡ refuses r → draw_of bytes version n i ≡ draw_refused r
  unfolding draw_of stop_draw
  of-refused h r e = rw (lt-ltb _ _ h, e)

  pub of_end : n ≤ i → draw_of bytes version n i ≡ last_of (number (read_body version 0 (drop (stop_place version n) bytes)))
  unfolding draw_of
  of_end h = rw (le-ltb _ _ h) (end-draw version (drop (stop_place version n) bytes))

  pub of-ended : n ≤ i → number (read_body version 0 (drop (stop_place version n) bytes)) ≡ 0 → draw_of bytes version n i ≡ ended
  unfolding last_of
  of-ended h z = of_end h ∙ ap last_of z

  pub of-no-end : n ≤ i → (r : ℕ) → read_body version 0 (drop (stop_place version n) bytes) ≡ refuses r → draw_of bytes version n i ≡ draw_refused r
  unfolding draw_of last_draw
  of-no-end h r e = rw (le-ltb _ _ h, e)

-- the end is no stop, nor is a refusal
pub last-no-stop : (m : ℕ) → is_stop (last_of m) ≡ false
unfolding last_of
last-no-stop zero = refl
last-no-stop (suc m) = refl

-- only a stop below n is drawn
pub drawn-below : (bytes : List ℕ) (version n i : ℕ) → is_stop (draw_of bytes version n i) ≡ true → i < n
drawn-below bytes version n i e = pick (ltb i n) refl
  where
    pick : (b : Bool) → ltb i n ≡ b → i < n
    pick true t = ltb-true _ _ t
    pick false t = absurd (true≢false (sym e ∙ ap is_stop (of_end bytes version n i (ltb-false _ _ t)) ∙ last-no-stop _))

-- ---- what a draw leaves

module _ (at version path i : ℕ) where
  pub of-drawn : (d : Draw) → is_stop d ≡ true → step_of at version path i d ≡ record { draw = d; at = stop_place path (suc i); version = path }
  unfolding step_of
  of-drawn (drawn s) e = refl
  of-drawn ended e = absurd (true≢false (sym e))
  of-drawn (draw_refused n) e = absurd (true≢false (sym e))

  pub of_other : (d : Draw) → is_stop d ≡ false → step_of at version path i d ≡ staying at version d
  unfolding step_of
  of_other (drawn s) e = absurd (true≢false e)
  of_other ended e = refl
  of_other (draw_refused n) e = refl

  stay_of : (d : Draw) → is_stop (step_of at version path i d).draw ≡ false → step_of at version path i d ≡ staying at version (step_of at version path i d).draw
  unfolding step_of
  stay_of (drawn s) e = absurd (true≢false e)
  stay_of ended e = refl
  stay_of (draw_refused n) e = refl

module _ (bytes : List ℕ) (at version : ℕ) where
  pub step-refused : (n : ℕ) → read_head bytes version ≡ refuses n → step_at bytes at version ≡ staying at version (draw_refused n)
  unfolding step_at step_in
  step-refused n e = rw e

  pub step-head : (path k : ℕ) (rest : List ℕ) → read_head bytes version ≡ gives (path_head path k rest) → step_at bytes at version ≡ step_of at version path (stop_before path at) (draw_of bytes path (2 ^ k) (stop_before path at))
  unfolding step_at step_in
  step-head path k rest e = rw e

  -- an answer that is no stop leaves the cursor and the version
  pub step_stays : is_stop (step_at bytes at version).draw ≡ false → step_at bytes at version ≡ staying at version (step_at bytes at version).draw
  unfolding step_at step_in
  step_stays = pick (read_head bytes version)
    where
      pick : (h : Outcome PathHead) → is_stop (step_in bytes at version h).draw ≡ false → step_in bytes at version h ≡ staying at version (step_in bytes at version h).draw
      pick (gives h) e = stay_of at version h.version (stop_before h.version at) (draw_of bytes h.version (2 ^ h.k) (stop_before h.version at)) e
      pick (refuses n) e = refl
