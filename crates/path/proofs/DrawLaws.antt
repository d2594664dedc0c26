-- Laws of draws: each draw follows from the record at the place that the draws before it reached.
use mathlib.Core.Path.{◌≡◌, refl, sym, ap, ◌∙◌}
use mathlib.Core.Bool.{cond}
use mathlib.Core.List.{List, [], ◌∷◌, ◌++◌, append_assoc, append-nil}
use Prim.Native.Nat.{ℕ, zero, suc, ◌+◌, ◌-◌, ◌^◌, ◌≤◌, ◌<◌}
use native.Mathlib.Nat.{sub-zero}
use native.Mathlib.Omega.{arith}
use lib.Dec.{ltb}
use lib.ListN.{length, take, drop, get_or, length-append, get_or-append}
use borrow.Author.Count.{below_more}
use lib.Seq.{drop-drop}
use borrow.Author.Tests.{lt-ltb, le-ltb}
use Rattle.base.specs.Outcome.{Outcome, gives, refuses, and_then, giving, done, number}
use Rattle.base.proofs.Outcome.{refused, number-giving}
use Rattle.records.specs.Record.{record_length}
use Rattle.records.proofs.RecordLaws.{by-taken}
use Rattle.stop.specs.declared.Stop.{Stop}
use Rattle.stop.specs.Stop.{in_range, judge_stop, zero_stop}
use Rattle.stop.proofs.Limits.{judged-good, judged-bad}
use Rattle.base.proofs.Lists.{length-tabulate, tabulate-suc, get_or-tabulate}
use Rattle.path.specs.Path.{path_head, path, read_head, read_body, read_stop, stop_of, stop_in, stops_in, stop_size, stop_place, any_size}
use Rattle.path.specs.Draw.{Draw, drawn, ended, draw_refused, good_then, good_stops, drawn_of, last_draw, draw_at}
use Rattle.path.proofs.BodyLaws.{body_refused, place_after, body-in}
use Rattle.path.proofs.PlaceLaws.{place-zero, place-suc, size-length}
use Rattle.path.proofs.JudgeLaws.{path-refused, path-body}
use Rattle.path.proofs.StopLaws.{content-stop, stop-present, in_place}

-- ---- the stops before the first refused record

pub goods-zero : (version : ℕ) (s : List ℕ) → good_stops version 0 s ≡ []
unfolding good_stops
goods-zero version s = refl

pub goods-more : (version n : ℕ) (s : List ℕ) → number (read_stop version s) ≡ 0 → good_stops version (suc n) s ≡ stop_of version (drop 4 s) ∷ good_stops version n (drop (stop_size version) s)
unfolding good_stops good_then read_stop
goods-more version n s =
    by-taken 2 (record_length 2 version 0) s
    (λ t. number (and_then t (λ t. judge_stop (stop_of version t.content))) ≡ 0 → good_then version (good_stops version n) t ≡ stop_of version (drop 4 s) ∷ good_stops version n (drop (stop_size version) s))
    (λ w e. rw (content-stop version (drop 4 s), size-length version) (one (rw (content-stop version (drop 4 s)) at e)))
    (λ m f e. absurd (f e))
  where
    one : number (judge_stop (stop_of version (drop 4 s))) ≡ 0 → cond (in_range (stop_of version (drop 4 s))) (stop_of version (drop 4 s) ∷ good_stops version n (drop (2 + record_length 2 version 0) s)) [] ≡ stop_of version (drop 4 s) ∷ good_stops version n (drop (2 + record_length 2 version 0) s)
    one j = rw (judged-good (stop_of version (drop 4 s)) j)

pub goods-none : (version n : ℕ) (s : List ℕ) → (number (read_stop version s) ≡ 0 → ⊥) → good_stops version (suc n) s ≡ []
unfolding good_stops good_then read_stop
goods-none version n s =
    by-taken 2 (record_length 2 version 0) s (λ t. (number (and_then t (λ t. judge_stop (stop_of version t.content))) ≡ 0 → ⊥) → good_then version (good_stops version n) t ≡ [])
    (λ w f. rw (judged-bad (stop_of version (take (record_length 2 version 0 - 2) (drop 4 s))) f))
    (λ m f g. refl)

-- ---- the place that good draws reach

-- each of the first i stops of some bytes is good
abbrev pub Reached : (version : ℕ) (bytes : List ℕ) (i : ℕ) → Type 0
Reached version bytes i = (j : ℕ) → j < i → number (read_stop version (drop (stop_place version j) bytes)) ≡ 0

number-done : (a b : Outcome (List Stop)) → done a ≡ done b → number a ≡ number b
number-done a b e = sym (number-giving (λ ss. tt) a) ∙ ap number e ∙ number-giving (λ ss. tt) b

record Split (version n : ℕ) (bytes : List ℕ) (i : ℕ) : Type 0 where
  pub goods : good_stops version n (drop 8 bytes) ≡ stops_in version i bytes ++ good_stops version (n - i) (drop (stop_place version i) bytes)
  pub number : number (read_body version n (drop 8 bytes)) ≡ number (read_body version (n - i) (drop (stop_place version i) bytes))

-- after i good stops the rest is what stands at the place of stop i
split : (version n : ℕ) (bytes : List ℕ) (i : ℕ) → i ≤ n → Reached version bytes i → Split version n bytes i
split version n bytes zero h r = record { goods = rw (sub-zero, place-zero); number = rw (sub-zero, place-zero) }
split version n bytes (suc i) h r =
    let before : Split version n bytes i = split version n bytes i (omega arith) (λ j l. r j (omega arith)) in
    let this : number (read_stop version (drop (stop_place version i) bytes)) ≡ 0 = r i (omega arith) in
    let one : n - i ≡ suc (n - suc i) = omega arith in
    let next : drop (stop_size version) (drop (stop_place version i) bytes) ≡ drop (stop_place version (suc i)) bytes =
    drop-drop (stop_size version) (stop_place version i) bytes ∙ rw place-suc in
    let more : good_stops version (suc (n - suc i)) (drop (stop_place version i) bytes) ≡ stop_in version i bytes ∷ good_stops version (n - suc i) (drop (stop_place version (suc i)) bytes) =
    goods-more version (n - suc i) (drop (stop_place version i) bytes) this ∙ rw (next, sym (in_place version i bytes (stop-present version (drop (stop_place version i) bytes) this))) in
    let grown : stops_in version (suc i) bytes ++ good_stops version (n - suc i) (drop (stop_place version (suc i)) bytes) ≡ stops_in version i bytes ++ (stop_in version i bytes ∷ good_stops version (n - suc i) (drop (stop_place version (suc i)) bytes)) =
    ap (λ (l : List Stop). l ++ good_stops version (n - suc i) (drop (stop_place version (suc i)) bytes)) (tabulate-suc i (λ j. stop_in version j bytes))
    ∙ append_assoc (stops_in version i bytes) (stop_in version i bytes ∷ []) (good_stops version (n - suc i) (drop (stop_place version (suc i)) bytes)) in
    record {
      goods = before.goods ∙ rw one (ap (λ (l : List Stop). stops_in version i bytes ++ l) more ∙ sym grown);
      number = before.number ∙ rw one (number-done _ _ (place_after version (n - suc i) i bytes this));
    }

-- ---- each draw

-- a refused head is every draw
pub draw-head : (bytes : List ℕ) (highest n d : ℕ) → read_head bytes highest ≡ refuses n → draw_at bytes highest d ≡ draw_refused n
unfolding draw_at drawn_of last_draw
draw-head bytes highest n d e = rw (e, path-refused bytes highest any_size n e, le-ltb d 0 (omega arith))

-- the draw that a number of the body after the head ends with
unfoldable pub last_of : ℕ → Draw
last_of zero = ended
last_of (suc n) = draw_refused (suc n)

last-refused : (m : ℕ) → (m ≡ 0 → ⊥) → last_of m ≡ draw_refused m
unfolding last_of
last-refused zero f = absurd (f refl)
last-refused (suc m) f = refl

-- one more good stop is reached
pub reach-more : (version i : ℕ) (bytes : List ℕ) → Reached version bytes i → number (read_stop version (drop (stop_place version i) bytes)) ≡ 0 → Reached version bytes (suc i)
reach-more version i bytes r good j l =
    below_more (λ j. number (read_stop version (drop (stop_place version j) bytes)) ≡ 0) i r good j (omega arith)

module _ (bytes : List ℕ) (highest version k : ℕ) (e : read_head bytes highest ≡ gives (path_head version k (drop 8 bytes))) where
  draw-is : (d : ℕ) → draw_at bytes highest d ≡ cond (ltb d (length (good_stops version (2 ^ k) (drop 8 bytes)))) (drawn (get_or (good_stops version (2 ^ k) (drop 8 bytes)) d zero_stop)) (last_draw (giving (path version k) (read_body version (2 ^ k) (drop 8 bytes))))
  unfolding draw_at drawn_of
  draw-is d = rw (e, path-body bytes highest any_size version k (drop 8 bytes) e refl)

  last-is : last_draw (giving (path version k) (read_body version (2 ^ k) (drop 8 bytes))) ≡ last_of (number (read_body version (2 ^ k) (drop 8 bytes)))
  unfolding last_draw last_of
  last-is = pick (number (read_body version (2 ^ k) (drop 8 bytes))) refl
    where
      pick : (m : ℕ) → number (read_body version (2 ^ k) (drop 8 bytes)) ≡ m → last_draw (giving (path version k) (read_body version (2 ^ k) (drop 8 bytes))) ≡ last_of m
      pick zero z = rw (body-in version (2 ^ k) bytes z).stops
      pick (suc m) z = rw (refused (read_body version (2 ^ k) (drop 8 bytes)) (suc m) (sym z) (λ y. omega arith))

  -- a good stop is drawn
  pub draw-stop : (i : ℕ) → i < 2 ^ k → Reached version bytes i → number (read_stop version (drop (stop_place version i) bytes)) ≡ 0 → draw_at bytes highest i ≡ drawn (stop_in version i bytes)
  draw-stop i h r good =
      let f : ℕ → Stop = λ j. stop_in version j bytes in
      let rest = good_stops version (2 ^ k - suc i) (drop (stop_place version (suc i)) bytes) in
      let s = split version (2 ^ k) bytes (suc i) h (reach-more version i bytes r good) in
      let long : length (stops_in version (suc i) bytes) ≡ suc i = length-tabulate (suc i) f in
      let inside : i < length (stops_in version (suc i) bytes ++ rest) = rw length-append (omega arith) in
      let this : get_or (stops_in version (suc i) bytes ++ rest) i zero_stop ≡ f i =
      get_or-append (stops_in version (suc i) bytes) rest zero_stop i (omega arith) ∙ get_or-tabulate (suc i) f i zero_stop (omega arith) in
      draw-is i ∙ rw (s.goods, lt-ltb _ _ inside, this)

  -- from the first refused stop on every draw is its refusal
  pub draw-refused : (i d : ℕ) → i < 2 ^ k → i ≤ d → Reached version bytes i → (number (read_stop version (drop (stop_place version i) bytes)) ≡ 0 → ⊥) → draw_at bytes highest d ≡ draw_refused (number (read_stop version (drop (stop_place version i) bytes)))
  draw-refused i d h l r bad =
      let f : ℕ → Stop = λ j. stop_in version j bytes in
      let s = split version (2 ^ k) bytes i (omega arith) r in
      let one : 2 ^ k - i ≡ suc (2 ^ k - suc i) = omega arith in
      let none : good_stops version (2 ^ k - i) (drop (stop_place version i) bytes) ≡ [] = rw one (goods-none version (2 ^ k - suc i) (drop (stop_place version i) bytes) bad) in
      let goods : good_stops version (2 ^ k) (drop 8 bytes) ≡ stops_in version i bytes = s.goods ∙ rw (none, append-nil) in
      let long : length (stops_in version i bytes) ≡ i = length-tabulate i f in
      let past : length (stops_in version i bytes) ≤ d = omega arith in
      let whole : number (read_body version (2 ^ k) (drop 8 bytes)) ≡ number (read_stop version (drop (stop_place version i) bytes)) =
      s.number ∙ rw one (ap number (body_refused version (2 ^ k - suc i) (drop (stop_place version i) bytes) _ (refused (read_stop version (drop (stop_place version i) bytes)) _ refl bad))) in
      draw-is d ∙ rw (goods, le-ltb _ _ past) (last-is ∙ rw whole (last-refused _ bad))

  -- after the last stop every draw is the end, or the refusal of the end
  pub draw-end : (d : ℕ) → 2 ^ k ≤ d → Reached version bytes (2 ^ k) → draw_at bytes highest d ≡ last_of (number (read_body version 0 (drop (stop_place version (2 ^ k)) bytes)))
  draw-end d l r =
      let f : ℕ → Stop = λ j. stop_in version j bytes in
      let s = split version (2 ^ k) bytes (2 ^ k) (omega arith) r in
      let zero_left : 2 ^ k - 2 ^ k ≡ 0 = omega arith in
      let none : good_stops version (2 ^ k - 2 ^ k) (drop (stop_place version (2 ^ k)) bytes) ≡ [] = rw zero_left (goods-zero version _) in
      let goods : good_stops version (2 ^ k) (drop 8 bytes) ≡ stops_in version (2 ^ k) bytes = s.goods ∙ rw (none, append-nil) in
      let long : length (stops_in version (2 ^ k) bytes) ≡ 2 ^ k = length-tabulate (2 ^ k) f in
      let past : length (stops_in version (2 ^ k) bytes) ≤ d = omega arith in
      draw-is d ∙ rw (goods, le-ltb _ _ past) (last-is ∙ ap last_of (rw zero_left at s.number))
