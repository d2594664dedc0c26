-- What an accepted reading tells, step by step from the outcome back to the bytes.
use mathlib.Core.Path.{◌≡◌, refl, sym, ap, ap₂, ◌∙◌}
use mathlib.Core.Bool.{Bool, true, false, ◌&&◌}
use mathlib.Core.List.{List, [], ◌∷◌}
use Prim.Native.Nat.{ℕ, suc, ◌+◌, ◌-◌, ◌^◌, ◌≤◌}
use native.Mathlib.Omega.{arith}
use lib.Dec.{leb, eqb}
use lib.ListN.{length, take, drop}
use borrow.Author.Tests.{eqb-true}
use Rattle.base.specs.Outcome.{Outcome, gives, refuses, need, and_then, giving}
use Rattle.records.specs.Field.{number_of}
use Rattle.records.specs.Record.{Taken, record_length, take_record, taken}
use Rattle.records.proofs.LengthLaws.{path-length}
use Rattle.records.proofs.RecordLaws.{by-taken}
use Rattle.stop.specs.declared.Stop.{Stop}
use Rattle.stop.specs.Stop.{in_range, judge_stop}
use Rattle.path.specs.Path.{PathHead, path_head, Path, path, read_head, head_of, head_fields, read_on, read_path, read_body, stop_of, stop_then, end_of, known_version}
use Rattle.path.proofs.HeadLaws.{Seen, good-head, bad-head, head-seen}

-- ---- the body

pub record Next (version n : ℕ) (s : List ℕ) (ss : List Stop) : Type 0 where
  pub content : List ℕ
  pub rest : List ℕ
  pub others : List Stop
  pub whole : take_record 2 (record_length 2 version 0) s ≡ gives (taken content rest)
  pub good : in_range (stop_of version content) ≡ true
  pub after : read_body version n rest ≡ gives others
  pub list : ss ≡ stop_of version content ∷ others

-- an accepted body begins with a stop's record, and the rest is accepted too
pub next_of : (version n : ℕ) (s : List ℕ) (ss : List Stop) → read_body version (suc n) s ≡ gives ss → Next version n s ss
unfolding read_body stop_then judge_stop
next_of version n s ss =
    by-taken 2 (record_length 2 version 0) s (λ t. take_record 2 (record_length 2 version 0) s ≡ t → and_then t (stop_then version (read_body version n)) ≡ gives ss → Next version n s ss)
    (λ w t e. by-range _ _ t (in_range (stop_of version (take (record_length 2 version 0 - 2) (drop 4 s)))) refl e)
    (λ m f t e. absurd (let z : ◌≡◌ {A = ℕ} 0 1 = cc in omega arith))
    refl
  where
    by-rest : (content rest : List ℕ) → take_record 2 (record_length 2 version 0) s ≡ gives (taken content rest) → in_range (stop_of version content) ≡ true → (b : Outcome (List Stop)) → read_body version n rest ≡ b → giving (λ others. stop_of version content ∷ others) b ≡ gives ss → Next version n s ss
    by-rest content rest t r (gives others) q e = record { content = content; rest = rest; others = others; whole = t; good = r; after = q; list = cc }
    by-rest content rest t r (refuses m) q e = absurd (let z : ◌≡◌ {A = ℕ} 0 1 = cc in omega arith)

    by-range : (content rest : List ℕ) → take_record 2 (record_length 2 version 0) s ≡ gives (taken content rest) → (b : Bool) → in_range (stop_of version content) ≡ b → and_then (need b 6 (gives (stop_of version content))) (λ st. giving (λ others. st ∷ others) (read_body version n rest)) ≡ gives ss → Next version n s ss
    by-range content rest t true r e = by-rest content rest t r (read_body version n rest) refl e
    by-range content rest t false r e = absurd (let z : ◌≡◌ {A = ℕ} 0 1 = cc in omega arith)

pub record Ended (version : ℕ) (s : List ℕ) (ss : List Stop) : Type 0 where
  pub content : List ℕ
  pub whole : take_record 3 (record_length 3 version 0) s ≡ gives (taken content [])
  pub list : ss ≡ []

empty : (l : List ℕ) → length l ≡ 0 → l ≡ []
empty [] h = refl
empty (x ∷ l) h = absurd (omega arith)

-- an accepted body ends with the end record and nothing after it
pub ended_of : (version : ℕ) (s : List ℕ) (ss : List Stop) → read_body version 0 s ≡ gives ss → Ended version s ss
unfolding read_body end_of
ended_of version s ss =
    by-taken 3 (record_length 3 version 0) s (λ t. take_record 3 (record_length 3 version 0) s ≡ t → and_then t end_of ≡ gives ss → Ended version s ss)
    (λ w t e. by_size _ _ t (eqb (length (drop (2 + record_length 3 version 0) s)) 0) refl e)
    (λ m f t e. absurd (let z : ◌≡◌ {A = ℕ} 0 1 = cc in omega arith))
    refl
  where
    by_size : (content rest : List ℕ) → take_record 3 (record_length 3 version 0) s ≡ gives (taken content rest) → (b : Bool) → eqb (length rest) 0 ≡ b → need b 7 (gives []) ≡ gives ss → Ended version s ss
    by_size content rest t true z e = record { content = content; whole = t ∙ ap (λ (r : List ℕ). gives (taken content r)) (empty rest (eqb-true _ _ z)); list = cc }
    by_size content rest t false z e = absurd (let w : ◌≡◌ {A = ℕ} 0 1 = cc in omega arith)

-- ---- the path

pub record Accepted (bytes : List ℕ) (highest : ℕ) (test : ℕ → Outcome Unit) (version k : ℕ) (ss : List Stop) : Type 0 where
  pub opened : read_head bytes highest ≡ gives (path_head version k (drop 8 bytes))
  pub known : known_version version ≡ true
  pub below : version ≤ highest
  pub small : k ≤ 10
  pub long : 8 ≤ length bytes
  pub takes : test k ≡ gives tt
  pub body : read_body version (2 ^ k) (drop 8 bytes) ≡ gives ss

pub accepted-of : (bytes : List ℕ) (highest : ℕ) (test : ℕ → Outcome Unit) (version k : ℕ) (ss : List Stop) → read_path bytes highest test ≡ gives (path version k ss) → Accepted bytes highest test version k ss
unfolding read_path read_on
accepted-of bytes highest test version k ss = by-head (read_head bytes highest) refl (head-seen bytes highest)
  where
    by-body : (v j : ℕ) → read_head bytes highest ≡ gives (path_head v j (drop 8 bytes)) → known_version v ≡ true → v ≤ highest → j ≤ 10 → 8 ≤ length bytes → test j ≡ gives tt → (b : Outcome (List Stop)) → read_body v (2 ^ j) (drop 8 bytes) ≡ b → giving (path v j) b ≡ gives (path version k ss) → Accepted bytes highest test version k ss
    by-body v j h p q r l f (gives others) b e =
        let same : path v j others ≡ path version k ss = cc in
        let ev : v ≡ version = ap (λ (x : Path). x.version) same in
        let ek : j ≡ k = ap (λ (x : Path). x.k) same in
        let es : others ≡ ss = ap (λ (x : Path). x.stops) same in
        record { opened = rw (ev, ek) at h; known = rw ev at p; below = rw ev at q; small = rw ek at r; long = l; takes = rw ek at f; body = rw (ev, ek, es) at b }
    by-body v j h p q r l f (refuses m) b e = absurd (let w : ◌≡◌ {A = ℕ} 0 1 = cc in omega arith)

    by-test : (v j : ℕ) → read_head bytes highest ≡ gives (path_head v j (drop 8 bytes)) → known_version v ≡ true → v ≤ highest → j ≤ 10 → 8 ≤ length bytes → (o : Outcome Unit) → test j ≡ o → and_then o (λ passed. giving (path v j) (read_body v (2 ^ j) (drop 8 bytes))) ≡ gives (path version k ss) → Accepted bytes highest test version k ss
    by-test v j h p q r l (gives tt) f e = by-body v j h p q r l f (read_body v (2 ^ j) (drop 8 bytes)) refl e
    by-test v j h p q r l (refuses m) f e = absurd (let w : ◌≡◌ {A = ℕ} 0 1 = cc in omega arith)

    by-head : (h : Outcome PathHead) → read_head bytes highest ≡ h → Seen bytes highest h → and_then h (read_on test) ≡ gives (path version k ss) → Accepted bytes highest test version k ss
    by-head h eh (good-head v j p q r l) e = by-test v j eh p q r l (test j) refl e
    by-head h eh (bad-head n f) e = absurd (let w : ◌≡◌ {A = ℕ} 0 1 = cc in omega arith)

-- it is read the same by any caller whose own test passes
pub read_same : (bytes : List ℕ) (highest : ℕ) (test test' : ℕ → Outcome Unit) (version k : ℕ) (ss : List Stop) → read_path bytes highest test ≡ gives (path version k ss)
    → test' k ≡ gives tt → read_path bytes highest test' ≡ gives (path version k ss)
unfolding read_path read_on
read_same bytes highest test test' version k ss e f = let a = accepted-of bytes highest test version k ss e in rw (a.opened, f, a.body)

-- ---- the head

pub record Opened (bytes : List ℕ) (highest version k : ℕ) (rest : List ℕ) : Type 0 where
  pub content : List ℕ
  pub whole : take_record 1 (record_length 1 highest 0) bytes ≡ gives (taken content rest)
  pub version-is : number_of (take 2 content) ≡ version
  pub k-is : number_of (take 2 (drop 2 content)) ≡ k

same-fields : (highest a b version k : ℕ) (r rest : List ℕ) → head_fields highest a b r ≡ gives (path_head version k rest) → path_head a b r ≡ path_head version k rest
unfolding head_fields
same-fields highest a b version k r rest = pick (known_version a && leb a highest) (leb b 10)
  where
    pick : (p q : Bool) → need p 4 (need q 5 (gives (path_head a b r))) ≡ gives (path_head version k rest) → path_head a b r ≡ path_head version k rest
    pick true true e = cc
    pick true false e = absurd (let w : ◌≡◌ {A = ℕ} 0 1 = cc in omega arith)
    pick false q e = absurd (let w : ◌≡◌ {A = ℕ} 0 1 = cc in omega arith)

-- an accepted head is a whole record, whose fields are the version and k
pub opened_of : (bytes : List ℕ) (highest version k : ℕ) (rest : List ℕ) → read_head bytes highest ≡ gives (path_head version k rest) → Opened bytes highest version k rest
unfolding read_head head_of
opened_of bytes highest version k rest = by-highest (known_version highest)
  where
    by-fields : (content r : List ℕ) → take_record 1 (record_length 1 highest 0) bytes ≡ gives (taken content r) → head_fields highest (number_of (take 2 content)) (number_of (take 2 (drop 2 content))) r ≡ gives (path_head version k rest) → Opened bytes highest version k rest
    by-fields content r t e =
        let same = same-fields highest (number_of (take 2 content)) (number_of (take 2 (drop 2 content))) version k r rest e in
        record {
          content = content;
          whole = t ∙ ap (λ (l : List ℕ). gives (taken content l)) (ap (λ (h : PathHead). h.rest) same);
          version-is = ap (λ (h : PathHead). h.version) same;
          k-is = ap (λ (h : PathHead). h.k) same;
        }

    by-highest : (b : Bool) → need b 4 (and_then (take_record 1 (record_length 1 highest 0) bytes) (head_of highest)) ≡ gives (path_head version k rest) → Opened bytes highest version k rest
    by-highest true =
        by-taken 1 (record_length 1 highest 0) bytes (λ t. take_record 1 (record_length 1 highest 0) bytes ≡ t → and_then t (head_of highest) ≡ gives (path_head version k rest) → Opened bytes highest version k rest)
        (λ w t e. by-fields _ _ t e)
        (λ m f t e. absurd (let z : ◌≡◌ {A = ℕ} 0 1 = cc in omega arith))
        refl
    by-highest false = λ e. absurd (let z : ◌≡◌ {A = ℕ} 0 1 = cc in omega arith)

-- ---- a path means the same to callers that know other versions and ask for other lengths

-- the version and k stand in the bytes
head-once : (bytes : List ℕ) (highest highest' version version' k k' : ℕ) (rest rest' : List ℕ) → read_head bytes highest ≡ gives (path_head version k rest) → read_head bytes highest' ≡ gives (path_head version' k' rest') → (version ≡ version') × (k ≡ k')
head-once bytes highest highest' version version' k k' rest rest' e e' =
    let a = opened_of bytes highest version k rest e in
    let b = opened_of bytes highest' version' k' rest' e' in
    let both : gives (taken a.content rest) ≡ gives (taken b.content rest') = sym (rw (path-length highest) at a.whole) ∙ rw (path-length highest') at b.whole in
    let whole : taken a.content rest ≡ taken b.content rest' = cc in
    let same : a.content ≡ b.content = ap (λ (t : Taken). t.content) whole in (
      sym a.version-is ∙ ap (λ (l : List ℕ). number_of (take 2 l)) same ∙ b.version-is,
      sym a.k-is ∙ ap (λ (l : List ℕ). number_of (take 2 (drop 2 l))) same ∙ b.k-is,
    )

pub read-once : (bytes : List ℕ) (highest highest' : ℕ) (test test' : ℕ → Outcome Unit) (version version' k k' : ℕ) (ss ss' : List Stop)
    → read_path bytes highest test ≡ gives (path version k ss) → read_path bytes highest' test' ≡ gives (path version' k' ss') → path version k ss ≡ path version' k' ss'
read-once bytes highest highest' test test' version version' k k' ss ss' e e' =
    let a = accepted-of bytes highest test version k ss e in
    let b = accepted-of bytes highest' test' version' k' ss' e' in
    let h = head-once bytes highest highest' version version' k k' _ _ a.opened b.opened in
    let both : gives ss ≡ gives ss' = sym a.body ∙ ap₂ (λ (v j : ℕ). read_body v (2 ^ j) (drop 8 bytes)) h.0 h.1 ∙ b.body in
    let stops : ss ≡ ss' = cc in
    rw (h.0, h.1, stops)
