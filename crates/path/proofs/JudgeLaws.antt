-- What a caller that judges a path piece by piece knows: the head's answer, its own test of k, and the body's number settle the reading.
use mathlib.Core.Path.{◌≡◌, refl, sym, ap, ◌∙◌}
use mathlib.Core.List.{List}
use Prim.Native.Nat.{ℕ, ◌+◌, ◌^◌, ◌≤◌}
use native.Mathlib.Omega.{arith}
use lib.Dec.{leb}
use mathlib.Core.Bool.{true}
use lib.ListN.{length, drop}
use borrow.Author.Tests.{le-leb, leb-true}
use Rattle.base.specs.Outcome.{Outcome, gives, refuses, and_then, giving, done, number}
use Rattle.base.proofs.Outcome.{refused, passed, number-giving, gives-not-refuses, done-good, done-refused}
use Rattle.stop.specs.Lent.{all_in_range}
use Rattle.path.specs.declared.Heading.{Heading}
use Rattle.path.specs.declared.PathBytes.{PathBytes}
use Rattle.path.specs.Bytes.{opened, heading_of}
use Rattle.path.specs.Path.{PathHead, path_head, Path, path, read_head, read_on, read_path, read_body, body_after_head, known_version, stops_in, stop_place}
use Rattle.path.specs.Local.{judge_form}
use Rattle.path.specs.Reading.{heading}
use Rattle.path.proofs.BodyLaws.{body-in}
use Rattle.path.proofs.FormLaws.{form-refused}
use Rattle.path.proofs.HeadLaws.{Seen, good-head, bad-head, head-seen, Opened, head-opened}

-- ---- a path is read head first

-- a refused head refuses the path
pub path-refused : (bytes : List ℕ) (highest : ℕ) (test : ℕ → Outcome Unit) (n : ℕ) → read_head bytes highest ≡ refuses n → read_path bytes highest test ≡ refuses n
unfolding read_path
path-refused bytes highest test n e = rw e

module _ (bytes : List ℕ) (highest : ℕ) (test : ℕ → Outcome Unit) (version k : ℕ) (rest : List ℕ) (e : read_head bytes highest ≡ gives (path_head version k rest)) where
  -- then the caller's own test of k, and then the stops and the end
  path-on : read_path bytes highest test ≡ and_then (test k) (λ passed. giving (path version k) (read_body version (2 ^ k) rest))
  unfolding read_path read_on
  path-on = rw e

  pub path-untaken : (n : ℕ) → test k ≡ refuses n → read_path bytes highest test ≡ refuses n
  path-untaken n f = rw (path-on, f)

  pub path-body : test k ≡ gives tt → read_path bytes highest test ≡ giving (path version k) (read_body version (2 ^ k) rest)
  path-body f = rw (path-on, f)

-- tests that say the same of every k read the same path
pub path-tests : (bytes : List ℕ) (highest : ℕ) (test test' : ℕ → Outcome Unit) → ((k : ℕ) → test k ≡ test' k) → read_path bytes highest test ≡ read_path bytes highest test'
unfolding read_path read_on
path-tests bytes highest test test' same = by (read_head bytes highest)
  where
    by : (o : Outcome PathHead) → and_then o (read_on test) ≡ and_then o (read_on test')
    by (gives h) = rw (same h.k)
    by (refuses n) = refl

-- ---- the body after a head that was accepted

pub after-head : (bytes : List ℕ) (version k : ℕ) → known_version version ≡ true → k ≤ 10 → body_after_head bytes version k ≡ read_body version (2 ^ k) (drop 8 bytes)
unfolding body_after_head
after-head bytes version k known small = rw (known, le-leb k 10 small)

-- a version or a k that is refused
pub body-unformed : (bytes : List ℕ) (version k n : ℕ) → refuses n ≡ judge_form version k → body_after_head bytes version k ≡ refuses n
unfolding body_after_head
body-unformed bytes version k n e = form-refused version k n (read_body version (2 ^ k) (drop 8 bytes)) e

-- ---- a body that was judged

-- what a body is whose number is 0
pub record JudgedBody (bytes : List ℕ) (version k : ℕ) : Type 0 where
  pub known : known_version version ≡ true
  pub small : k ≤ 10
  pub stops : body_after_head bytes version k ≡ gives (stops_in version (2 ^ k) bytes)
  pub size : length bytes ≡ stop_place version (2 ^ k) + 4
  pub range : all_in_range (stops_in version (2 ^ k) bytes) ≡ true

pub body-good : (bytes : List ℕ) (version k : ℕ) → number (body_after_head bytes version k) ≡ 0 → JudgedBody bytes version k
unfolding body_after_head
body-good bytes version k e =
    let first = passed (known_version version) 4 _ (omega arith) e in
    let second = passed (leb k 10) 5 _ (omega arith) first.goes_on in
    let b = body-in version (2 ^ k) bytes second.goes_on in
    record { known = first.holds; small = leb-true _ _ second.holds; stops = first.same ∙ second.same ∙ b.stops; size = b.size; range = b.range }

-- the same of a call that judged it
pub body-done : (bytes : List ℕ) (version k : ℕ) → gives tt ≡ done (body_after_head bytes version k) → JudgedBody bytes version k
body-done bytes version k e = body-good bytes version k (done-good (body_after_head bytes version k) e)

-- ---- what such a caller answers

-- a refused head
pub judged-head : (bytes : List ℕ) (highest : ℕ) (test : ℕ → Outcome Unit) (n : ℕ) → refuses n ≡ read_head bytes highest → read_path bytes highest test ≡ refuses n
judged-head bytes highest test n e = path-refused bytes highest test n (sym e)

-- an accepted path is that of the stops at their places
pub record JudgedPath (bytes : List ℕ) (highest : ℕ) (test : ℕ → Outcome Unit) (version k : ℕ) : Type 0 where
  pub reads : read_path bytes highest test ≡ gives (path version k (stops_in version (2 ^ k) bytes))
  pub body : JudgedBody bytes version k
  pub takes : test k ≡ gives tt

-- the bytes of an accepted head, which are those that were judged
module _ (bytes : List ℕ) (highest : ℕ) (test : ℕ → Outcome Unit) (p : PathBytes) (head : gives (opened p) ≡ read_head bytes highest) (same : p.bytes.now ≡ bytes) where
  -- their version and k are good, and the body follows at byte 8
  pub head-facts : Opened bytes highest p.version p.k
  head-facts = head-opened bytes highest (opened p) head

  pub judged-after : body_after_head bytes p.version p.k ≡ read_body p.version (2 ^ p.k) (drop 8 bytes)
  judged-after = after-head bytes p.version p.k head-facts.known head-facts.small

  -- the caller's own test of k comes next
  pub judged-test : (n : ℕ) → test p.k ≡ refuses n → read_path bytes highest test ≡ refuses n
  judged-test n f = path-untaken bytes highest test p.version p.k (drop 8 bytes) head-facts.head n f

  -- and then the body
  module _ (fits : test p.k ≡ gives tt) where
    pub judged-rest : read_path bytes highest test ≡ giving (path p.version p.k) (body_after_head bytes p.version p.k)
    judged-rest = rw judged-after (path-body bytes highest test p.version p.k (drop 8 bytes) head-facts.head fits)

    pub judged-body : (n : ℕ) → refuses n ≡ done (body_after_head p.bytes.now p.version p.k) → read_path bytes highest test ≡ refuses n
    judged-body n e = rw (judged-rest, done-refused (body_after_head bytes p.version p.k) n (rw same at e))

    pub judged-path : gives tt ≡ done (body_after_head p.bytes.now p.version p.k) → JudgedPath bytes highest test p.version p.k
    judged-path e =
        let b = body-done bytes p.version p.k (rw same at e) in
        record { reads = rw (judged-rest, b.stops); body = b; takes = fits }

-- ---- what is returned tells the path

module _ (bytes : List ℕ) (highest : ℕ) (test : ℕ → Outcome Unit) where
  by-body : (version k : ℕ) → read_head bytes highest ≡ gives (path_head version k (drop 8 bytes)) → known_version version ≡ true → k ≤ 10 → test k ≡ gives tt → number (read_path bytes highest test) ≡ 0 → JudgedPath bytes highest test version k
  by-body version k e known small takes z =
      let whole : read_path bytes highest test ≡ giving (path version k) (body_after_head bytes version k) = rw (after-head bytes version k known small) (path-body bytes highest test version k (drop 8 bytes) e takes) in
      let judged : number (body_after_head bytes version k) ≡ 0 = sym (ap number whole ∙ number-giving (path version k) (body_after_head bytes version k)) ∙ z in
      let body = body-good bytes version k judged in
      record { reads = rw (whole, body.stops); body = body; takes = takes }

  by-test : (version k : ℕ) → read_head bytes highest ≡ gives (path_head version k (drop 8 bytes)) → known_version version ≡ true → k ≤ 10 → (t : Outcome Unit) → test k ≡ t → (q : Path) → read_path bytes highest test ≡ gives q → JudgedPath bytes highest test q.version q.k
  by-test version k e known small (gives u) takes q r =
      let judged = by-body version k e known small takes (ap number r) in
      let same : q ≡ path version k (stops_in version (2 ^ k) bytes) = gives-same (sym r ∙ judged.reads) in
      rw same judged
    where
      gives-same : {a b : Path} → gives a ≡ gives b → a ≡ b
      gives-same g = cc
  by-test version k e known small (refuses n) refused q r =
      absurd (gives-not-refuses q n (sym r ∙ path-untaken bytes highest test version k (drop 8 bytes) e n refused))

  -- a path that is given
  path-given : (q : Path) → read_path bytes highest test ≡ gives q → JudgedPath bytes highest test q.version q.k
  path-given q r = by (read_head bytes highest) (head-seen bytes highest) refl
    where
      by : (o : Outcome PathHead) → Seen bytes highest o → read_head bytes highest ≡ o → JudgedPath bytes highest test q.version q.k
      by o (good-head version k known below small long) e = by-test version k e known small (test k) refl q r
      by o (bad-head n f) e = absurd (gives-not-refuses q n (sym r ∙ path-refused bytes highest test n e))

  -- a path whose version and k are given
  pub path-good : (p : PathBytes) → gives (heading_of p) ≡ giving heading (read_path bytes highest test) → JudgedPath bytes highest test p.version p.k
  path-good p e = by (read_path bytes highest test) refl e
    where
      by : (o : Outcome Path) → read_path bytes highest test ≡ o → gives (heading_of p) ≡ giving heading o → JudgedPath bytes highest test p.version p.k
      by (gives q) r g =
          let same : heading_of p ≡ heading q = cc in
          let version : p.version ≡ q.version = ap (λ (h : Heading). h.version) same in
          let k : p.k ≡ q.k = ap (λ (h : Heading). h.k) same in
          rw (version, k) (path-given q r)
      by (refuses n) r g = absurd (gives-not-refuses (heading_of p) n g)
