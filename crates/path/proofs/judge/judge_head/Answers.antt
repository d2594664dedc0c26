-- `path::judge_head` meets its contract: at each return the tests that led there say which outcome it is.
use Rattle.std.proofs.Common.{rules, ◌≡◌, Err, Result, sym, ap, ◌∙◌, ℕ, List, take, drop, true}
use Rattle.base.specs.declared.Refusal.{Refusal}
use Rattle.base.specs.Refusal.{refusal_number}
use Rattle.base.specs.Outcome.{Outcome, refuses, done, said, giving}
use Rattle.base.proofs.Outcome.{done-good, done-refused}
use Rattle.records.specs.Field.{number_of}
use Rattle.records.specs.Record.{record_length, take_record}
use Rattle.path.specs.declared.PathBytes.{PathBytes}
use Rattle.path.specs.Bytes.{opened}
use Rattle.path.specs.Path.{PathHead, known_version, read_head, head_fields}
use Rattle.path.proofs.FormLaws.{form-good}
use Rattle.path.proofs.HeadLaws.{head-unknown, head-refused, head-fields, fields-above, fields-unformed, fields-good}
use Rattle.path.proofs.judge.judge_head.Goals as goal

-- what is said of the fields of a head whose record is whole
given : (bytes : List ℕ) (highest v k : ℕ) (o : Outcome PathHead) → read_head bytes highest ≡ head_fields highest (number_of (take 2 (drop 4 bytes))) (number_of (take 2 (drop 6 bytes))) (drop 8 bytes) → v ≡ number_of (take 2 (drop 4 bytes)) → k ≡ number_of (take 2 (drop 6 bytes)) → head_fields highest v k (drop 8 bytes) ≡ o → o ≡ read_head bytes highest
given bytes highest v k o e ev ek eo = sym (rw (e, ← ev, ← ek) eo)

pub returns-then-not-known_version-clause-head : goal.returns-then-not-known_version-clause-head
returns-then-not-known_version-clause-head c = sym (head-unknown _ _ (sym c.known_version.ensures ∙ c.if-not-known_version.true))

pub returns-in_err-judge_record-clause-head : goal.returns-in_err-judge_record-clause-head
returns-in_err-judge_record-clause-head c =
    let known : known_version c.args.highest ≡ true = sym c.known_version.ensures ∙ c.if-not-known_version.false in
    let handed : c.from_residual.result ≡ Err c.in_err-judge_record.field-0.0 = search rules in
    let refusal : refuses (refusal_number c.in_err-judge_record.field-0.0) ≡ done (take_record 1 (record_length 1 c.args.highest 0) c.args.bytes.now) = c.in_err-judge_record.ensures ∙ rw (c.number.ensures, c.length.ensures) in
    ap (λ (r : Result PathBytes Refusal). giving opened (said r)) handed ∙ sym (head-refused _ _ known _ (done-refused _ _ refusal))

pub returns-then-highest-version-clause-head : goal.returns-then-highest-version-clause-head
returns-then-highest-version-clause-head c =
    let known : known_version c.args.highest ≡ true = sym c.known_version.ensures ∙ c.if-not-known_version.false in
    let whole = done-good (take_record 1 (record_length 1 c.args.highest 0) c.args.bytes.now) (c.in_ok-judge_record.ensures ∙ rw (c.number.ensures, c.length.ensures)) in
    given _ _ _ _ _ (head-fields _ _ known whole) c.field16-version.ensures c.field16-k.ensures
    (fields-above _ _ _ _ c.if-highest-version.true)

pub returns-in_err-new-clause-head : goal.returns-in_err-new-clause-head
returns-in_err-new-clause-head c =
    let known : known_version c.args.highest ≡ true = sym c.known_version.ensures ∙ c.if-not-known_version.false in
    let whole = done-good (take_record 1 (record_length 1 c.args.highest 0) c.args.bytes.now) (c.in_ok-judge_record.ensures ∙ rw (c.number.ensures, c.length.ensures)) in
    let handed : c.from_residual-in_err-new.result ≡ Err c.in_err-new.field-0.0 = search rules in
    ap (λ (r : Result PathBytes Refusal). giving opened (said r)) handed
    ∙ given _ _ _ _ _ (head-fields _ _ known whole) c.field16-version.ensures c.field16-k.ensures
    (fields-unformed _ _ _ _ c.if-highest-version.false (refusal_number c.in_err-new.field-0.0) c.in_err-new.ensures.judged)

pub returns-clause-head : goal.returns-clause-head
returns-clause-head c =
    let known : known_version c.args.highest ≡ true = sym c.known_version.ensures ∙ c.if-not-known_version.false in
    let whole = done-good (take_record 1 (record_length 1 c.args.highest 0) c.args.bytes.now) (c.in_ok-judge_record.ensures ∙ rw (c.number.ensures, c.length.ensures)) in
    let good = form-good _ _ c.in_ok-new.ensures.judged in
    given _ _ _ _ _ (head-fields _ _ known whole) c.field16-version.ensures c.field16-k.ensures
    (fields-good _ _ _ _ good.0 c.if-highest-version.false good.1)
