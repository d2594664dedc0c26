-- `order_file::check::FileBytes::judge_records` meets its contract: each record is judged where it is due.
use mathlib.Core.Path.{◌≡◌, refl, sym, ap, ap₂, ◌∙◌}
use mathlib.Core.List.{List}
use Prim.Native.Nat.{ℕ, ◌+◌, ◌*◌, ◌^◌, ◌≤◌}
use native.Mathlib.Omega.{arith}
use lib.ListN.{drop}
use Rattle.std.proofs.lemmas.Result.{err_from_is_err_and}
use Rattle.base.specs.Outcome.{Outcome, gives, done, unless, number}
use Rattle.base.specs.Size.{max_k, stop_count}
use Rattle.base.proofs.Size.{stop_count-pow}
use Rattle.records.specs.Record.{take_record, record_length}
use Rattle.records.proofs.LengthLaws.{order-length, stops-length, forks-length, end-length}
use Rattle.orders.specs.Bits.{byte_count}
use Rattle.orders.proofs.Size.{byte_count-is}
use Rattle.order_file.specs.File.{forks_place, end_place, file_size}
use Rattle.order_file.specs.Reading.{read_records}
use Rattle.order_file.proofs.Stages as stage
use Rattle.order_file.proofs.check.FileBytes.judge_records.Goals as goal

-- a record's judgement, at another place and length that are the same
judged : (o : Outcome Unit) (kind long at long' at' : ℕ) (file : List ℕ) → o ≡ done (take_record kind long (drop at file)) → long ≡ long' → at ≡ at'
    → o ≡ done (take_record kind long' (drop at' file))
judged o kind long at long' at' file e f g = e ∙ ap₂ (λ (x y : ℕ). done (take_record kind x (drop y file))) f g

-- each record as the code judges it: its length and its place are those of the definition
module _ (k : ℕ) (file : List ℕ) (o : Outcome Unit) (small : k ≤ max_k) where
  is-head : o ≡ done (take_record 4 (record_length 4 5 0 + 0) file) → o ≡ done (stage.head_taken k file)
  is-head e = judged o 4 _ 0 4 0 file e (omega (arith, order-length 5)) refl

  is-stops : (n : ℕ) → n ≡ stop_count k → o ≡ done (take_record 5 (record_length 5 5 0 + 2 * n) (drop 6 file)) → o ≡ done (stage.stops_taken k file)
  is-stops n c e = judged o 5 _ 6 (10 + 2 * 2 ^ k) 6 file e (omega (arith, stops-length 5 0, c, stop_count-pow k small)) refl

  is-forks : (m at : ℕ) → m ≡ byte_count (stop_count k) → at ≡ forks_place (stop_count k) → o ≡ done (take_record 6 (record_length 6 5 0 + m) (drop at file)) → o ≡ done (stage.forks_taken k file)
  is-forks m at c p e =
      judged o 6 _ at (2 + byte_count (2 ^ k)) (forks_place (2 ^ k)) file e (omega (arith, forks-length 5 0, c, byte_count-is k small)) (p ∙ ap forks_place (stop_count-pow k small))

  is-end : (at : ℕ) → at ≡ end_place (stop_count k) → o ≡ done (take_record 3 (record_length 3 5 0 + 0) (drop at file)) → o ≡ done (stage.end_taken k file)
  is-end at p e = judged o 3 _ at 2 (end_place (2 ^ k)) file e (omega (arith, end-length 5)) (p ∙ ap end_place (stop_count-pow k small))

-- how far a file is judged once its records so far are accepted
module _ (k : ℕ) (file : List ℕ) (head : gives tt ≡ done (stage.head_taken k file)) where
  past_head : read_records k file ≡ stage.after_head k file
  past_head = stage.record-good _ _ _ (stage.records-are k file) head

  module _ (own : stage.own_k k file ≡ k) where
    past-own : read_records k file ≡ unless (number (stage.stops_taken k file)) (stage.after_stops k file)
    past-own = past_head ∙ stage.own-good k file own

    module _ (order : gives tt ≡ done (stage.stops_taken k file)) where
      past-stops : read_records k file ≡ stage.after_stops k file
      past-stops = stage.record-good _ _ _ past-own order

      module _ (forks : gives tt ≡ done (stage.forks_taken k file)) where
        past-forks : read_records k file ≡ stage.after_forks k file
        past-forks = stage.record-good _ _ _ past-stops forks

        past_end : gives tt ≡ done (stage.end_taken k file) → read_records k file ≡ stage.after_end k file
        past_end end = stage.record-good _ _ _ past-forks end

pub returns-in_err-judge_record : goal.returns-in_err-judge_record
returns-in_err-judge_record c =
    let k : ℕ = c.args.self.k in let file : List ℕ = c.args.self.bytes.now in
    let p = err_from_is_err_and c.from_residual.result c.from_residual.ensures.1 in
    rw (p.1, p.2) (stage.record-bad _ _ _ (stage.records-are k file) _ (is-head k file _ c.args.self.small c.in_err-judge_record.ensures))

pub returns-then-field16-self : goal.returns-then-field16-self
returns-then-field16-self c =
    let k : ℕ = c.args.self.k in let file : List ℕ = c.args.self.bytes.now in
    let head = is-head k file _ c.args.self.small c.in_ok-judge_record.ensures in
    sym (ap done (past_head k file head ∙ stage.own-bad k file (λ e. c.if-field16-self.true (c.field16.ensures ∙ e))))

pub returns-in_err-judge_record-2 : goal.returns-in_err-judge_record-2
returns-in_err-judge_record-2 c =
    let k : ℕ = c.args.self.k in let file : List ℕ = c.args.self.bytes.now in let small : k ≤ max_k = c.args.self.small in
    let p = err_from_is_err_and c.from_residual-in_err-judge_record-2.result c.from_residual-in_err-judge_record-2.ensures.1 in
    let head = is-head k file _ small c.in_ok-judge_record.ensures in
    let own : stage.own_k k file ≡ k = sym c.field16.ensures ∙ c.if-field16-self.false in
    rw (p.1, p.2) (stage.record-bad _ _ _ (past-own k file head own) _ (is-stops k file _ small _ c.stop_count.ensures c.in_err-judge_record-2.ensures))

pub returns-in_err-judge_record-3 : goal.returns-in_err-judge_record-3
returns-in_err-judge_record-3 c =
    let k : ℕ = c.args.self.k in let file : List ℕ = c.args.self.bytes.now in let small : k ≤ max_k = c.args.self.small in
    let p = err_from_is_err_and c.from_residual-in_err-judge_record-3.result c.from_residual-in_err-judge_record-3.ensures.1 in
    let head = is-head k file _ small c.in_ok-judge_record.ensures in
    let own : stage.own_k k file ≡ k = sym c.field16.ensures ∙ c.if-field16-self.false in
    let order = is-stops k file _ small _ c.stop_count.ensures c.in_ok-judge_record-2.ensures in
    rw (p.1, p.2) (stage.record-bad _ _ _ (past-stops k file head own order) _ (is-forks k file _ small _ _ c.byte_count.ensures c.forks_place.ensures c.in_err-judge_record-3.ensures))

pub returns-in_err-judge_record-4 : goal.returns-in_err-judge_record-4
returns-in_err-judge_record-4 c =
    let k : ℕ = c.args.self.k in let file : List ℕ = c.args.self.bytes.now in let small : k ≤ max_k = c.args.self.small in
    let p = err_from_is_err_and c.from_residual-in_err-judge_record-4.result c.from_residual-in_err-judge_record-4.ensures.1 in
    let head = is-head k file _ small c.in_ok-judge_record.ensures in
    let own : stage.own_k k file ≡ k = sym c.field16.ensures ∙ c.if-field16-self.false in
    let order = is-stops k file _ small _ c.stop_count.ensures c.in_ok-judge_record-2.ensures in
    let forks = is-forks k file _ small _ _ c.byte_count.ensures c.forks_place.ensures c.in_ok-judge_record-3.ensures in
    rw (p.1, p.2) (stage.record-bad _ _ _ (past-forks k file head own order forks) _ (is-end k file _ small _ c.end_place.ensures c.in_err-judge_record-4.ensures))

pub returns-then-file_size-self : goal.returns-then-file_size-self
returns-then-file_size-self c =
    let k : ℕ = c.args.self.k in let file : List ℕ = c.args.self.bytes.now in let small : k ≤ max_k = c.args.self.small in
    let head = is-head k file _ small c.in_ok-judge_record.ensures in
    let own : stage.own_k k file ≡ k = sym c.field16.ensures ∙ c.if-field16-self.false in
    let order = is-stops k file _ small _ c.stop_count.ensures c.in_ok-judge_record-2.ensures in
    let forks = is-forks k file _ small _ _ c.byte_count.ensures c.forks_place.ensures c.in_ok-judge_record-3.ensures in
    let end = is-end k file _ small _ c.end_place.ensures c.in_ok-judge_record-4.ensures in
    let size : c.file_size.result ≡ file_size (2 ^ k) = c.file_size.ensures ∙ ap file_size (stop_count-pow k small) in
    sym (ap done (past_end k file head own order forks end ∙ stage.end_more k file (omega (arith, size))))

pub returns : goal.returns
returns c =
    let k : ℕ = c.args.self.k in let file : List ℕ = c.args.self.bytes.now in let small : k ≤ max_k = c.args.self.small in
    let head = is-head k file _ small c.in_ok-judge_record.ensures in
    let own : stage.own_k k file ≡ k = sym c.field16.ensures ∙ c.if-field16-self.false in
    let order = is-stops k file _ small _ c.stop_count.ensures c.in_ok-judge_record-2.ensures in
    let forks = is-forks k file _ small _ _ c.byte_count.ensures c.forks_place.ensures c.in_ok-judge_record-3.ensures in
    let end = is-end k file _ small _ c.end_place.ensures c.in_ok-judge_record-4.ensures in
    let size : c.file_size.result ≡ file_size (2 ^ k) = c.file_size.ensures ∙ ap file_size (stop_count-pow k small) in
    sym (ap done (past_end k file head own order forks end ∙ stage.end-exact k file (omega (arith, size))))
