-- WHAT A CALL SAYS in the cases that document 02 names: how many stops the list has, a tray with no filled stop, and one with no empty stop.
use mathlib.Core.Path.{◌≡◌, refl, sym, ap, ◌∙◌}
use mathlib.Core.Bool.{Bool, true, false}
use mathlib.Core.List.{List, []}
use mathlib.Core.Logic.{◌≢◌}
use Rattle.std.specs.Prelude.{Ok}
use Prim.Native.Nat.{ℕ, zero, suc, ◌^◌, ◌≤◌, ◌<◌}
use native.Mathlib.Omega.{arith}
use lib.ListN.{length, get_or}
use Rattle.base.specs.Outcome.{Outcome, gives, giving, number, over}
use Rattle.base.proofs.Outcome.{number-giving}
use Rattle.tree.specs.Total.{entry, total}
use Rattle.tree.specs.Open.{wanted}
use Rattle.tree.proofs.Open.{length-wanted}
use Rattle.orders.specs.Allowed.{forks_of}
use Rattle.orders.specs.Bits.{bit_string}
use Rattle.filled.specs.declared.ListPlanned.{ListPlanned}
use Rattle.filled.specs.Filled.{bytes_in, filled_in, flags, ListPlan, wanted_plan, list_room, plan_list, answer_of, ListIsPlanned}
use Rattle.filled.specs.Forks.{list_forks}
use Rattle.filled.specs.Lists.{list_of, wanted_list}
use Rattle.filled.specs.Moves.{moves_forks}
use Rattle.walks.specs.Places.{stops_to}
use Rattle.filled.proofs.Arranged.{count_in}
use Rattle.filled.proofs.Flags.{flags-each, filled-take, byte-filled, byte-empty}
use Rattle.filled.proofs.Judged.{Fit, judged}
use Rattle.filled.proofs.Meant.{list_forks-read, list_forks-full}
use Rattle.filled.proofs.Sets.{list_of-empty}
use Rattle.filled.proofs.Wanted.{wanted_list-full, wanted_list-empty, length-wanted_list}

-- ---- the definition

module _ (k : ℕ) (s : ℕ → Bool) (t : ℕ → ℕ → ℕ) where
  -- a plan by its list and forks
  plan-of : (l : List ℕ) (F : ℕ) → wanted_list k s t ≡ l → list_forks k s l ≡ F → wanted_plan k s t ≡ record { list = l; total = total t l; forks = F }
  plan-of l F e f = rw (e, f)

  -- 'No filled stop gives an empty list, total 0', and no fork is exchanged
  pub plan-empty : ((i : ℕ) → i < 2 ^ k → s i ≡ false) → wanted_plan k s t ≡ record { list = []; total = 0; forks = 0 }
  unfolding moves_forks stops_to
  plan-empty h =
      let e : list_of k s 0 ≡ [] = list_of-empty k s h 0 in
      plan-of [] 0 (wanted_list-empty k s t h) (rw e at (list_forks-read k s 0))

  -- 'With no byte 1 it must agree with the plain order': the planner's order and total, and the order's fork bits
  pub plan-full : ((i : ℕ) → i < 2 ^ k → s i ≡ true) → wanted_plan k s t ≡ record { list = wanted k t; total = total t (wanted k t); forks = forks_of k (wanted k t) }
  plan-full h = plan-of (wanted k t) (forks_of k (wanted k t)) (wanted_list-full k s t h) (list_forks-full k s h (wanted k t))

-- ---- the call

zero-or-one : (b : ℕ) → b ≤ 1 → b ≢ 1 → b ≡ 0
zero-or-one zero h f = refl
zero-or-one (suc zero) h f = absurd (f refl)
zero-or-one (suc (suc b)) h f = absurd (omega arith)

module _ (k : ℕ) (table empties list bits work list' bits' work' : List ℕ) (c count : ℕ)
    (p : ListIsPlanned k table empties (plan_list k table empties (length list) (length bits) (length work)) list bits work list' bits' work' (Ok (record { total = c; length = count }))) where
  -- the filled stops, and the times
  abbrev s : ℕ → Bool
  s = filled_in (bytes_in k empties)

  abbrev t : ℕ → ℕ → ℕ
  t = entry (2 ^ k) table

  -- an accepting call's lengths fit, its bytes are 0 or 1, and its plan is the wanted one
  pub when-planned : Fit k (length table) empties (length list) (length bits) (length work) × (flags (bytes_in k empties) ≡ true)
      × (plan_list k table empties (length list) (length bits) (length work) ≡ gives (wanted_plan k s t))
  when-planned =
      let room : Outcome Unit = list_room k (length table) empties (length list) (length bits) (length work) in
      let o : Outcome ListPlan = giving (λ u. wanted_plan k s t) room in
      let z : 0 ≡ number room = ap number p.said ∙ number-giving answer_of o ∙ number-giving (λ u. wanted_plan k s t) room in
      let j = judged k (length table) empties (length list) (length bits) (length work) (sym z) in
      (j.0, j.1, ap (giving (λ u. wanted_plan k s t)) j.2)

  -- what it says and leaves
  pub leaves : (q : ListPlan) → wanted_plan k s t ≡ q → (c ≡ q.total) × (count ≡ length q.list) × (list' ≡ over q.list list) × (bits' ≡ over (bit_string k q.forks) bits)
  leaves q e =
      let o : plan_list k table empties (length list) (length bits) (length work) ≡ gives q = when-planned.2 ∙ ap gives e in
      let a : ◌≡◌ {A = Outcome ListPlanned} (gives (record { total = c; length = count })) (gives (answer_of q)) = p.said ∙ rw o in
      let b : ◌≡◌ {A = ListPlanned} (record { total = c; length = count }) (answer_of q) = cc in
      (ap (λ (x : ListPlanned). x.total) b, ap (λ (x : ListPlanned). x.length) b, p.wrote ∙ rw o, p.marked ∙ rw o)

  -- AS MANY STOPS AS ARE FILLED
  pub counted : count ≡ count_in s 0 (2 ^ k)
  counted = (leaves (wanted_plan k s t) refl).1 ∙ length-wanted_list k s t

  -- what the bytes say
  byte : (i : ℕ) → i < 2 ^ k → (i < length empties) × (s i ≡ filled_in empties i) × (get_or empties i 0 ≤ 1)
  byte i b =
      let w = when-planned in
      (omega (arith, w.0.bytes), filled-take empties (2 ^ k) i b, flags-each empties (2 ^ k) w.0.bytes w.1 i b)

  -- NO FILLED STOP: no byte among the first n is 0
  pub none_filled : ((i : ℕ) → i < 2 ^ k → get_or empties i 0 ≢ 0) → (c ≡ 0) × (count ≡ 0) × (list' ≡ list) × (bits' ≡ over (bit_string k 0) bits)
  none_filled h =
      leaves (record { list = []; total = 0; forks = 0 }) (plan-empty k s t (λ i b. let x = byte i b in x.1 ∙ byte-empty empties i x.0 (h i b)))

  -- NO EMPTY STOP: no byte among the first n is 1. It is the planner's order, with its total and its fork bits
  pub none-empty : ((i : ℕ) → i < 2 ^ k → get_or empties i 0 ≢ 1)
      → (c ≡ total t (wanted k t)) × (count ≡ 2 ^ k) × (list' ≡ over (wanted k t) list) × (bits' ≡ over (bit_string k (forks_of k (wanted k t))) bits)
  none-empty h =
      let q = leaves (record { list = wanted k t; total = total t (wanted k t); forks = forks_of k (wanted k t) })
      (plan-full k s t (λ i b. let x = byte i b in x.1 ∙ byte-filled empties i x.0 (zero-or-one (get_or empties i 0) x.2 (h i b)))) in
      (q.0, q.1 ∙ length-wanted k t, q.2, q.3)
