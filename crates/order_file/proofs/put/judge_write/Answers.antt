-- `order_file::put::judge_write` meets its contract: k, the lent lengths, then the order, whose fork string is made.
use mathlib.Core.Path.{◌≡◌, sym, ap, subst, ◌∙◌}
use Prim.Native.Nat.{ℕ, ◌*◌, ◌^◌, ◌≤◌}
use native.Mathlib.Omega.{arith}
use lib.ListN.{length}
use Rattle.std.proofs.Common.{rules}
use Rattle.base.specs.Outcome.{done}
use Rattle.base.specs.Size.{max_k}
use Rattle.base.proofs.Size.{stop_count-pow}
use Rattle.orders.specs.Bits.{byte_count}
use Rattle.orders.specs.ForkBits.{fork_bits, BitsAreMade}
use Rattle.orders.proofs.Calls.{when-bits}
use Rattle.order_file.specs.File.{file_size}
use Rattle.order_file.specs.Write.{write_file}
use Rattle.order_file.proofs.Sizes.{true-sizes}
use Rattle.order_file.proofs.Calls.{write-k, write-table, write-room, write-bits}
use Rattle.order_file.proofs.put.judge_write.Goals.{then-table-n-via-then-table-n, then-table-n-via-else-table-n+then-room-file_size}
use Rattle.order_file.proofs.put.judge_write.Goals as goal

pub returns-then-k-gt-MAX_K : goal.returns-then-k-gt-MAX_K
returns-then-k-gt-MAX_K c = record { said = sym (ap done (write-k _ _ _ _ c.if-k-gt-MAX_K.true)); string = λ z. absurd (search rules) }

pub returns-then-table-n : goal.returns-then-table-n
returns-then-table-n c =
    let small : c.args.k ≤ max_k = c.if-k-gt-MAX_K.false in
    let square : c.stop_count-n.result * c.stop_count-n.result ≡ 2 ^ c.args.k * 2 ^ c.args.k = ap (λ (x : ℕ). x * x) (c.stop_count-n.ensures ∙ stop_count-pow _ small) in
    elim c.then-table-n.branch [
      | then-table-n-via-then-table-n w ↦ record {
        said = sym (ap done (write-table _ _ _ _ small (λ e. w.if-table-n.true (e ∙ sym square))));
        string = λ z. absurd (search rules);
      }
      | then-table-n-via-else-table-n+then-room-file_size w ↦
          let size : w.file_size.result ≡ file_size (2 ^ c.args.k) = w.file_size.ensures ∙ ap file_size (stop_count-pow _ small) in
          record { said = sym (ap done (write-room _ _ _ _ small (w.if-table-n.false ∙ square) (omega (arith, size)))); string = λ z. absurd (search rules) }
    ]

pub returns : goal.returns
returns c =
    let a = c.args in
    let small : a.k ≤ max_k = c.if-k-gt-MAX_K.false in
    let square : length a.table.now ≡ 2 ^ a.k * 2 ^ a.k = c.if-table-n.false ∙ ap (λ (x : ℕ). x * x) (c.stop_count-n.ensures ∙ stop_count-pow _ small) in
    let size : c.file_size.result ≡ file_size (2 ^ a.k) = c.file_size.ensures ∙ ap file_size (stop_count-pow _ small) in
    let few : byte_count (2 ^ a.k) ≤ length a.bits.now = omega (arith, c.requires, (true-sizes _ small).few) in
    let judged : done (write_file a.k a.order.now a.table.now a.room) ≡ done (fork_bits a.k a.order.now (length a.bits.now)) = write-bits _ _ _ _ _ small square (omega (arith, size)) few in
    record {
      said = c.fork_bits.ensures.said ∙ sym judged;
      string = λ z. (when-bits _ _ _ _ (subst (λ r. BitsAreMade a.k a.order.now a.bits.now c.fork_bits.new.bits r) z c.fork_bits.ensures)).1;
    }
