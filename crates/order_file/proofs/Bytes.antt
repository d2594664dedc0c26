-- Laws of the file's bytes: their lengths, and stops that are written and read again.
use mathlib.Core.Path.{◌≡◌, refl, sym, ap, ◌∙◌}
use mathlib.Core.Bool.{true}
use mathlib.Core.List.{List, [], ◌∷◌, ◌++◌, append-nil, append_assoc}
use Prim.Native.Nat.{ℕ, zero, suc, ◌+◌, ◌*◌, ◌^◌, ◌≤◌, ◌<◌}
use native.Mathlib.Omega.{arith}
use lib.ListN.{length, get_or, take, drop, length-append, length-take, length-drop}
use lib.Seq.{ext_get_or, get_or-take, get_or-drop, take_at, drop_at, take-add, length-take-le, drop-drop}
use Rattle.base.specs.Lists.{tabulate}
use Rattle.base.proofs.Lists.{length-tabulate, tabulate-of, tabulate-cong, tabulate-suc}
use Rattle.records.specs.Field.{number_of, bytes_of, are_bytes}
use Rattle.records.proofs.FieldLaws.{length-bytes_of, number-bytes_of, bytes_of-number, are_bytes-take, are_bytes-drop}
use Rattle.records.proofs.RecordLaws.{length-record_bytes}
use Rattle.tree.specs.Total.{total}
use Rattle.orders.specs.Allowed.{forks_of}
use Rattle.orders.specs.Bits.{byte_count, bit_string}
use Rattle.order_file.specs.File.{stop_bytes, head_bytes, stops_bytes, forks_bytes, end_bytes, order_file, file_for, file_size}
use Rattle.order_file.specs.Reading.{stops_in}

-- ---- lengths

-- 2 bytes a stop
pub length-stop_bytes : (o : List ℕ) → length (stop_bytes o) ≡ 2 * length o
unfolding stop_bytes
length-stop_bytes [] = refl
length-stop_bytes (b ∷ o) = rw (length-append, length-bytes_of) (omega (arith, length-stop_bytes o))

-- the four records
pub length-head : (k : ℕ) → length (head_bytes k) ≡ 6
unfolding head_bytes
length-head k = rw (length-record_bytes, length-bytes_of)

pub length-stops : (sum : ℕ) (o : List ℕ) → length (stops_bytes sum o) ≡ 12 + 2 * length o
unfolding stops_bytes
length-stops sum o = rw (length-record_bytes, length-append, length-bytes_of) (omega (arith, length-stop_bytes o))

pub length-forks : (bits : List ℕ) → length (forks_bytes bits) ≡ 4 + length bits
unfolding forks_bytes
length-forks bits = length-record_bytes _ bits

pub length-end : length end_bytes ≡ 4
unfolding end_bytes
length-end = length-record_bytes _ []

-- the whole file
pub length-file : (k sum : ℕ) (o string : List ℕ) → length o ≡ 2 ^ k → length string ≡ byte_count (2 ^ k) → length (order_file k sum o string) ≡ file_size (2 ^ k)
unfolding order_file
length-file k sum o string e f =
    rw (length-append, length-append, length-append, length-head, length-stops, length-forks, length-end) (omega arith)

-- the file for an order
pub length-file_for : (k : ℕ) (t : ℕ → ℕ → ℕ) (o : List ℕ) → length o ≡ 2 ^ k → length (file_for k t o) ≡ file_size (2 ^ k)
unfolding file_for
length-file_for k t o e = length-file k (total t o) o (bit_string k (forks_of k o)) e (length-bytes_of (byte_count (2 ^ k)) (forks_of k o))

-- ---- stops

-- one stop more
pub stop_bytes-snoc : (o : List ℕ) (b : ℕ) → stop_bytes (o ++ b ∷ []) ≡ stop_bytes o ++ bytes_of 2 b
unfolding stop_bytes
stop_bytes-snoc [] b = simp append-nil
stop_bytes-snoc (a ∷ o) b = rw (stop_bytes-snoc o b) (sym (append_assoc (bytes_of 2 a) (stop_bytes o) (bytes_of 2 b)))

-- stop p of the bytes of stops
stop-read : (o rest : List ℕ) → ((p : ℕ) → p < length o → get_or o p 0 < 65536) → (p : ℕ) → p < length o
    → number_of (take 2 (drop (2 * p) (stop_bytes o ++ rest))) ≡ get_or o p 0
unfolding stop_bytes
stop-read [] rest small p b = absurd (omega arith)
stop-read (a ∷ o) rest small zero b =
    rw (append_assoc (bytes_of 2 a) (stop_bytes o) rest, take_at (bytes_of 2 a) (stop_bytes o ++ rest) 2 (length-bytes_of 2 a))
    (number-bytes_of 2 a (small 0 b))
stop-read (a ∷ o) rest small (suc p) b =
    let e : 2 * suc p ≡ 2 + 2 * p = omega arith in
    rw (append_assoc (bytes_of 2 a) (stop_bytes o) rest, e, ← drop-drop (2 * p) 2 (bytes_of 2 a ++ (stop_bytes o ++ rest)), drop_at (bytes_of 2 a) (stop_bytes o ++ rest) 2 (length-bytes_of 2 a))
    (stop-read o rest (λ q c. small (suc q) (omega arith)) p (omega arith))

-- stops that were written are read again
pub stops-read : (n : ℕ) (o rest : List ℕ) → length o ≡ n → ((p : ℕ) → p < n → get_or o p 0 < 65536) → stops_in n (stop_bytes o ++ rest) ≡ o
unfolding stops_in
stops-read n o rest e small =
    sym (tabulate-of n (λ p. number_of (take 2 (drop (2 * p) (stop_bytes o ++ rest)))) o 0 e
    (λ p b. sym (stop-read o rest (λ q c. small q (omega arith)) p (omega arith))))

-- bytes that were read as stops are written again
pub stops-written : (n : ℕ) (s : List ℕ) → are_bytes s ≡ true → 2 * n ≤ length s → stop_bytes (stops_in n s) ≡ take (2 * n) s
unfolding stops_in stop_bytes
stops-written zero s bytes h = refl
stops-written (suc n) s bytes h =
    let x : List ℕ = take 2 (drop (2 * n) s) in
    let l : length x ≡ 2 = length-take-le 2 (drop (2 * n) s) (rw length-drop (omega arith)) in
    let e : 2 * suc n ≡ 2 * n + 2 = omega arith in
    let w : bytes_of 2 (number_of x) ≡ x = ap (λ (i : ℕ). bytes_of i (number_of x)) (sym l) ∙ bytes_of-number x (are_bytes-take 2 _ (are_bytes-drop (2 * n) s bytes)) in
    ap stop_bytes (tabulate-suc n (λ p. number_of (take 2 (drop (2 * p) s))))
    ∙ stop_bytes-snoc (tabulate n (λ p. number_of (take 2 (drop (2 * p) s)))) (number_of x)
    ∙ rw (e, take-add (2 * n) 2 s, w) (ap (λ (y : List ℕ). y ++ x) (stops-written n s bytes (omega arith)))

-- as many stops as were asked for
pub length-stops_in : (n : ℕ) (s : List ℕ) → length (stops_in n s) ≡ n
unfolding stops_in
length-stops_in n s = length-tabulate n _

-- ---- parts of bytes

-- a part of a part that does not reach its end
pub part-part : (a b c : ℕ) (s : List ℕ) → b + a ≤ c → take a (drop b (take c s)) ≡ take a (drop b s)
part-part a b c s h = ext_get_or 0 (take a (drop b (take c s))) (take a (drop b s)) long each
  where
    long : length (take a (drop b (take c s))) ≡ length (take a (drop b s))
    long = rw (length-take, length-take, length-drop, length-drop, length-take) (omega arith)

    each : (i : ℕ) → i < length (take a (drop b (take c s))) → get_or (take a (drop b (take c s))) i 0 ≡ get_or (take a (drop b s)) i 0
    each i l =
        let m : i < a = omega (arith, rw length-take at l) in
        rw (get_or-take a (drop b (take c s)) i 0 m, get_or-take a (drop b s) i 0 m, get_or-drop, get_or-drop) (get_or-take c s (b + i) 0 (omega arith))

-- stops of a part that holds them all
pub stops-part : (n b c : ℕ) (s : List ℕ) → b + 2 * n ≤ c → stops_in n (drop b (take c s)) ≡ stops_in n (drop b s)
unfolding stops_in
stops-part n b c s h =
    tabulate-cong n (λ p. number_of (take 2 (drop (2 * p) (drop b (take c s))))) (λ p. number_of (take 2 (drop (2 * p) (drop b s)))) each
  where
    each : (p : ℕ) → p < n → number_of (take 2 (drop (2 * p) (drop b (take c s)))) ≡ number_of (take 2 (drop (2 * p) (drop b s)))
    each p l = rw (drop-drop (2 * p) b (take c s), drop-drop (2 * p) b s) (ap number_of (part-part 2 (b + 2 * p) c s (omega arith)))
