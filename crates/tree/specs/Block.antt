-- Lemmas 3 and 5 of document 000 in document 01's words: the stops that may come before a stop are an aligned block.
use Rattle.std.specs.Prelude.{ℕ, ◌*◌, ◌/◌, ◌^◌}
use Rattle.std.specs.Int.Bits.{bit_xor}

-- 'only those with the exclusive or in r to 2r−1 may come before': the first of the aligned block of 2^t stops beside the one that i is in
unfoldable pub beside_of : ℕ → ℕ → ℕ
beside_of i t = bit_xor (i / 2 ^ t) 1 * 2 ^ t
