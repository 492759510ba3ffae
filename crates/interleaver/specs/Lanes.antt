-- A square of 16 by 16 bits in four words, a row in each lane of 16 bits, and the steps that turn it.
-- Assumes nothing.
use Rattle.std.specs.Prelude.{ℕ, ◌/◌, ◌%◌, ◌^◌}
use Rattle.std.specs.Int.Bits.{bit_xor, bit_and}
use Rattle.polynomials.specs.Words.{up}
use Rattle.interleaver.specs.declared.lanes.Square.{Square}

-- n bits of a word from bit s on; and n bits that stand in two words, those of the second from its bit s on, k of them or more
abbrev pub part : ℕ → ℕ → ℕ → ℕ
part n s x = x / 2 ^ s % 2 ^ n

abbrev pub joint : ℕ → ℕ → ℕ → ℕ → ℕ → ℕ
joint n k s x y = bit_xor (up k x) (y / 2 ^ s) % 2 ^ n

-- the bits of a mask exchanged with those s places higher
abbrev pub exchanged_by : ℕ → ℕ → ℕ → ℕ
exchanged_by s x t = bit_xor (bit_xor x t) (up s t)

unfoldable pub swapped : ℕ → ℕ → ℕ → ℕ
swapped s mask x = exchanged_by s x (bit_and (bit_xor (x / 2 ^ s) x) mask)

-- and between two words
abbrev pub between : ℕ → ℕ → ℕ → ℕ → ℕ
between s mask p q = bit_and (bit_xor (up s p) q) mask

unfoldable pub crossed_high : ℕ → ℕ → ℕ → ℕ → ℕ
crossed_high s mask p q = bit_xor p (between s mask p q / 2 ^ s)

unfoldable pub crossed_low : ℕ → ℕ → ℕ → ℕ → ℕ
crossed_low s mask p q = bit_xor q (between s mask p q)

-- where steps of 1, 2, 4 and 8 rows exchange bits
abbrev pub ones : ℕ
ones = 0x0000AAAA0000AAAA

abbrev pub twos : ℕ
twos = 0x00000000CCCCCCCC

abbrev pub fours : ℕ
fours = 0xF0F0F0F0F0F0F0F0

abbrev pub eights : ℕ
eights = 0xFF00FF00FF00FF00

-- the steps of 1 and 2
unfoldable pub within : ℕ → ℕ
within x = swapped 30 twos (swapped 15 ones x)

-- and then those of 4 and 8
unfoldable pub turned_by : (p q r s : ℕ) → Square
turned_by p q r s = record {
  a = crossed_high 8 eights (crossed_high 4 fours p q) (crossed_high 4 fours r s);
  b = crossed_high 8 eights (crossed_low 4 fours p q) (crossed_low 4 fours r s);
  c = crossed_low 8 eights (crossed_high 4 fours p q) (crossed_high 4 fours r s);
  d = crossed_low 8 eights (crossed_low 4 fours p q) (crossed_low 4 fours r s);
}

unfoldable pub turned_square : Square → Square
turned_square x = turned_by (within x.a) (within x.b) (within x.c) (within x.d)
