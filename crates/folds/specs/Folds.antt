-- Folds of registers of 64 bits: what stands above a register comes back at the lower powers of a multiple of the generator.
-- Assumes nothing.
use Rattle.std.specs.Prelude.{List, [], ◌∷◌, ℕ, ◌+◌, ◌*◌, ◌/◌, ◌%◌, ◌^◌, get_or}
use Rattle.std.specs.Int.Bits.{bit_xor}
use Rattle.foundation.specs.Bits.{tabulate, zeros}
use Rattle.polynomials.specs.Remainder.{powers, divide}
use Rattle.polynomials.specs.Words.{up}

-- the generators, and the fourth power of the header's
abbrev pub header_generator : ℕ
header_generator = powers (16 ∷ 12 ∷ 5 ∷ 0 ∷ [])

abbrev pub header_fourth : ℕ
header_fourth = powers (64 ∷ 48 ∷ 20 ∷ 0 ∷ [])

abbrev pub block_generator : ℕ
block_generator = powers (9 ∷ 6 ∷ 4 ∷ 3 ∷ 0 ∷ [])

abbrev pub message_generator : ℕ
message_generator = 2 ^ 32 + 0x04C11DB7

-- with what goes out again
abbrev pub spread : ℕ → ℕ → ℕ → ℕ
spread i j t = bit_xor (bit_xor t (t / 2 ^ i)) (t / 2 ^ j)

abbrev pub again : ℕ → ℕ → ℕ
again i t = bit_xor t (t / 2 ^ i)

-- ---- the block's, by x^64 + x^52 + x^44 + x^40 + x^28 and by its powers of four, two and one

abbrev pub block_down : ℕ → ℕ → ℕ
block_down b u = bit_xor (bit_xor (bit_xor (bit_xor b (up 52 u)) (up 44 u)) (up 40 u)) (up 28 u)

unfoldable pub block_entered : ℕ → ℕ → ℕ
block_entered a b = block_down b (spread 12 20 a)

abbrev pub block_folded : ℕ → ℕ → ℕ → ℕ
block_folded k x u = bit_xor (bit_xor (bit_xor (bit_xor x (up (6 * k) u)) (up (4 * k) u)) (up (3 * k) u)) u % 2 ^ (9 * k)

unfoldable pub block_halved : ℕ → ℕ → ℕ
block_halved k x = block_folded k x (spread (3 * k) (5 * k) (x / 2 ^ (9 * k)))

-- ---- the header's, by its powers of four, two and one

abbrev pub header_down : ℕ → ℕ
header_down u = bit_xor (bit_xor (up 48 u) (up 20 u)) u

unfoldable pub header_times : ℕ → ℕ
header_times r = header_down (again 32 (spread 16 44 r))

abbrev pub header_folded : ℕ → ℕ → ℕ → ℕ
header_folded k x u = bit_xor (bit_xor (bit_xor x (up (12 * k) u)) (up (5 * k) u)) u % 2 ^ (16 * k)

unfoldable pub header_halved : ℕ → ℕ → ℕ
header_halved k x = header_folded k x (again (8 * k) (spread (4 * k) (11 * k) (x / 2 ^ (16 * k))))

-- ---- the message's: entry 16 k + v is v x^(32 + 4 k)

unfoldable pub message_table : List ℕ
message_table = tabulate 128 (λ i. divide 32 message_generator (i % 16) zeros (32 + 4 * (i / 16)))

-- the entries of a table for each four bits of x, added
unfoldable pub looked : List ℕ → ℕ → ℕ
looked t x =
    bit_xor (bit_xor (bit_xor (bit_xor (bit_xor (bit_xor (bit_xor (get_or t (x % 16) 0) (get_or t (16 + x / 2 ^ 4 % 16) 0)) (get_or t (32 + x / 2 ^ 8 % 16) 0)) (get_or t (48 + x / 2 ^ 12 % 16) 0))
    (get_or t (64 + x / 2 ^ 16 % 16) 0)) (get_or t (80 + x / 2 ^ 20 % 16) 0)) (get_or t (96 + x / 2 ^ 24 % 16) 0)) (get_or t (112 + x / 2 ^ 28 % 16) 0)
