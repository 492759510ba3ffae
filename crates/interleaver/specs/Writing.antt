-- The sent order made: 13 rows of 15 bits in lanes of 13, turned, and put one behind the other.
-- Assumes nothing.
use Rattle.std.specs.Prelude.{List, [], ◌∷◌, ℕ, zero, suc, ◌*◌, ◌-◌, ◌/◌, ◌%◌, ◌^◌, get_or}
use Rattle.std.specs.Int.Bits.{bit_xor}
use Rattle.foundation.specs.Bits.{digits, zeros, followed, tabulate}
use Rattle.polynomials.specs.Words.{up}
use Rattle.interleaver.specs.Lanes.{part}
use Rattle.interleaver.specs.declared.lanes.Square.{Square}

-- the plain order of 13 rows: 0 at position 0, and column c of row r at position 1 + 15 r + c
unfoldable pub plain_of : List ℕ → ℕ → ℕ
plain_of m zero = 0
plain_of m (suc i) = digits 15 (get_or m (i / 15) 0) (i % 15)

-- its bits in the sent order, in which position p has plain position 13 p mod 196, and zeros behind them
unfoldable pub sent_run : List ℕ → ℕ → ℕ
sent_run m = followed 196 (λ p. plain_of m (13 * p % 196)) zeros

-- ---- by words

unfoldable pub spread_word : ℕ → ℕ
spread_word w = bit_xor (bit_xor (bit_xor (up 51 (part 13 39 w)) (up 35 (part 13 26 w))) (up 19 (part 13 13 w))) (up 3 (w % 2 ^ 13))

-- of 13 rows
abbrev pub at : List ℕ → ℕ → ℕ
at rows k = get_or rows k 0

unfoldable pub groups_of : List ℕ → Square
groups_of m = record {
  a = spread_word (bit_xor (bit_xor (up 24 (at m 0)) (up 9 (at m 1))) (at m 2 / 2 ^ 6));
  b = spread_word (bit_xor (bit_xor (bit_xor (bit_xor (up 46 (at m 2)) (up 31 (at m 3))) (up 16 (at m 4))) (up 1 (at m 5))) (at m 6 / 2 ^ 14));
  c = spread_word (bit_xor (bit_xor (bit_xor (up 38 (at m 6)) (up 23 (at m 7))) (up 8 (at m 8))) (at m 9 / 2 ^ 7));
  d = spread_word (bit_xor (bit_xor (bit_xor (up 45 (at m 9)) (up 30 (at m 10))) (up 15 (at m 11))) (at m 12));
}

-- the 15 bits of each row: higher ones do not count
unfoldable pub fifteen : List ℕ → List ℕ
fifteen m = tabulate 13 (λ k. get_or m k 0 % 2 ^ 15)

-- 64 bits of the field, in which the first run of h ends at bit s
unfoldable pub five_runs : ℕ → ℕ → ℕ → ℕ
five_runs s h x =
    bit_xor (bit_xor (bit_xor (bit_xor (up s (h / 2 ^ 48)) (up (s - 15) (x % 2 ^ 16))) (up (s - 30) (part 16 16 x))) (up (s - 45) (part 16 32 x))) (x / 2 ^ (108 - s))

-- the 25 octets of four words: of the last word the highest alone
unfoldable pub field_octets : (a b c d : ℕ) → List ℕ
field_octets a b c d = tabulate 25 (λ j. get_or (a ∷ b ∷ c ∷ d ∷ []) (j / 8) 0 / 2 ^ (56 - 8 * (j % 8)) % 2 ^ 8)
