-- The sent order undone: 13 runs of 15 bits, turned, and cut anew.
-- Assumes nothing.
use Rattle.std.specs.Prelude.{List, [], ◌∷◌, ℕ, ◌+◌, ◌*◌, ◌%◌, ◌^◌, get_or}
use Rattle.std.specs.Int.Bits.{bit_xor}
use Rattle.foundation.specs.Bits.{octet_bit, value_of}
use Rattle.polynomials.specs.Words.{up}
use Rattle.interleaver.specs.Lanes.{part, joint}
use Rattle.interleaver.specs.declared.lanes.Square.{Square}
use Rattle.interleaver.specs.declared.reading.Words.{Words}

-- 25 octets as 64, 64, 64 and 8 bits
unfoldable pub field_words : List ℕ → Words
field_words f = record { a = value_of (octet_bit f) 0 64; b = value_of (octet_bit f) 64 64; c = value_of (octet_bit f) 128 64; d = get_or f 24 0 }

-- four runs in a word
abbrev pub lanes : ℕ → ℕ → ℕ → ℕ → ℕ
lanes p q r s = bit_xor (bit_xor (bit_xor (up 48 p) (up 32 q)) (up 16 r)) s

-- the runs of a field of 64, 64, 64 and 8 bits, the last first
unfoldable pub runs_of : (a b c d : ℕ) → Square
runs_of a b c d = record {
  a = lanes (joint 15 4 4 c d) (part 15 11 c) (part 15 26 c) (part 15 41 c);
  b = lanes (joint 15 8 56 b c) (part 15 7 b) (part 15 22 b) (part 15 37 b);
  c = lanes (joint 15 12 52 a b) (part 15 3 a) (part 15 18 a) (part 15 33 a);
  d = up 48 (part 15 48 a);
}

-- thirteen bits of each lane
unfoldable pub grouped : ℕ → ℕ
grouped y = bit_xor (bit_xor (bit_xor (up 39 (part 13 51 y)) (up 26 (part 13 35 y))) (up 13 (part 13 19 y))) (part 13 3 y)

-- the rows of a plain order of 39, 52, 52 and 52 bits
unfoldable pub cut_words : (w x y z : ℕ) → List ℕ
cut_words w x y z =
    part 15 24 w ∷ part 15 9 w ∷ joint 15 6 46 w x ∷ part 15 31 x ∷ part 15 16 x ∷ part 15 1 x ∷ joint 15 14 38 x y ∷ part 15 23 y ∷ part 15 8 y
    ∷ joint 15 7 45 y z ∷ part 15 30 z ∷ part 15 15 z ∷ z % 2 ^ 15 ∷ []

-- row r of a field: its columns stand at positions 1 + 15 r + c of the plain order, and position i of that is sent position 181 i mod 196
unfoldable pub received_row : List ℕ → ℕ → ℕ
received_row f r = value_of (λ c. octet_bit f (181 * (1 + 15 * r + c) % 196)) 0 15
