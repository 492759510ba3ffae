-- The rows that are read: the words keep exclusive or, and agree with the sent order at each single bit.
-- Assumes nothing.
use mathlib.Core.Path.{◌≡◌, refl, sym, ap, ap₂, ◌∙◌}
use mathlib.Core.List.{List}
use Prim.Native.Nat.{ℕ, ◌+◌, ◌*◌, ◌-◌, ◌/◌, ◌%◌, ◌^◌, ◌<◌}
use native.Mathlib.Nat.{mod-lt, zero-lt-suc, div-one}
use native.Mathlib.Omega.{arith}
use lib.Bits.{bit_xor}
use lib.ListN.{get_or}
use Rattle.foundation.specs.Bits.{bit, octet_bit, value_of, tabulate}
use Rattle.foundation.proofs.Xor.{bit-lt}
use Rattle.foundation.proofs.Runs.{octet_bit_bits, value_lt, value_ext, value_part, digits-whole, tabulated, octet_at}
use Rattle.polynomials.specs.Words.{up}
use Rattle.polynomials.proofs.Linear.{Linear, linear-field, linear-mod, linear_value, linear-up, linear_then, linear-xor, linear-same}
use Rattle.interleaver.specs.Lanes.{part, joint, swapped, crossed_high, crossed_low, within, turned_by, turned_square}
use Rattle.interleaver.specs.Reading.{field_words, lanes, runs_of, grouped, cut_words, received_row}
use Rattle.interleaver.specs.declared.lanes.Square.{Square}
use Rattle.interleaver.specs.declared.reading.Words.{Words}
use Rattle.interleaver.proofs.Turning.{linear-part, linear-joint, with_up, LinearSquare, linear_turned}
use Rattle.interleaver.proofs.Packing.{packed, Rows, packed_row, linear_row, linear_no_rows}

-- ---- the four words of a number of 200 bits

word_a : ℕ → ℕ
word_a n = n / 2 ^ 136 % 2 ^ 64

word_b : ℕ → ℕ
word_b n = n / 2 ^ 72 % 2 ^ 64

word_c : ℕ → ℕ
word_c n = n / 2 ^ 8 % 2 ^ 64

word_d : ℕ → ℕ
word_d n = n % 2 ^ 8

-- four runs, of which the first goes on in the next word
module _ (p q : ℕ → ℕ) (hp : Linear p) (hq : Linear q) where
  linear-lanes : (k s i j l : ℕ) → Linear (λ n. lanes (joint 15 k s (p n) (q n)) (part 15 i (p n)) (part 15 j (p n)) (part 15 l (p n)))
  linear-lanes k s i j l =
      linear-xor (λ n. bit_xor (bit_xor (up 48 (joint 15 k s (p n) (q n))) (up 32 (part 15 i (p n)))) (up 16 (part 15 j (p n)))) (λ n. part 15 l (p n))
      (with_up (λ n. bit_xor (up 48 (joint 15 k s (p n) (q n))) (up 32 (part 15 i (p n)))) (λ n. part 15 j (p n))
      (with_up (λ n. up 48 (joint 15 k s (p n) (q n))) (λ n. part 15 i (p n))
      (linear_then (λ n. joint 15 k s (p n) (q n)) (up 48) (linear-joint p q hp hq 15 k s) (linear-up 48)) (linear-part p q hp hq 15 i) 32)
      (linear-part p q hp hq 15 j) 16)
      (linear-part p q hp hq 15 l)

field_square : ℕ → Square
field_square n = runs_of (word_a n) (word_b n) (word_c n) (word_d n)

linear-field_square : LinearSquare field_square
unfolding field_square runs_of word_a word_b word_c word_d
linear-field_square =
    let a = linear-field 136 64 in
    let b = linear-field 72 64 in
    let c = linear-field 8 64 in
    record {
      a = linear-lanes word_c word_d c (linear-mod 8) 4 4 11 26 41;
      b = linear-lanes word_b word_c b c 8 56 7 22 37;
      c = linear-lanes word_a word_b a b 12 52 3 18 33;
      d = linear_then (λ n. part 15 48 (word_a n)) (up 48) (linear-part word_a word_b a b 15 48) (linear-up 48);
    }

linear-grouped : Linear grouped
unfolding grouped
linear-grouped =
    linear-xor (λ y. bit_xor (bit_xor (up 39 (part 13 51 y)) (up 26 (part 13 35 y))) (up 13 (part 13 19 y))) (part 13 3)
    (with_up (λ y. bit_xor (up 39 (part 13 51 y)) (up 26 (part 13 35 y))) (part 13 19)
    (with_up (λ y. up 39 (part 13 51 y)) (part 13 35) (linear_then (part 13 51) (up 39) (linear-field 51 13) (linear-up 39)) (linear-field 35 13) 26) (linear-field 19 13) 13)
    (linear-field 3 13)

-- ---- cut into rows

abbrev pub cut_square : Square → List ℕ
cut_square y = cut_words (grouped y.a) (grouped y.b) (grouped y.c) (grouped y.d)

module _ (w x y z : ℕ → ℕ) (hw : Linear w) (hx : Linear x) (hy : Linear y) (hz : Linear z) where
  linear-cut : Linear (λ n. packed (cut_words (w n) (x n) (y n) (z n)))
  unfolding cut_words
  linear-cut =
      linear_row _ _ 12 (λ n. refl) (linear-part w x hw hx 15 24)
      (linear_row _ _ 11 (λ n. refl) (linear-part w x hw hx 15 9)
      (linear_row _ _ 10 (λ n. refl) (linear-joint w x hw hx 15 6 46)
      (linear_row _ _ 9 (λ n. refl) (linear-part x y hx hy 15 31)
      (linear_row _ _ 8 (λ n. refl) (linear-part x y hx hy 15 16)
      (linear_row _ _ 7 (λ n. refl) (linear-part x y hx hy 15 1)
      (linear_row _ _ 6 (λ n. refl) (linear-joint x y hx hy 15 14 38)
      (linear_row _ _ 5 (λ n. refl) (linear-part y z hy hz 15 23)
      (linear_row _ _ 4 (λ n. refl) (linear-part y z hy hz 15 8)
      (linear_row _ _ 3 (λ n. refl) (linear-joint y z hy hz 15 7 45)
      (linear_row _ _ 2 (λ n. refl) (linear-part z z hz hz 15 30)
      (linear_row _ _ 1 (λ n. refl) (linear-part z z hz hz 15 15)
      (linear_row _ _ 0 (λ n. refl) (linear_then z (λ i. i % 2 ^ 15) hz (linear-mod 15)) linear_no_rows))))))))))))

read : ℕ → ℕ
read n = packed (cut_square (turned_square (field_square n)))

-- bit i of the plain order without its position 0
plain_bit : ℕ → ℕ → ℕ
plain_bit n i = bit (199 - 181 * (1 + i) % 196) n

plain_number : ℕ → ℕ
plain_number n = value_of (plain_bit n) 0 195

linear-read : Linear read
unfolding read
linear-read =
    let h = linear_turned field_square linear-field_square in
    linear-cut (λ n. grouped (turned_square (field_square n)).a) (λ n. grouped (turned_square (field_square n)).b) (λ n. grouped (turned_square (field_square n)).c) (λ n. grouped (turned_square (field_square n)).d)
    (linear_then (λ n. (turned_square (field_square n)).a) grouped h.a linear-grouped) (linear_then (λ n. (turned_square (field_square n)).b) grouped h.b linear-grouped)
    (linear_then (λ n. (turned_square (field_square n)).c) grouped h.c linear-grouped) (linear_then (λ n. (turned_square (field_square n)).d) grouped h.d linear-grouped)

linear-plain : Linear plain_number
unfolding plain_number plain_bit
linear-plain = linear_value (λ i. 199 - 181 * (1 + i) % 196) 0 195

read_plain : (n : ℕ) → n < 2 ^ 200 → read n ≡ plain_number n
unfolding read plain_number plain_bit field_square runs_of word_a word_b word_c word_d turned_square turned_by within swapped crossed_high crossed_low grouped cut_words packed value_of
read_plain = linear-same read plain_number linear-read linear-plain 200 tt

-- ---- the rows of a field

rows_cut : (w x y z : ℕ) → Rows (cut_words w x y z)
unfolding cut_words
rows_cut w x y z =
    let low : (v : ℕ) → v % 2 ^ 15 < 2 ^ 15 = λ v. mod-lt v (zero-lt-suc 32767) in
    (low _, (low _, (low _, (low _, (low _, (low _, (low _, (low _, (low _, (low _, (low _, (low _, (low _, tt)))))))))))))

module _ (f : List ℕ) where
  u : ℕ → ℕ
  u = octet_bit f

  whole : ℕ
  whole = value_of u 0 200

  whole-lt : whole < 2 ^ 200
  unfolding whole u
  whole-lt = value_lt u (octet_bit_bits f) 0 200

  -- row r of the plain order is the row of the field
  row_received : (r : ℕ) → r < 13 → plain_number whole / 2 ^ (15 * (12 - r)) % 2 ^ 15 ≡ received_row f r
  unfolding plain_number plain_bit received_row whole u
  row_received r h =
      ap (λ (k : ℕ). value_of (plain_bit whole) 0 k / 2 ^ (15 * (12 - r)) % 2 ^ 15) all
      ∙ value_part (plain_bit whole) (λ i. bit-lt (199 - 181 * (1 + i) % 196) whole) 0 (15 * r) 15 (15 * (12 - r))
      ∙ value_ext (plain_bit whole) (λ c. octet_bit f (181 * (1 + 15 * r + c) % 196)) (0 + 15 * r) 0 15 bits
    where
      all : 195 ≡ 15 * r + 15 + 15 * (12 - r)
      all = omega arith

      bits : (c : ℕ) → c < 15 → plain_bit whole (0 + 15 * r + c) ≡ octet_bit f (181 * (1 + 15 * r + (0 + c)) % 196)
      bits c l =
          ap (λ (i : ℕ). bit (199 - 181 * i % 196) whole) place
          ∙ digits-whole 200 u (octet_bit_bits f) (181 * (1 + 15 * r + (0 + c)) % 196) (omega (arith, mod-lt (181 * (1 + 15 * r + (0 + c))) (zero-lt-suc 195)))
        where
          place : 1 + (0 + 15 * r + c) ≡ 1 + 15 * r + (0 + c)
          place = omega arith

  square : (a b c d : ℕ) → a ≡ value_of u 0 64 → b ≡ value_of u 64 64 → c ≡ value_of u 128 64 → d ≡ value_of u 192 8 → runs_of a b c d ≡ field_square whole
  unfolding field_square word_a word_b word_c word_d whole u
  square a b c d ea eb ec ed =
      let bits = octet_bit_bits f in
      ap₂ (λ (x y : ℕ). runs_of x y c d) (ea ∙ sym (value_part u bits 0 0 64 136)) (eb ∙ sym (value_part u bits 0 64 64 72))
      ∙ ap₂ (λ (x y : ℕ). runs_of (word_a whole) (word_b whole) x y) (ec ∙ sym (value_part u bits 0 128 64 8)) (ed ∙ sym (value_part u bits 0 192 8 0) ∙ ap (λ (x : ℕ). x % 2 ^ 8) (div-one whole))

  pub rows-read : get_or f 24 0 < 256 → (w : Words) → w ≡ field_words f → cut_square (turned_square (runs_of w.a w.b w.c w.d)) ≡ tabulate 13 (received_row f)
  unfolding read cut_words field_words u
  rows-read o w e =
      ap (λ (v : Words). cut_square (turned_square (runs_of v.a v.b v.c v.d))) e
      ∙ ap (λ (x : Square). cut_square (turned_square x)) (square (value_of u 0 64) (value_of u 64 64) (value_of u 128 64) (get_or f 24 0) refl refl refl (sym (octet_at f 24 o)))
      ∙ tabulated 13 (received_row f) rows refl (λ r h. sym (packed_row rows small r h) ∙ ap (λ (x : ℕ). x / 2 ^ (15 * (12 - r)) % 2 ^ 15) (read_plain whole whole-lt) ∙ row_received r h)
    where
      y : Square
      y = turned_square (field_square whole)

      rows : List ℕ
      rows = cut_square y

      small : Rows rows
      small = rows_cut (grouped y.a) (grouped y.b) (grouped y.c) (grouped y.d)
