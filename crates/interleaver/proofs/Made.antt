-- The octets that are written: the words keep exclusive or, and agree with the sent order at each single bit.
-- Assumes nothing.
use mathlib.Core.Path.{◌≡◌, refl, sym, ap, ap₂, ◌∙◌}
use mathlib.Core.List.{List, [], ◌∷◌}
use Prim.Native.Nat.{ℕ, zero, suc, ◌+◌, ◌*◌, ◌-◌, ◌/◌, ◌%◌, ◌^◌, ◌<◌}
use native.Mathlib.Nat.{mod-lt, zero-lt-suc, div-eq_of_lt, add-zero}
use native.Mathlib.Omega.{arith}
use lib.Bits.{bit_xor, xor_shifted}
use lib.Pow.{high, low}
use lib.ListN.{get_or}
use Rattle.foundation.specs.Bits.{Bits, bit, digits, zeros, value_of, tabulate, octets}
use Rattle.foundation.proofs.Runs.{digits_bits, zeros_bits, followed_bits, value_lt, value_ext, value_append, value_part, value_followed, digits-whole, tabulate_ext}
use Rattle.foundation.proofs.RunParts.{value_last_digits}
use Rattle.foundation.proofs.OctetWords.{words_octets}
use Rattle.polynomials.specs.Words.{up}
use Rattle.polynomials.proofs.Linear.{Linear, linear-shr, linear-shl, linear-mod, linear-field, linear_value, linear-up, linear_then, linear-xor, linear-same}
use Rattle.interleaver.specs.Lanes.{part, swapped, crossed_high, crossed_low, within, turned_by, turned_square}
use Rattle.interleaver.specs.Writing.{plain_of, sent_run, spread_word, groups_of, fifteen, five_runs, field_octets}
use Rattle.interleaver.specs.declared.lanes.Square.{Square}
use Rattle.interleaver.proofs.Turning.{linear-part, with_up, LinearSquare, linear_turned}

-- row k of a number of 195 bits
row_of : ℕ → ℕ → ℕ
row_of n k = n / 2 ^ (15 * (12 - k)) % 2 ^ 15

linear_row_of : (k : ℕ) → Linear (λ n. row_of n k)
unfolding row_of
linear_row_of k = linear-field (15 * (12 - k)) 15

linear-spread : Linear spread_word
unfolding spread_word
linear-spread =
    with_up (λ w. bit_xor (bit_xor (up 51 (part 13 39 w)) (up 35 (part 13 26 w))) (up 19 (part 13 13 w))) (λ w. w % 2 ^ 13)
    (with_up (λ w. bit_xor (up 51 (part 13 39 w)) (up 35 (part 13 26 w))) (part 13 13)
    (with_up (λ w. up 51 (part 13 39 w)) (part 13 26) (linear_then (part 13 39) (up 51) (linear-field 39 13) (linear-up 51)) (linear-field 26 13) 35) (linear-field 13 13) 19)
    (linear-mod 13) 3

abbrev row_up : ℕ → ℕ → ℕ → ℕ
row_up k s n = up s (row_of n k)

row_up_lem : (k s : ℕ) → Linear (row_up k s)
row_up_lem k s = linear_then (λ n. row_of n k) (up s) (linear_row_of k) (linear-up s)

-- a row more in a word
abbrev more : (ℕ → ℕ) → ℕ → ℕ → ℕ → ℕ
more f k s n = bit_xor (f n) (row_up k s n)

module _ (f : ℕ → ℕ) (h : Linear f) where
  and_row : (k s : ℕ) → Linear (more f k s)
  and_row k s = with_up f (λ n. row_of n k) h (linear_row_of k) s

  and_start : (k s : ℕ) → Linear (λ n. spread_word (bit_xor (f n) (row_of n k / 2 ^ s)))
  and_start k s =
      linear_then (λ n. bit_xor (f n) (row_of n k / 2 ^ s)) spread_word
      (linear-xor f (λ n. row_of n k / 2 ^ s) h (linear_then (λ n. row_of n k) (λ x. x / 2 ^ s) (linear_row_of k) (linear-shr s))) linear-spread

  and_last : (k : ℕ) → Linear (λ n. spread_word (bit_xor (f n) (row_of n k)))
  and_last k = linear_then (λ n. bit_xor (f n) (row_of n k)) spread_word (linear-xor f (λ n. row_of n k) h (linear_row_of k)) linear-spread

plain_square : ℕ → Square
plain_square n = groups_of (tabulate 13 (row_of n))

linear-plain_square : LinearSquare plain_square
unfolding plain_square groups_of
linear-plain_square =
    let b3 = and_row (row_up 2 46) (row_up_lem 2 46) 3 31 in
    let b4 = and_row (more (row_up 2 46) 3 31) b3 4 16 in
    let b5 = and_row (more (more (row_up 2 46) 3 31) 4 16) b4 5 1 in
    let c7 = and_row (row_up 6 38) (row_up_lem 6 38) 7 23 in
    let d10 = and_row (row_up 9 45) (row_up_lem 9 45) 10 30 in
    record {
      a = and_start (more (row_up 0 24) 1 9) (and_row (row_up 0 24) (row_up_lem 0 24) 1 9) 2 6;
      b = and_start (more (more (more (row_up 2 46) 3 31) 4 16) 5 1) b5 6 14;
      c = and_start (more (more (row_up 6 38) 7 23) 8 8) (and_row (more (row_up 6 38) 7 23) c7 8 8) 9 7;
      d = and_last (more (more (row_up 9 45) 10 30) 11 15) (and_row (more (row_up 9 45) 10 30) d10 11 15) 12;
    }

module _ (h x : ℕ → ℕ) (hh : Linear h) (hx : Linear x) where
  linear-five : (s : ℕ) → Linear (λ n. five_runs s (h n) (x n))
  unfolding five_runs
  linear-five s =
      linear-xor (λ n. bit_xor (bit_xor (bit_xor (up s (h n / 2 ^ 48)) (up (s - 15) (x n % 2 ^ 16))) (up (s - 30) (part 16 16 (x n)))) (up (s - 45) (part 16 32 (x n)))) (λ n. x n / 2 ^ (108 - s))
      (with_up (λ n. bit_xor (bit_xor (up s (h n / 2 ^ 48)) (up (s - 15) (x n % 2 ^ 16))) (up (s - 30) (part 16 16 (x n)))) (λ n. part 16 32 (x n))
      (with_up (λ n. bit_xor (up s (h n / 2 ^ 48)) (up (s - 15) (x n % 2 ^ 16))) (λ n. part 16 16 (x n))
      (with_up (λ n. up s (h n / 2 ^ 48)) (λ n. x n % 2 ^ 16)
      (linear_then (λ n. h n / 2 ^ 48) (up s) (linear_then h (λ y. y / 2 ^ 48) hh (linear-shr 48)) (linear-up s))
      (linear_then x (λ y. y % 2 ^ 16) hx (linear-mod 16)) (s - 15))
      (linear-part x h hx hh 16 16) (s - 30))
      (linear-part x h hx hh 16 32) (s - 45))
      (linear_then x (λ y. y / 2 ^ (108 - s)) hx (linear-shr (108 - s)))

-- ---- the four words of a field in one number

abbrev four : (a b c d : ℕ) → ℕ
four a b c d = bit_xor (bit_xor (bit_xor (a * 2 ^ 64) b * 2 ^ 64) c * 2 ^ 64) d

abbrev words_of : Square → ℕ
words_of x = four (five_runs 48 x.d x.c) (five_runs 52 x.c x.b) (five_runs 56 x.b x.a) (up 60 (x.a / 2 ^ 48))

module _ (f g : ℕ → ℕ) (hf : Linear f) (hg : Linear g) where
  linear-behind : Linear (λ n. bit_xor (f n * 2 ^ 64) (g n))
  linear-behind = linear-xor (λ n. f n * 2 ^ 64) g (linear_then f (λ x. x * 2 ^ 64) hf (linear-shl 64)) hg

written : ℕ → ℕ
written n = words_of (turned_square (plain_square n))

linear-written : Linear written
unfolding written
linear-written =
    let h = linear_turned plain_square linear-plain_square in
    let a = linear-five (λ n. (turned n).d) (λ n. (turned n).c) h.d h.c 48 in
    let b = linear-five (λ n. (turned n).c) (λ n. (turned n).b) h.c h.b 52 in
    let c = linear-five (λ n. (turned n).b) (λ n. (turned n).a) h.b h.a 56 in
    let d = linear_then (λ n. (turned n).a / 2 ^ 48) (up 60) (linear_then (λ n. (turned n).a) (λ y. y / 2 ^ 48) h.a (linear-shr 48)) (linear-up 60) in
    linear-behind (λ n. bit_xor (bit_xor (first n * 2 ^ 64) (second n) * 2 ^ 64) (third n)) fourth
    (linear-behind (λ n. bit_xor (first n * 2 ^ 64) (second n)) third (linear-behind first second a b) c) d
  where
    turned : ℕ → Square
    turned n = turned_square (plain_square n)

    first : ℕ → ℕ
    first n = five_runs 48 (turned n).d (turned n).c

    second : ℕ → ℕ
    second n = five_runs 52 (turned n).c (turned n).b

    third : ℕ → ℕ
    third n = five_runs 56 (turned n).b (turned n).a

    fourth : ℕ → ℕ
    fourth n = up 60 ((turned n).a / 2 ^ 48)

-- sent position p of a plain order without its position 0: that is 0, since a number of 195 bits has no digit 195
sent_digit : ℕ → ℕ → ℕ
sent_digit n p = bit (195 - 13 * p % 196) n

sent_number : ℕ → ℕ
sent_number n = value_of (sent_digit n) 0 196 * 2 ^ 60

linear-sent : Linear sent_number
unfolding sent_number sent_digit
linear-sent = linear_then (λ n. value_of (λ p. bit (195 - 13 * p % 196) n) 0 196) (λ x. x * 2 ^ 60) (linear_value (λ p. 195 - 13 * p % 196) 0 196) (linear-shl 60)

written-sent : (n : ℕ) → n < 2 ^ 195 → written n ≡ sent_number n
unfolding written sent_number sent_digit plain_square groups_of row_of spread_word turned_square turned_by within swapped crossed_high crossed_low five_runs value_of
written-sent = linear-same written sent_number linear-written linear-sent 195 tt

-- ---- the octets of 13 rows

-- a number and fewer than 64 bits behind it are known by their sum
split : (x y x' y' : ℕ) → y < 2 ^ 64 → y' < 2 ^ 64 → bit_xor (x * 2 ^ 64) y ≡ x' * 2 ^ 64 + y' → (x ≡ x') × (y ≡ y')
split x y x' y' l l' e =
    let is = sym (xor_shifted x 64 y l) ∙ e in
    (sym (high x 64 l) ∙ ap (λ (z : ℕ). z / 2 ^ 64) is ∙ high x' 64 l', sym (low x 64 l) ∙ ap (λ (z : ℕ). z % 2 ^ 64) is ∙ low x' 64 l')

module _ (m : List ℕ) where
  plain : ℕ → ℕ
  plain i = plain_of m (suc i)

  plain_bits : Bits plain
  unfolding plain plain_of
  plain_bits i = digits_bits 15 (get_or m (i / 15) 0) (i % 15)

  whole : ℕ
  whole = value_of plain 0 195

  whole-lt : whole < 2 ^ 195
  unfolding whole
  whole-lt = value_lt plain plain_bits 0 195

  row_is : (k : ℕ) → k < 13 → row_of whole k ≡ get_or m k 0 % 2 ^ 15
  unfolding row_of whole plain plain_of
  row_is k h =
      ap (λ (n : ℕ). value_of plain 0 n / 2 ^ (15 * (12 - k)) % 2 ^ 15) all
      ∙ value_part plain plain_bits 0 (15 * k) 15 (15 * (12 - k))
      ∙ value_ext plain (digits 15 (get_or m k 0)) (0 + 15 * k) 0 15 (λ c l. ap₂ (λ (x y : ℕ). digits 15 (get_or m x 0) y) (row c l) (column c l))
      ∙ value_last_digits 15 (get_or m k 0) 0 15 refl
    where
      all : 195 ≡ 15 * k + 15 + 15 * (12 - k)
      all = omega arith

      row : (c : ℕ) → c < 15 → (0 + 15 * k + c) / 15 ≡ k
      row c l = omega arith

      column : (c : ℕ) → c < 15 → (0 + 15 * k + c) % 15 ≡ 0 + c
      column c l = omega arith

  square_is : groups_of (fifteen m) ≡ plain_square whole
  unfolding plain_square fifteen
  square_is = ap groups_of (tabulate_ext 13 (λ k. get_or m k 0 % 2 ^ 15) (row_of whole) (λ k h. sym (row_is k h)))

  digit_is : (i : ℕ) → i < 196 → bit (195 - i) whole ≡ plain_of m i
  unfolding whole plain plain_of
  digit_is zero h = ap (λ (x : ℕ). x % 2) (div-eq_of_lt whole-lt)
  digit_is (suc i) h = ap (λ (e : ℕ). bit e whole) place ∙ digits-whole 195 plain plain_bits i (omega arith)
    where
      place : 195 - suc i ≡ 195 - 1 - i
      place = omega arith

  sent_bits_lem : Bits (sent_run m)
  unfolding sent_run plain_of
  sent_bits_lem = followed_bits 196 (λ p. plain_of m (13 * p % 196)) zeros (λ p. plain_of_bit (13 * p % 196)) zeros_bits
    where
      plain_of_bit : (i : ℕ) → plain_of m i < 2
      plain_of_bit zero = omega arith
      plain_of_bit (suc i) = digits_bits 15 (get_or m (i / 15) 0) (i % 15)

  number_is : sent_number whole ≡ value_of (sent_run m) 0 256
  unfolding sent_number sent_digit sent_run value_of
  number_is =
      ap (λ (x : ℕ). x * 2 ^ 60) (value_ext (sent_digit whole) (λ p. plain_of m (13 * p % 196)) 0 0 196 digit) ∙ sym (add-zero _)
      ∙ sym (value_followed 196 60 (λ p. plain_of m (13 * p % 196)) zeros)
    where
      digit : (p : ℕ) → p < 196 → sent_digit whole (0 + p) ≡ plain_of m (13 * (0 + p) % 196)
      digit p h = digit_is (13 * (0 + p) % 196) (mod-lt (13 * (0 + p)) (zero-lt-suc 195))

  module _ (x : Square) (is : x ≡ turned_square (groups_of (fifteen m))) (a b c d : ℕ) (la : a < 2 ^ 64) (lb : b < 2 ^ 64) (lc : c < 2 ^ 64) (ld : d < 2 ^ 64)
      (ea : a ≡ five_runs 48 x.d x.c) (eb : b ≡ five_runs 52 x.c x.b) (ec : c ≡ five_runs 56 x.b x.a) (ed : d ≡ up 60 (x.a / 2 ^ 48)) where
    u : ℕ → ℕ
    u = sent_run m

    -- the four words of the field
    words : (a ≡ value_of u 0 64) × (b ≡ value_of u 64 64) × (c ≡ value_of u 128 64) × (d ≡ value_of u 192 64)
    unfolding u written
    words =
        let lt : (at : ℕ) → value_of u at 64 < 2 ^ 64 = λ at. value_lt u sent_bits_lem at 64 in
        let all : four a b c d ≡ value_of u 0 256 = ap₂ (λ (y z : ℕ). four y z c d) ea eb ∙ ap₂ (λ (y z : ℕ). four (five_runs 48 x.d x.c) (five_runs 52 x.c x.b) y z) ec ed
        ∙ ap words_of (is ∙ ap turned_square square_is) ∙ written-sent whole whole-lt ∙ number_is in
        let last = split (bit_xor (bit_xor (a * 2 ^ 64) b * 2 ^ 64) c) d (value_of u 0 192) (value_of u 192 64) ld (lt 192) (all ∙ value_append u 0 192 64) in
        let third = split (bit_xor (a * 2 ^ 64) b) c (value_of u 0 128) (value_of u 128 64) lc (lt 128) (last.0 ∙ value_append u 0 128 64) in
        let second = split a b (value_of u 0 64) (value_of u 64 64) lb (lt 64) (third.0 ∙ value_append u 0 64 64) in
        (second.0, second.1, third.1, last.1)

    word : (q : ℕ) → q < 4 → get_or (a ∷ b ∷ c ∷ d ∷ []) q 0 ≡ value_of u (64 * q) 64
    word zero h = words.0
    word (suc zero) h = words.1
    word (suc (suc zero)) h = words.2
    word (suc (suc (suc zero))) h = words.3
    word (suc (suc (suc (suc q)))) h = absurd (omega arith)

    pub octets-sent : field_octets a b c d ≡ octets 25 (sent_run m)
    unfolding u field_octets
    octets-sent = words_octets (sent_run m) sent_bits_lem (a ∷ b ∷ c ∷ d ∷ []) 25 (λ q h. word q (omega arith))
