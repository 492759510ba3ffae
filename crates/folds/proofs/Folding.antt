-- The folds keep exclusive or, and agree at each single bit with the divisions that they stand for.
-- Assumes nothing.
use mathlib.Core.Path.{◌≡◌, refl, sym, ap₂, ◌∙◌}
use Prim.Native.Nat.{ℕ, ◌+◌, ◌*◌, ◌-◌, ◌/◌, ◌%◌, ◌^◌, ◌<◌}
use native.Mathlib.Omega.{arith}
use lib.Bits.{bit_xor}
use lib.Pow.{high, low}
use Rattle.foundation.specs.Bits.{digits, zeros, followed}
use Rattle.polynomials.specs.Words.{up}
use Rattle.polynomials.specs.Remainder.{reduce, divide, remainder, check}
use Rattle.foundation.proofs.Xor.{bit-xor}
use Rattle.foundation.proofs.Runs.{digits_bits, value_whole}
use Rattle.polynomials.proofs.Division.{divide_ext, divide-xor, divide_split, remainder-xor, remainder_short}
use Rattle.polynomials.proofs.Check.{check_ext, check-xor}
use Rattle.polynomials.proofs.Linear.{Linear, linear-shr, linear-mod, linear_then, linear-xor, linear-up, linear-same}
use Rattle.folds.specs.Folds.{header_generator, header_fourth, block_generator, spread, again, block_entered, block_halved, header_times, header_halved}

-- ---- remainders and checks of the digits of a number

module _ (n g k : ℕ) where
  pub remainder-linear : Linear (λ x. remainder n g (digits k x) k)
  remainder-linear a b =
      divide_ext n g 0 (digits k (bit_xor a b)) (λ p. bit_xor (digits k a p) (digits k b p)) k (λ p h. bit-xor (k - 1 - p) a b)
      ∙ remainder-xor n g (digits k a) (digits k b) k

  check-linear : Linear (λ x. check n g (digits k x) k)
  check-linear a b =
      check_ext n g (digits k (bit_xor a b)) (λ p. bit_xor (digits k a p) (digits k b p)) k (λ p h. bit-xor (k - 1 - p) a b)
      ∙ check-xor n g (digits k a) (digits k b) k

-- ---- folds

again-linear : (i : ℕ) → Linear (again i)
again-linear i = linear-xor (λ t. t) (λ t. t / 2 ^ i) (λ a b. refl) (linear-shr i)

spread-linear : (i j : ℕ) → Linear (spread i j)
spread-linear i j = linear-xor (again i) (λ t. t / 2 ^ j) (again-linear i) (linear-shr j)

-- f, and u shifted up by k
module _ (f u : ℕ → ℕ) (hf : Linear f) (hu : Linear u) where
  with_up : (k : ℕ) → Linear (λ x. bit_xor (f x) (up k (u x)))
  with_up k = linear-xor f (λ x. up k (u x)) hf (linear_then u (up k) hu (linear-up k))

module _ (k : ℕ) where
  above : ℕ → ℕ
  above x = spread (3 * k) (5 * k) (x / 2 ^ (9 * k))

  above-linear : Linear above
  unfolding above
  above-linear = linear_then (λ x. x / 2 ^ (9 * k)) (spread (3 * k) (5 * k)) (linear-shr (9 * k)) (spread-linear (3 * k) (5 * k))

  pub block_halved_linear : Linear (block_halved k)
  unfolding block_halved above
  block_halved_linear =
      linear_then (λ x. bit_xor (three x) (above x)) (λ x. x % 2 ^ (9 * k)) (linear-xor three above
      (with_up two above (with_up one above (with_up (λ x. x) above (λ a b. refl) above-linear (6 * k)) above-linear (4 * k)) above-linear (3 * k)) above-linear)
      (linear-mod (9 * k))
    where
      one : ℕ → ℕ
      one x = bit_xor x (up (6 * k) (above x))

      two : ℕ → ℕ
      two x = bit_xor (one x) (up (4 * k) (above x))

      three : ℕ → ℕ
      three x = bit_xor (two x) (up (3 * k) (above x))

-- 96 bits to 64
abbrev entered : ℕ → ℕ
entered x = block_entered (x / 2 ^ 64) (x % 2 ^ 64)

entered_linear : Linear entered
unfolding block_entered
entered_linear = with_up three over (with_up two over (with_up one over (with_up (λ x. x % 2 ^ 64) over (linear-mod 64) over-linear 52) over-linear 44) over-linear 40) over-linear 28
  where
    over : ℕ → ℕ
    over x = spread 12 20 (x / 2 ^ 64)

    over-linear : Linear over
    over-linear = linear_then (λ x. x / 2 ^ 64) (spread 12 20) (linear-shr 64) (spread-linear 12 20)

    one : ℕ → ℕ
    one x = bit_xor (x % 2 ^ 64) (up 52 (over x))

    two : ℕ → ℕ
    two x = bit_xor (one x) (up 44 (over x))

    three : ℕ → ℕ
    three x = bit_xor (two x) (up 40 (over x))

-- 96 bits to nine
abbrev block_nine : ℕ → ℕ
block_nine x = block_halved 1 (block_halved 2 (block_halved 4 (entered x)))

block_nine_linear : Linear block_nine
block_nine_linear =
    linear_then (λ x. block_halved 2 (block_halved 4 (entered x))) (block_halved 1)
    (linear_then (λ x. block_halved 4 (entered x)) (block_halved 2) (linear_then entered (block_halved 4) entered_linear (block_halved_linear 4)) (block_halved_linear 2)) (block_halved_linear 1)

block_nine_lem : (x : ℕ) → x < 2 ^ 96 → block_nine x ≡ remainder 9 block_generator (digits 96 x) 96
unfolding divide reduce block_entered block_halved
block_nine_lem = linear-same block_nine (λ x. remainder 9 block_generator (digits 96 x) 96) block_nine_linear (remainder-linear 9 block_generator 96) 96 tt

pub block_folded_lem : (a b : ℕ) → a < 2 ^ 32 → b < 2 ^ 64
    → block_halved 1 (block_halved 2 (block_halved 4 (block_entered a b))) ≡ remainder 9 block_generator (digits 96 (a * 2 ^ 64 + b)) 96
block_folded_lem a b ha hb =
    ap₂ (λ (x y : ℕ). block_halved 1 (block_halved 2 (block_halved 4 (block_entered x y)))) (sym (high a 64 hb)) (sym (low a 64 hb))
    ∙ block_nine_lem (a * 2 ^ 64 + b) (omega arith)

-- ---- the header's

header_times_linear : Linear header_times
unfolding header_times
header_times_linear = linear-xor (λ r. bit_xor (up 48 (over r)) (up 20 (over r))) over (with_up (λ r. up 48 (over r)) over (linear_then over (up 48) over-linear (linear-up 48)) over-linear 20) over-linear
  where
    over : ℕ → ℕ
    over r = again 32 (spread 16 44 r)

    over-linear : Linear over
    over-linear = linear_then (spread 16 44) (again 32) (spread-linear 16 44) (again-linear 32)

header_times_lem : (r : ℕ) → r < 2 ^ 64 → header_times r ≡ divide 64 header_fourth r zeros 64
unfolding divide reduce header_times
header_times_lem = linear-same header_times (λ r. divide 64 header_fourth r zeros 64) header_times_linear (λ a b. divide-xor 64 header_fourth a b zeros zeros 64) 64 tt

pub header-taken : (r w : ℕ) → r < 2 ^ 64 → w < 2 ^ 64 → bit_xor (header_times r) w ≡ divide 64 header_fourth r (digits 64 w) 64
header-taken r w hr hw =
    ap₂ bit_xor (header_times_lem r hr) (sym (remainder_short 64 header_fourth (digits 64 w) (digits_bits 64 w) 64 (omega arith) ∙ value_whole 64 w hw))
    ∙ sym (divide_split 64 header_fourth r (digits 64 w) 64)

module _ (k : ℕ) where
  over : ℕ → ℕ
  over x = again (8 * k) (spread (4 * k) (11 * k) (x / 2 ^ (16 * k)))

  over-linear : Linear over
  unfolding over
  over-linear =
      linear_then (λ x. spread (4 * k) (11 * k) (x / 2 ^ (16 * k))) (again (8 * k))
      (linear_then (λ x. x / 2 ^ (16 * k)) (spread (4 * k) (11 * k)) (linear-shr (16 * k)) (spread-linear (4 * k) (11 * k))) (again-linear (8 * k))

  header_halved_linear : Linear (header_halved k)
  unfolding header_halved over
  header_halved_linear =
      linear_then (λ x. bit_xor (two x) (over x)) (λ x. x % 2 ^ (16 * k)) (linear-xor two over
      (with_up one over (with_up (λ x. x) over (λ a b. refl) over-linear (12 * k)) over-linear (5 * k)) over-linear)
      (linear-mod (16 * k))
    where
      one : ℕ → ℕ
      one x = bit_xor x (up (12 * k) (over x))

      two : ℕ → ℕ
      two x = bit_xor (one x) (up (5 * k) (over x))

-- 64 bits to the check, as the code has it
abbrev pub header_sixteen : ℕ → ℕ
header_sixteen x = header_halved 1 (up 16 (header_halved 1 (header_halved 2 x))) % 2 ^ 16

header-sixteen-linear : Linear header_sixteen
header-sixteen-linear =
    linear_then (λ x. header_halved 1 (up 16 (header_halved 1 (header_halved 2 x)))) (λ x. x % 2 ^ 16)
    (linear_then (λ x. up 16 (header_halved 1 (header_halved 2 x))) (header_halved 1)
    (linear_then (λ x. header_halved 1 (header_halved 2 x)) (up 16)
    (linear_then (header_halved 2) (header_halved 1) (header_halved_linear 2) (header_halved_linear 1)) (linear-up 16)) (header_halved_linear 1)) (linear-mod 16)

pub header-checked : (x : ℕ) → x < 2 ^ 64 → header_sixteen x ≡ check 16 header_generator (digits 64 x) 64
unfolding check followed divide reduce header_halved
header-checked = linear-same header_sixteen (λ x. check 16 header_generator (digits 64 x) 64) header-sixteen-linear (check-linear 16 header_generator 64) 64 tt
