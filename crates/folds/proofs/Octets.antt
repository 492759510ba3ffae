-- Octets, the first highest, and the divisions of them.
-- Assumes nothing.
use mathlib.Core.Path.{◌≡◌, refl, sym, ap, ap₂, ◌∙◌}
use mathlib.Core.List.{List}
use Prim.Native.Nat.{ℕ, ◌+◌, ◌*◌, ◌/◌, ◌%◌, ◌^◌, ◌<◌}
use native.Mathlib.Nat.{div-one}
use native.Mathlib.Omega.{arith}
use Rattle.foundation.specs.Bits.{Bits, digits, zeros, octet_bit, followed, value_of}
use Rattle.foundation.proofs.Runs.{octet_bit_bits, digits_bits, zeros_bits, followed_bits, value_followed, value_digits, digits_number, digits-whole}
use Rattle.foundation.proofs.OctetLists.{Octets}
use Rattle.foundation.proofs.OctetWords.{joined, value_joined}
use Rattle.polynomials.specs.Remainder.{reduce, divide, remainder, check}
use Rattle.polynomials.proofs.Division.{divide-append, divide_ext, remainder_short}
use Rattle.folds.specs.Folds.{header_generator, header_fourth, block_generator}
use Rattle.folds.proofs.Divisors.{check_of}

-- ---- the header's register

-- it starts with fewer than eight octets
pub header-first : (os : List ℕ) (i : ℕ) → i < 8 → value_of (octet_bit os) 0 (8 * i) ≡ remainder 64 header_fourth (octet_bit os) (8 * i)
header-first os i h = sym (remainder_short 64 header_fourth (octet_bit os) (octet_bit_bits os) (8 * i) (omega arith))

-- it takes in the word from octet i on
pub header_more : (os : List ℕ) (i r w : ℕ) → r ≡ remainder 64 header_fourth (octet_bit os) (8 * i) → w ≡ value_of (octet_bit os) (8 * i) 64
    → divide 64 header_fourth r (digits 64 w) 64 ≡ remainder 64 header_fourth (octet_bit os) (8 * (i + 8))
header_more os i r w e f =
    ap₂ (λ (x y : ℕ). divide 64 header_fourth x (digits 64 y) 64) e f
    ∙ divide_ext 64 header_fourth (remainder 64 header_fourth u (8 * i)) (digits 64 (value_of u (8 * i) 64)) (λ p. u (8 * i + p)) 64 (digits_number 64 u (octet_bit_bits os) (8 * i))
    ∙ sym (divide-append 64 header_fourth 0 u (8 * i) 64) ∙ ap (remainder 64 header_fourth u) more
  where
    u : ℕ → ℕ
    u = octet_bit os

    more : 8 * i + 64 ≡ 8 * (i + 8)
    more = omega arith

divides : remainder 16 header_generator (digits 65 header_fourth) 65 ≡ 0
unfolding divide reduce
divides = refl

-- and gives the check of what it took in
pub header_so_far : (os : List ℕ) (k : ℕ) → check 16 header_generator (digits 64 (remainder 64 header_fourth (octet_bit os) k)) 64 ≡ check 16 header_generator (octet_bit os) k
header_so_far os k = check_of 16 header_generator 64 header_fourth refl divides (octet_bit os) (octet_bit_bits os) k

-- ---- ten octets and seven bits of a number behind them

module _ (os : List ℕ) (octet : Octets os) (s : ℕ) where
  ten : ℕ → ℕ
  ten = followed 80 (octet_bit os) (digits 7 s)

  ten_bits : Bits ten
  unfolding ten
  ten_bits = followed_bits 80 (octet_bit os) (digits 7 s) (octet_bit_bits os) (digits_bits 7 s)

  whole : value_of (followed 87 ten zeros) 0 96 ≡ (joined os 0 10 * 2 ^ 7 + s % 128) * 2 ^ 9
  unfolding ten value_of
  whole =
      value_followed 87 9 ten zeros
      ∙ ap (λ (x : ℕ). x * 2 ^ 9 + 0)
      (value_followed 80 7 (octet_bit os) (digits 7 s) ∙ ap₂ (λ (x y : ℕ). x * 2 ^ 7 + y) (value_joined os octet 0 10) (value_digits 7 s 7 (omega arith) ∙ ap (λ (x : ℕ). x % 128) (div-one s)))
      ∙ omega arith

  -- first and last are the words from octets 0 and 2 on
  pub block_ten : (first last : ℕ) → first ≡ value_of (octet_bit os) (8 * 0) 64 → last ≡ value_of (octet_bit os) (8 * 2) 64
      → remainder 9 block_generator (digits 96 (first / 2 ^ 32 * 2 ^ 64 + (last * 2 ^ 16 % 2 ^ 64 + 512 * (s % 128)))) 96
      ≡ check 9 block_generator (followed 80 (octet_bit os) (digits 7 s)) 87
  unfolding check ten joined
  block_ten first last e f =
      ap (λ (y : ℕ). remainder 9 block_generator (digits 96 y) 96) (same ∙ sym whole)
      ∙ divide_ext 9 block_generator 0 (digits 96 (value_of v 0 96)) v 96 (digits-whole 96 v (followed_bits 87 ten zeros ten_bits zeros_bits))
    where
      v : ℕ → ℕ
      v = followed 87 ten zeros

      same : first / 2 ^ 32 * 2 ^ 64 + (last * 2 ^ 16 % 2 ^ 64 + 512 * (s % 128)) ≡ (joined os 0 10 * 2 ^ 7 + s % 128) * 2 ^ 9
      same =
          omega
          (arith, e ∙ value_joined os octet 0 8, f ∙ value_joined os octet 2 8, octet 0, octet 1, octet 2, octet 3, octet 4, octet 5, octet 6, octet 7, octet 8, octet 9)
