-- Checks on checks, for every two generators: where the rows of a matrix are codewords of one code, so are the rows that the check
-- bits of its columns by another make.
-- Assumes nothing.
use mathlib.Core.Path.{◌≡◌, sym, ap, ap₂, ◌∙◌}
use Prim.Native.Nat.{ℕ, zero, suc, ◌+◌, ◌*◌, ◌-◌, ◌/◌, ◌%◌, ◌^◌, ◌<◌}
use native.Mathlib.Nat.{mul-zero, mul-one}
use native.Mathlib.Omega.{arith}
use native.Mathlib.Decide.{dec_lt}
use lib.Pow.{shr-shr}
use lib.Bits.{bit_xor, xor_shifted}
use Rattle.foundation.specs.Bits.{Bits, bit, digits, zeros, followed}
use Rattle.polynomials.specs.Remainder.{reduce, divide, remainder, check, coded}
use Rattle.foundation.proofs.Xor.{bit_scale, bit-xor, bit-zero, odd_ind}
use Rattle.foundation.proofs.Runs.{zeros_bits, followed_bits, followed-first, followed_rest}
use Rattle.polynomials.proofs.Division.{divide_ext, divide-zero, remainder-xor}

-- s x + b, bit by bit
bit-first : (s b : ℕ) → b < 2 → bit 0 (bit_xor (s * 2) b) ≡ b
bit-first s b h = ap (bit 0) (xor_shifted s 1 b h) ∙ omega arith

bit_next : (s b j : ℕ) → b < 2 → bit (suc j) (bit_xor (s * 2) b) ≡ bit j s
bit_next s b j h =
    ap (bit (suc j)) (xor_shifted s 1 b h)
    ∙ ap (λ (k : ℕ). (s * 2 + b) / 2 ^ k % 2) next
    ∙ ap (λ (x : ℕ). x % 2) (sym (shr-shr (s * 2 + b) 1 j) ∙ ap (λ (x : ℕ). x / 2 ^ j) half)
  where
    next : suc j ≡ 1 + j
    next = omega arith

    half : (s * 2 + b) / 2 ^ 1 ≡ s
    half = omega arith

module _ (N G len : ℕ) where
  -- a run of len bits with remainder 0 by G
  abbrev Good : (ℕ → ℕ) → Type 0
  Good u = remainder N G u len ≡ 0

  good_ext : (u v : ℕ → ℕ) → ((c : ℕ) → u c ≡ v c) → Good v → Good u
  good_ext u v e h = divide_ext N G 0 u v len (λ c l. e c) ∙ h

  good-zeros : Good zeros
  good-zeros = divide-zero N G len

  good-xor : (u v : ℕ → ℕ) → Good u → Good v → Good (λ c. bit_xor (u c) (v c))
  good-xor u v hu hv = remainder-xor N G u v len ∙ ap₂ bit_xor hu hv

  -- the rows that the bits of the numbers s 0, s 1, .. make are all good
  abbrev GoodRows : (ℕ → ℕ) → Type 0
  GoodRows s = (j : ℕ) → Good (λ c. bit j (s c))

  module _ (n g : ℕ) where
    module _ (s u : ℕ → ℕ) (rows : GoodRows s) (b : Bits u) (good : Good u) where
      shifted_rows : GoodRows (λ c. bit_xor (s c * 2) (u c))
      shifted_rows zero = good_ext (λ c. bit 0 (bit_xor (s c * 2) (u c))) u (λ c. bit-first (s c) (u c) (b c)) good
      shifted_rows (suc j) = good_ext (λ c. bit (suc j) (bit_xor (s c * 2) (u c))) (λ c. bit j (s c)) (λ c. bit_next (s c) (u c) j (b c)) (rows j)

      scaled_row : (j : ℕ) → Good (λ c. bit n (bit_xor (s c * 2) (u c)) * bit j g)
      scaled_row j =
          odd_ind (λ x. Good (λ c. bit n (bit_xor (s c * 2) (u c)) * x))
          (good_ext (λ c. bit n (bit_xor (s c * 2) (u c)) * 0) zeros (λ c. mul-zero (bit n (bit_xor (s c * 2) (u c)))) good-zeros)
          (good_ext (λ c. bit n (bit_xor (s c * 2) (u c)) * 1) (λ c. bit n (bit_xor (s c * 2) (u c))) (λ c. mul-one (bit n (bit_xor (s c * 2) (u c)))) (shifted_rows n))
          (g / 2 ^ j)

      rows_more : GoodRows (λ c. reduce n g (bit_xor (s c * 2) (u c)))
      unfolding reduce
      rows_more j =
          good_ext (λ c. bit j (reduce n g (bit_xor (s c * 2) (u c)))) (λ c. bit_xor (bit j (bit_xor (s c * 2) (u c))) (bit n (bit_xor (s c * 2) (u c)) * bit j g))
          (λ c. bit-xor j (bit_xor (s c * 2) (u c)) (bit n (bit_xor (s c * 2) (u c)) * g) ∙ ap (bit_xor (bit j (bit_xor (s c * 2) (u c)))) (bit_scale j g (bit_xor (s c * 2) (u c) / 2 ^ n)))
          (good-xor (λ c. bit j (bit_xor (s c * 2) (u c))) (λ c. bit n (bit_xor (s c * 2) (u c)) * bit j g) (shifted_rows j) (scaled_row j))

    remainder-rows : (m : ℕ → ℕ → ℕ) → ((r : ℕ) → Bits (m r)) → ((r : ℕ) → Good (m r)) → (i : ℕ) → GoodRows (λ c. remainder n g (λ r. m r c) i)
    unfolding divide
    remainder-rows m b h zero = λ j. good_ext (λ c. bit j 0) zeros (λ c. bit-zero j) good-zeros
    remainder-rows m b h (suc i) = rows_more (λ c. remainder n g (λ r. m r c) i) (m i) (remainder-rows m b h i) (b i) (h i)

    module _ (k : ℕ) (m : ℕ → ℕ → ℕ) (b : (r : ℕ) → Bits (m r)) (h : (r : ℕ) → r < k → Good (m r)) where
      extended : ℕ → ℕ → ℕ
      extended r c = followed k (λ i. m i c) zeros r

      extended_good : (r : ℕ) → Good (extended r)
      unfolding extended
      extended_good r = go (dec_lt r k)
        where
          go : Dec (r < k) → Good (extended r)
          go (yes l) = good_ext (extended r) (m r) (λ c. followed-first k (λ i. m i c) zeros r l) (h r l)
          go (no l) = good_ext (extended r) zeros (λ c. followed_rest k (λ i. m i c) zeros r (omega arith)) good-zeros

      check-rows : GoodRows (λ c. check n g (λ i. m i c) k)
      unfolding check extended
      check-rows = remainder-rows extended (λ r c. followed_bits k (λ i. m i c) zeros (λ i. b i c) zeros_bits r) extended_good (k + n)

      pub coded-rows : (r : ℕ) → remainder N G (λ c. coded n g k (λ i. m i c) r) len ≡ 0
      unfolding coded
      coded-rows r = go (dec_lt r k)
        where
          go : Dec (r < k) → Good (λ c. coded n g k (λ i. m i c) r)
          go (yes l) = good_ext (λ c. coded n g k (λ i. m i c) r) (m r) (λ c. followed-first k (λ i. m i c) (digits n (check n g (λ i. m i c) k)) r l) (h r l)
          go (no l) =
              good_ext (λ c. coded n g k (λ i. m i c) r) (λ c. bit (n - 1 - (r - k)) (check n g (λ i. m i c) k))
              (λ c. followed_rest k (λ i. m i c) (digits n (check n g (λ i. m i c) k)) r (omega arith)) (check-rows (n - 1 - (r - k)))
