-- A remainder by a multiple of a generator has the same remainder by the generator.
-- Assumes nothing.
use mathlib.Core.Path.{◌≡◌, sym, ap, ap₂, ◌∙◌}
use Prim.Native.Nat.{ℕ, zero, suc, ◌+◌, ◌*◌, ◌-◌, ◌/◌, ◌%◌, ◌^◌, ◌<◌}
use native.Mathlib.Nat.{zero-mul, one-mul, pow-suc, div-eq_of_lt}
use native.Mathlib.Omega.{arith}
use lib.Pow.{pow_pos, shr-shr}
use lib.Bits.{bit_xor, xor_zero_r, xor_shifted}
use Rattle.foundation.specs.Bits.{Bits, bit, digits, zeros}
use Rattle.polynomials.specs.Remainder.{reduce, divide, remainder, check}
use Rattle.foundation.proofs.Xor.{odd_ind, bit-zero}
use Rattle.polynomials.proofs.Division.{divide_ext, divide-append, divide-lt, divide-zero, reduce-lt, reduce-small}
use Rattle.polynomials.proofs.Check.{check_is}
use Rattle.folds.proofs.Folding.{remainder-linear}

module _ (n g : ℕ) where
  -- the remainder of the m low digits of a number
  abbrev of : ℕ → ℕ → ℕ
  of m x = remainder n g (digits m x) m

  of_zero : (m : ℕ) → of m 0 ≡ 0
  of_zero m = divide_ext n g 0 (digits m 0) zeros m (λ p h. bit-zero (m - 1 - p)) ∙ divide-zero n g m

  -- the last digit apart
  of_last : (m y : ℕ) → of (suc m) y ≡ reduce n g (bit_xor (of m (y / 2) * 2) (y % 2))
  unfolding divide
  of_last m y =
      ap₂ (λ (t b : ℕ). reduce n g (bit_xor (t * 2) b)) (divide_ext n g 0 (digits (suc m) y) (digits m (y / 2)) m half) (ap (λ (x : ℕ). x % 2) last)
    where
      half : (p : ℕ) → p < m → digits (suc m) y p ≡ digits m (y / 2) p
      half p h = ap (λ (e : ℕ). y / 2 ^ e % 2) one_more ∙ ap (λ (x : ℕ). x % 2) (sym (shr-shr y 1 (m - 1 - p)))
        where
          one_more : suc m - 1 - p ≡ 1 + (m - 1 - p)
          one_more = omega arith

      none : suc m - 1 - m ≡ 0
      none = omega arith

      whole : y / 2 ^ 0 ≡ y
      whole = omega arith

      last : y / 2 ^ (suc m - 1 - m) ≡ y
      last = ap (λ (e : ℕ). y / 2 ^ e) none ∙ whole

  -- a first digit 0 does not count
  of_small : (m y : ℕ) → y < 2 ^ m → of (suc m) y ≡ of m y
  unfolding divide
  of_small m y h =
      ap (divide n g 0 (digits (suc m) y)) front ∙ divide-append n g 0 (digits (suc m) y) 1 m
      ∙ ap (λ (r : ℕ). divide n g r (λ p. digits (suc m) y (1 + p)) m) (ap (λ (b : ℕ). reduce n g (bit_xor 0 b)) first ∙ reduce-small n g 0 (pow_pos n))
      ∙ divide_ext n g 0 (λ p. digits (suc m) y (1 + p)) (digits m y) m (λ p l. ap (λ (e : ℕ). bit e y) (next p l))
    where
      front : suc m ≡ 1 + m
      front = omega arith

      first : digits (suc m) y 0 ≡ 0
      first = ap (λ (e : ℕ). bit e y) top ∙ ap (λ (x : ℕ). x % 2) (div-eq_of_lt h)
        where
          top : suc m - 1 - 0 ≡ m
          top = omega arith

      next : (p : ℕ) → p < m → suc m - 1 - (1 + p) ≡ m - 1 - p
      next p l = omega arith

  module _ (N G : ℕ) (degree : G / 2 ^ N ≡ 1) (divides : of (suc N) G ≡ 0) where
    of_multiple : (m : ℕ) → of (suc N) (m % 2 * G) ≡ 0
    of_multiple = odd_ind (λ b. of (suc N) (b * G) ≡ 0) (ap (of (suc N)) (zero-mul G) ∙ of_zero (suc N)) (ap (of (suc N)) (one-mul G) ∙ divides)

    reduced : (y : ℕ) → of (suc N) (reduce N G y) ≡ of (suc N) y
    unfolding reduce
    reduced y = remainder-linear n g (suc N) y (bit N y * G) ∙ ap (bit_xor (of (suc N) y)) (of_multiple (y / 2 ^ N)) ∙ xor_zero_r (of (suc N) y)

    of_reduce : (y : ℕ) → y < 2 ^ suc N → of N (reduce N G y) ≡ of (suc N) y
    of_reduce y h =
        sym (of_small N (reduce N G y) (reduce-lt N G degree y h)) ∙ reduced y

    pub remainder_of : (u : ℕ → ℕ) → Bits u → (k : ℕ) → of N (remainder N G u k) ≡ remainder n g u k
    unfolding divide
    remainder_of u b zero = of_zero N
    remainder_of u b (suc k) =
        let r : ℕ = remainder N G u k in
        let l = divide-lt N G degree 0 (pow_pos N) u b k in
        let c = b k in
        let is = xor_shifted r 1 (u k) (b k) in
        let y : ℕ = bit_xor (r * 2) (u k) in
        let half : y / 2 ≡ r = omega arith in
        let odd : y % 2 ≡ u k = omega arith in
        of_reduce y (omega (arith, pow-suc 2 N)) ∙ of_last N y
        ∙ ap₂ (λ (x z : ℕ). reduce n g (bit_xor (x * 2) z)) (ap (of N) half ∙ remainder_of u b k) odd

    pub check_of : (u : ℕ → ℕ) → Bits u → (k : ℕ) → check n g (digits N (remainder N G u k)) N ≡ check n g u k
    check_of u b k =
        check_is n g (digits N (remainder N G u k)) N ∙ ap (λ (r : ℕ). divide n g r zeros n) (remainder_of u b k) ∙ sym (check_is n g u k)
