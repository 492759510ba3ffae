-- Laws of the division, for every generator and every number of coefficients: it is linear, it goes on from where it stopped,
-- and a polynomial of a degree below the generator's is its own remainder.
-- Assumes nothing.
use mathlib.Core.Path.{◌≡◌, refl, sym, ap, ap₂, ◌∙◌}
use Prim.Native.Nat.{ℕ, zero, suc, ◌+◌, ◌*◌, ◌/◌, ◌%◌, ◌^◌, ◌≤◌, ◌<◌}
use native.Mathlib.Nat.{zero-mul, one-mul, zero-div, zero-add, add-zero, add-suc, pow-suc, mul_assoc, mul-one, div-eq_of_lt, div-lt_iff_lt-mul, lt_of_lt_of_le}
use native.Mathlib.Omega.{arith}
use lib.Pow.{pow_pos, pow_mono, shl-shr, shr-shr}
use lib.Bits.{bit_xor, xor_shr, xor_zero_r, xor_lt, xor_shifted}
use Rattle.foundation.specs.Bits.{Bits, bit, zeros, followed, value_of}
use Rattle.polynomials.specs.Remainder.{reduce, divide, remainder}
use Rattle.foundation.proofs.Xor.{bit_ind, bit-xor, scale_xor, xor_swap, xor-shl}
use Rattle.foundation.proofs.Runs.{followed-first, followed-behind, value_lt}

module _ (n g : ℕ) where
  pub reduce-xor : (a b : ℕ) → reduce n g (bit_xor a b) ≡ bit_xor (reduce n g a) (reduce n g b)
  unfolding reduce
  reduce-xor a b =
      ap (λ (c : ℕ). bit_xor (bit_xor a b) (c * g)) (bit-xor n a b)
      ∙ ap (bit_xor (bit_xor a b)) (scale_xor g (a / 2 ^ n) (b / 2 ^ n))
      ∙ xor_swap a b (bit n a * g) (bit n b * g)

  -- a polynomial of a degree below n stays as it is
  pub reduce-small : (a : ℕ) → a < 2 ^ n → reduce n g a ≡ a
  unfolding reduce
  reduce-small a h =
      ap (λ (c : ℕ). bit_xor a (c % 2 * g)) (div-eq_of_lt h) ∙ ap (bit_xor a) (zero-mul g) ∙ xor_zero_r a

  pub divide-xor : (r s : ℕ) (u v : ℕ → ℕ) (k : ℕ) → divide n g (bit_xor r s) (λ p. bit_xor (u p) (v p)) k ≡ bit_xor (divide n g r u k) (divide n g s v k)
  unfolding divide
  divide-xor r s u v zero = refl
  divide-xor r s u v (suc k) =
      ap (λ (t : ℕ). reduce n g (bit_xor (t * 2) (bit_xor (u k) (v k)))) (divide-xor r s u v k)
      ∙ ap (λ (t : ℕ). reduce n g (bit_xor t (bit_xor (u k) (v k)))) (sym (xor-shl 1 (divide n g r u k) (divide n g s v k)))
      ∙ ap (reduce n g) (xor_swap (divide n g r u k * 2) (divide n g s v k * 2) (u k) (v k))
      ∙ reduce-xor (bit_xor (divide n g r u k * 2) (u k)) (bit_xor (divide n g s v k * 2) (v k))

  -- only the first k bits count
  pub divide_ext : (r : ℕ) (u v : ℕ → ℕ) (k : ℕ) → ((p : ℕ) → p < k → u p ≡ v p) → divide n g r u k ≡ divide n g r v k
  unfolding divide
  divide_ext r u v zero h = refl
  divide_ext r u v (suc k) h = ap₂ (λ (t b : ℕ). reduce n g (bit_xor (t * 2) b)) (divide_ext r u v k (λ p l. h p (omega arith))) (h k (omega arith))

  -- a division goes on from where it stopped
  pub divide-append : (r : ℕ) (u : ℕ → ℕ) (k l : ℕ) → divide n g r u (k + l) ≡ divide n g (divide n g r u k) (λ p. u (k + p)) l
  unfolding divide
  divide-append r u k zero = ap (divide n g r u) (add-zero k)
  divide-append r u k (suc l) = ap (divide n g r u) (add-suc k l) ∙ ap (λ (t : ℕ). reduce n g (bit_xor (t * 2) (u (k + l)))) (divide-append r u k l)

  pub divide-followed : (r : ℕ) (u v : ℕ → ℕ) (k l : ℕ) → divide n g r (followed k u v) (k + l) ≡ divide n g (divide n g r u k) v l
  divide-followed r u v k l =
      divide-append r (followed k u v) k l
      ∙ ap (λ (t : ℕ). divide n g t (λ p. followed k u v (k + p)) l) (divide_ext r (followed k u v) u k (followed-first k u v))
      ∙ divide_ext (divide n g r u k) (λ p. followed k u v (k + p)) v l (λ p h. followed-behind k u v p)

  pub divide-zero : (k : ℕ) → divide n g 0 zeros k ≡ 0
  unfolding divide
  divide-zero zero = refl
  divide-zero (suc k) = ap (λ (t : ℕ). reduce n g (bit_xor (t * 2) 0)) (divide-zero k) ∙ reduce-small 0 (pow_pos n)

  -- the remainder of a sum of two runs
  pub remainder-xor : (u v : ℕ → ℕ) (k : ℕ) → remainder n g (λ p. bit_xor (u p) (v p)) k ≡ bit_xor (remainder n g u k) (remainder n g v k)
  remainder-xor u v k = divide-xor 0 0 u v k

  -- the partial remainder and what is still to come add up
  pub divide_split : (r : ℕ) (u : ℕ → ℕ) (k : ℕ) → divide n g r u k ≡ bit_xor (divide n g r zeros k) (remainder n g u k)
  divide_split r u k = ap (λ (t : ℕ). divide n g t u k) (sym (xor_zero_r r)) ∙ divide-xor r 0 zeros u k

  -- a product with x^k of a degree below n is its own remainder
  pub times_small : (r k : ℕ) → r * 2 ^ k < 2 ^ n → divide n g r zeros k ≡ r * 2 ^ k
  unfolding divide
  times_small r zero h = sym (mul-one r)
  times_small r (suc k) h =
      let same : r * 2 ^ suc k ≡ r * 2 ^ k * 2 = ap (λ (p : ℕ). r * p) (pow-suc 2 k) ∙ sym (mul_assoc r (2 ^ k) 2) in
      ap (λ (t : ℕ). reduce n g (bit_xor (t * 2) 0)) (times_small r k (omega arith))
      ∙ ap (reduce n g) (xor_zero_r (r * 2 ^ k * 2)) ∙ ap (reduce n g) (sym same) ∙ reduce-small (r * 2 ^ suc k) h

  -- the remainder of at most n bits is the number they make
  pub remainder_short : (u : ℕ → ℕ) → Bits u → (k : ℕ) → k ≤ n → remainder n g u k ≡ value_of u 0 k
  unfolding divide value_of
  remainder_short u h zero l = refl
  remainder_short u h (suc k) l =
      ap (λ (t : ℕ). reduce n g (bit_xor (t * 2) (u k))) (remainder_short u h k (omega arith))
      ∙ ap (reduce n g) (xor_shifted (value_of u 0 k) 1 (u k) (h k) ∙ ap (λ (p : ℕ). value_of u 0 k * 2 + u p) (sym (zero-add k)))
      ∙ reduce-small (value_of u 0 (suc k)) (lt_of_lt_of_le (value_lt u h 0 (suc k)) (pow_mono l))

  -- g has degree n: the remainder has n coefficients
  module _ (hg : g / 2 ^ n ≡ 1) where
    top : (x : ℕ) → x < 2 → bit_xor x (x % 2 * g / 2 ^ n) ≡ 0
    top =
        bit_ind (λ x. bit_xor x (x % 2 * g / 2 ^ n) ≡ 0) (ap (λ (z : ℕ). z / 2 ^ n) (zero-mul g) ∙ zero-div (2 ^ n))
        (ap (bit_xor 1) (ap (λ (z : ℕ). z / 2 ^ n) (one-mul g) ∙ hg))

    pub reduce-lt : (a : ℕ) → a < 2 ^ suc n → reduce n g a < 2 ^ n
    unfolding reduce
    reduce-lt a h =
        let x : a / 2 ^ n < 2 = (div-lt_iff_lt-mul (pow_pos n)).1 (omega (arith, pow-suc 2 n)) in
        let z : bit_xor a (bit n a * g) / 2 ^ n ≡ 0 = xor_shr a (bit n a * g) n ∙ top (a / 2 ^ n) x in
        let y : bit_xor a (bit n a * g) < 1 * 2 ^ n = (div-lt_iff_lt-mul (pow_pos n)).0 (omega arith) in
        omega arith

    pub divide-lt : (r : ℕ) → r < 2 ^ n → (u : ℕ → ℕ) → Bits u → (k : ℕ) → divide n g r u k < 2 ^ n
    unfolding divide
    divide-lt r h u b zero = h
    divide-lt r h u b (suc k) =
        let l = divide-lt r h u b k in
        let c = b k in
        reduce-lt (bit_xor (divide n g r u k * 2) (u k))
        (xor_lt (suc n) (divide n g r u k * 2) (u k) (omega (arith, pow-suc 2 n)) (omega (arith, pow-suc 2 n, pow_pos n)))

-- a generator with m zeros behind it divides what has m zeros behind it
pub reduce_scale : (n g m a : ℕ) → reduce (n + m) (g * 2 ^ m) (a * 2 ^ m) ≡ reduce n g a * 2 ^ m
unfolding reduce
reduce_scale n g m a =
    ap (λ (c : ℕ). bit_xor (a * 2 ^ m) (c % 2 * (g * 2 ^ m))) quotient
    ∙ ap (bit_xor (a * 2 ^ m)) (sym (mul_assoc (bit n a) g (2 ^ m)))
    ∙ xor-shl m a (bit n a * g)
  where
    order : n + m ≡ m + n
    order = omega arith

    quotient : a * 2 ^ m / 2 ^ (n + m) ≡ a / 2 ^ n
    quotient = ap (λ (k : ℕ). a * 2 ^ m / 2 ^ k) order ∙ sym (shr-shr (a * 2 ^ m) m n) ∙ ap (λ (x : ℕ). x / 2 ^ n) (shl-shr a m)
