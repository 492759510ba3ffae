-- Laws of checks, for every generator and every number of bits: data followed by its check has remainder 0, a check is computed from
-- the check so far, and a generator with zeros behind it gives the same check with zeros behind it.
-- Assumes nothing.
use mathlib.Core.Path.{◌≡◌, sym, ap, ap₂, subst, ◌∙◌}
use Prim.Native.Nat.{ℕ, zero, suc, ◌+◌, ◌*◌, ◌-◌, ◌/◌, ◌^◌, ◌≤◌, ◌<◌}
use native.Mathlib.Nat.{zero-mul, mul_assoc, mul_comm}
use native.Mathlib.Omega.{arith}
use native.Mathlib.Numerals.{add-one}
use lib.Pow.{pow_pos, pow-add, shl_lt}
use lib.Bits.{bit_xor, xor_self, xor_zero_r}
use Rattle.foundation.specs.Bits.{Bits, digits, zeros, followed, value_of}
use Rattle.polynomials.specs.Remainder.{reduce, divide, remainder, check, coded}
use Rattle.foundation.proofs.Xor.{xor-shl}
use Rattle.foundation.proofs.Runs.{zeros_bits, digits_bits, followed_bits, followed-first, followed_rest, value_from, value_lt, value_one, value_whole}
use Rattle.polynomials.proofs.Division.{divide-append, divide_ext, divide-followed, divide-lt, divide_split, divide-xor, divide-zero, reduce_scale, remainder_short, times_small}

module _ (n g : ℕ) where
  -- the check is the remainder times x^n
  pub check_is : (u : ℕ → ℕ) (k : ℕ) → check n g u k ≡ divide n g (remainder n g u k) zeros n
  unfolding check
  check_is u k = divide-followed n g 0 u zeros k n

  pub check_ext : (u v : ℕ → ℕ) (k : ℕ) → ((p : ℕ) → p < k → u p ≡ v p) → check n g u k ≡ check n g v k
  check_ext u v k h = check_is u k ∙ ap (λ (r : ℕ). divide n g r zeros n) (divide_ext n g 0 u v k h) ∙ sym (check_is v k)

  pub check-xor : (u v : ℕ → ℕ) (k : ℕ) → check n g (λ p. bit_xor (u p) (v p)) k ≡ bit_xor (check n g u k) (check n g v k)
  check-xor u v k =
      check_is (λ p. bit_xor (u p) (v p)) k
      ∙ ap (λ (r : ℕ). divide n g r zeros n) (divide-xor n g 0 0 u v k)
      ∙ divide-xor n g (remainder n g u k) (remainder n g v k) zeros zeros n
      ∙ ap₂ bit_xor (sym (check_is u k)) (sym (check_is v k))

  pub check-none : (u : ℕ → ℕ) → check n g u 0 ≡ 0
  unfolding divide
  check-none u = check_is u 0 ∙ divide-zero n g n

  pub check-lt : g / 2 ^ n ≡ 1 → (u : ℕ → ℕ) → Bits u → (k : ℕ) → check n g u k < 2 ^ n
  unfolding check
  check-lt hg u b k = divide-lt n g hg 0 (pow_pos n) (followed k u zeros) (followed_bits k u zeros b zeros_bits) (k + n)

  pub coded-first : (k : ℕ) (u : ℕ → ℕ) (p : ℕ) → p < k → coded n g k u p ≡ u p
  unfolding coded
  coded-first k u p h = followed-first k u (digits n (check n g u k)) p h

  pub coded_rest : (k : ℕ) (u : ℕ → ℕ) (p : ℕ) → k ≤ p → coded n g k u p ≡ digits n (check n g u k) (p - k)
  unfolding coded
  coded_rest k u p h = followed_rest k u (digits n (check n g u k)) p h

  pub coded_bits : (k : ℕ) (u : ℕ → ℕ) → Bits u → Bits (coded n g k u)
  unfolding coded
  coded_bits k u b = followed_bits k u (digits n (check n g u k)) b (digits_bits n (check n g u k))

  -- data followed by its check has remainder 0
  pub codeword : g / 2 ^ n ≡ 1 → (u : ℕ → ℕ) → Bits u → (k : ℕ) → remainder n g (coded n g k u) (k + n) ≡ 0
  unfolding coded
  codeword hg u b k =
      let c : ℕ = check n g u k in
      divide-followed n g 0 u (digits n c) k n
      ∙ divide_split n g (remainder n g u k) (digits n c) n
      ∙ ap₂ bit_xor (sym (check_is u k)) (remainder_short n g (digits n c) (digits_bits n c) n (omega arith) ∙ value_whole n c (check-lt hg u b k))
      ∙ xor_self c

  -- x^i and then x^j
  pub times_times : (r i j : ℕ) → divide n g (divide n g r zeros i) zeros j ≡ divide n g r zeros (i + j)
  times_times r i j = sym (divide-append n g r zeros i j)

  -- the register takes in w bits at once: they are added at its top, and then it is shifted w times
  pub check_more : (u : ℕ → ℕ) → Bits u → (k w : ℕ) → w ≤ n → check n g u (k + w) ≡ divide n g (bit_xor (check n g u k) (value_of u k w * 2 ^ (n - w))) zeros w
  check_more u b k w l =
      let r : ℕ = remainder n g u k in
      let o : ℕ = value_of u k w in
      check_is u (k + w)
      ∙ ap (λ (t : ℕ). divide n g t zeros n) (divide-append n g 0 u k w ∙ divide_split n g r (λ p. u (k + p)) w
      ∙ ap (bit_xor (divide n g r zeros w)) (remainder_short n g (λ p. u (k + p)) (λ p. b (k + p)) w l ∙ value_from u k w))
      ∙ divide-xor n g (divide n g r zeros w) o zeros zeros n
      ∙ ap₂ bit_xor (times_times r w n ∙ ap (divide n g r zeros) (swap w n) ∙ sym (times_times r n w) ∙ ap (λ (t : ℕ). divide n g t zeros w) (sym (check_is u k)))
      (ap (divide n g o zeros) whole ∙ sym (times_times o (n - w) w) ∙ ap (λ (t : ℕ). divide n g t zeros w) (times_small n g o (n - w) fits))
      ∙ sym (divide-xor n g (check n g u k) (o * 2 ^ (n - w)) zeros zeros w)
    where
      swap : (a c : ℕ) → a + c ≡ c + a
      swap a c = omega arith

      whole : n ≡ n - w + w
      whole = omega arith

      sum : w + (n - w) ≡ n
      sum = omega arith

      fits : value_of u k w * 2 ^ (n - w) < 2 ^ n
      fits = subst (λ (j : ℕ). value_of u k w * 2 ^ (n - w) < 2 ^ j) sum (shl_lt w (n - w) (value_lt u b k w))

-- the check so far with one bit more
check_snoc : (m g : ℕ) (u : ℕ → ℕ) → Bits u → (k : ℕ) → check (suc m) g u (suc k) ≡ reduce (suc m) g (bit_xor (check (suc m) g u k) (u k * 2 ^ m) * 2)
unfolding divide
check_snoc m g u b k =
    ap (check (suc m) g u) (sym (add-one k)) ∙ check_more (suc m) g u b k 1 (omega arith)
    ∙ ap (reduce (suc m) g) (xor_zero_r (bit_xor (check (suc m) g u k) (value_of u k 1 * 2 ^ (suc m - 1)) * 2))
    ∙ ap₂ (λ (x y : ℕ). reduce (suc m) g (bit_xor (check (suc m) g u k) (x * 2 ^ y) * 2)) (value_one u k) low
  where
    low : suc m - 1 ≡ m
    low = omega arith

-- a generator with j zeros behind it gives the check with j zeros behind it
pub check_scale : (m g j : ℕ) (u : ℕ → ℕ) → Bits u → (k : ℕ) → check (suc m + j) (g * 2 ^ j) u k ≡ check (suc m) g u k * 2 ^ j
check_scale m g j u b zero = check-none (suc m + j) (g * 2 ^ j) u ∙ sym (zero-mul (2 ^ j)) ∙ ap (λ (c : ℕ). c * 2 ^ j) (sym (check-none (suc m) g u))
check_scale m g j u b (suc k) =
    let c : ℕ = check (suc m) g u k in
    ap (λ (i : ℕ). check i (g * 2 ^ j) u (suc k)) degree
    ∙ check_snoc (m + j) (g * 2 ^ j) u b k
    ∙ ap₂ (λ (x i : ℕ). reduce i (g * 2 ^ j) x) (ap₂ (λ (x y : ℕ). bit_xor x y * 2) (ap (λ (i : ℕ). check i (g * 2 ^ j) u k) (sym degree) ∙ check_scale m g j u b k) (ap (λ (p : ℕ). u k * p) (pow-add 2 m j) ∙ sym (mul_assoc (u k) (2 ^ m) (2 ^ j)))
    ∙ ap (λ (x : ℕ). x * 2) (xor-shl j c (u k * 2 ^ m)) ∙ swap (bit_xor c (u k * 2 ^ m)) (2 ^ j)) (sym degree)
    ∙ reduce_scale (suc m) g j (bit_xor c (u k * 2 ^ m) * 2)
    ∙ ap (λ (x : ℕ). x * 2 ^ j) (sym (check_snoc m g u b k))
  where
    degree : suc m + j ≡ suc (m + j)
    degree = omega arith

    swap : (x y : ℕ) → x * y * 2 ≡ x * 2 * y
    swap x y = mul_assoc x y 2 ∙ ap (λ (z : ℕ). x * z) (mul_comm y 2) ∙ sym (mul_assoc x 2 y)
