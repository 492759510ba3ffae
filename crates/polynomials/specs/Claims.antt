-- What holds of remainders and checks for every generator g, every degree n and every number of bits.
-- Assumes nothing.
use Rattle.std.specs.Prelude.{◌≡◌, ℕ, ◌+◌, ◌*◌, ◌-◌, ◌/◌, ◌^◌, ◌≤◌}
use Rattle.std.specs.Int.Bits.{bit_xor}
use Rattle.foundation.specs.Bits.{Bits, zeros, followed, value_of}
use Rattle.polynomials.specs.Remainder.{divide, remainder, check, coded}

pub record RemainderClaims (n g : ℕ) : Type 0 where
  -- linear: the remainder of a sum is the sum of the remainders
  pub linear : (u v : ℕ → ℕ) (k : ℕ) → remainder n g (λ p. bit_xor (u p) (v p)) k ≡ bit_xor (remainder n g u k) (remainder n g v k)
  -- append: a division goes on from the remainder so far
  pub append : (r : ℕ) (u v : ℕ → ℕ) (k l : ℕ) → divide n g r (followed k u v) (k + l) ≡ divide n g (divide n g r u k) v l
  -- data followed by its check has remainder 0
  pub codeword : g / 2 ^ n ≡ 1 → (u : ℕ → ℕ) → Bits u → (k : ℕ) → remainder n g (coded n g k u) (k + n) ≡ 0
  -- the register: w bits more are added at the top of the check so far, which is then multiplied by x^w
  pub register : (u : ℕ → ℕ) → Bits u → (k w : ℕ) → w ≤ n → check n g u (k + w) ≡ divide n g (bit_xor (check n g u k) (value_of u k w * 2 ^ (n - w))) zeros w
