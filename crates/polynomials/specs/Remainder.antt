-- Polynomials over GF(2). The number a stands for the polynomial in which the coefficient of x^i is binary digit i of a: a sum of
-- polynomials is then `bit_xor`, and a product with x is `* 2`. A run of bits holds coefficients, the highest power first.
-- Assumes nothing.
use Rattle.std.specs.Prelude.{List, [], ◌∷◌, ℕ, zero, suc, ◌+◌, ◌*◌, ◌^◌}
use Rattle.std.specs.Int.Bits.{bit_xor}
use Rattle.foundation.specs.Bits.{bit, digits, zeros, followed}

-- the polynomial with these powers of x, each once
abbrev pub powers : List ℕ → ℕ
powers [] = 0
powers (e ∷ es) = 2 ^ e + powers es

-- a + c g, where c is a's coefficient of x^n: for a generator g of degree n the result has no x^n
unfoldable pub reduce : (n g a : ℕ) → ℕ
reduce n g a = bit_xor a (bit n a * g)

-- long division by g, of degree n, from the partial remainder r on: each of the next k coefficients b gives r x + b, which is reduced
unfoldable pub divide : (n g r : ℕ) → (ℕ → ℕ) → ℕ → ℕ
divide n g r u zero = r
divide n g r u (suc k) = reduce n g (bit_xor (divide n g r u k * 2) (u k))

-- the remainder, by g of degree n, of the polynomial with the first k bits of u for coefficients
abbrev pub remainder : (n g : ℕ) → (ℕ → ℕ) → ℕ → ℕ
remainder n g u k = divide n g 0 u k

-- the check of the first k bits of u: the remainder of that polynomial times x^n
unfoldable pub check : (n g : ℕ) → (ℕ → ℕ) → ℕ → ℕ
check n g u k = remainder n g (followed k u zeros) (k + n)

-- the first k bits of u, and behind them the n bits of their check, the highest power first
unfoldable pub coded : (n g k : ℕ) → (ℕ → ℕ) → ℕ → ℕ
coded n g k u = followed k u (digits n (check n g u k))
