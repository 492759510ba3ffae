-- Bits, numbers and octets. A run of bits is a function from a position, 0 for the first bit, to a bit, 0 or 1;
-- how many of its bits count is said beside it.
-- Assumes nothing.
use Rattle.std.specs.Prelude.{cond, List, [], ◌∷◌, ℕ, zero, suc, ◌+◌, ◌*◌, ◌-◌, ◌/◌, ◌%◌, ◌^◌, ◌<◌, ltb, get_or}

-- every value of u is a bit
abbrev pub Bits : (ℕ → ℕ) → Type 0
Bits u = (p : ℕ) → u p < 2

-- binary digit i of a number
abbrev pub bit : ℕ → ℕ → ℕ
bit i a = a / 2 ^ i % 2

-- the n low binary digits of a number as a run, the highest first
abbrev pub digits : ℕ → ℕ → ℕ → ℕ
digits n a p = bit (n - 1 - p) a

-- bit i of a run of octets, the first bit highest in octet 0; 0 past the end
unfoldable pub octet_bit : List ℕ → ℕ → ℕ
octet_bit os i = digits 8 (get_or os (i / 8) 0) (i % 8)

-- a run of zeros
abbrev pub zeros : ℕ → ℕ
zeros p = 0

-- the first k bits of u, and v behind them
unfoldable pub followed : ℕ → (ℕ → ℕ) → (ℕ → ℕ) → ℕ → ℕ
followed k u v p = cond (ltb p k) (u p) (v (p - k))

-- the value that k bits make from position `at` on, the first the highest
unfoldable pub value_of : (ℕ → ℕ) → ℕ → ℕ → ℕ
value_of u at zero = 0
value_of u at (suc k) = value_of u at k * 2 + u (at + k)

-- the list f 0, f 1, .. of n elements
abbrev pub tabulate : ℕ → (ℕ → ℕ) → List ℕ
tabulate zero f = []
tabulate (suc n) f = f 0 ∷ tabulate n (λ k. f (suc k))

-- the n octets that a run of bits makes
unfoldable pub octets : ℕ → (ℕ → ℕ) → List ℕ
octets n u = tabulate n (λ j. value_of u (8 * j) 8)
