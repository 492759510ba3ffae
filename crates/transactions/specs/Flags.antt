-- Flags of blocks in octets: block n in octet n / 8 at weight 2^(n mod 8).
-- Assumes nothing.
use Rattle.std.specs.Prelude.{Bool, cond, List, ℕ, zero, suc, ◌+◌, ◌*◌, ◌/◌, ◌%◌, ◌^◌, eqb, get_or, set}
use Rattle.foundation.specs.Bits.{bit, tabulate}

-- eight octets of 64 flags
abbrev pub flag_octet_count : ℕ
flag_octet_count = 8

abbrev pub flag_count : ℕ
flag_count = 8 * flag_octet_count

-- flag n
unfoldable pub flagged : List ℕ → ℕ → Bool
flagged os n = eqb (bit (n % 8) (get_or os (n / 8) 0)) 1

-- the sum of the weights of the first k flags from position `at` on
unfoldable pub weights : (ℕ → Bool) → ℕ → ℕ → ℕ
weights f at zero = 0
weights f at (suc k) = weights f at k + cond (f (at + k)) (2 ^ k) 0

-- the octets of the flags f
unfoldable pub flag_octets : (ℕ → Bool) → List ℕ
flag_octets f = tabulate flag_octet_count (λ j. weights f (8 * j) 8)

-- the octets with flag n set
unfoldable pub with_flag : List ℕ → ℕ → List ℕ
with_flag os n = set os (n / 8) (get_or os (n / 8) 0 + cond (flagged os n) 0 (2 ^ (n % 8)))
