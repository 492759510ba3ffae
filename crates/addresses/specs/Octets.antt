-- Numbers of three and four octets, most significant first.
-- Assumes nothing.
use Rattle.std.specs.Prelude.{List, [], ◌∷◌, ℕ, ◌+◌, ◌*◌, ◌/◌, ◌%◌, get_or}
use Rattle.addresses.specs.declared.RadioAddress.{RadioAddress}

abbrev pub three_octets : ℕ → List ℕ
three_octets a = a / 65536 % 256 ∷ a / 256 % 256 ∷ a % 256 ∷ []

abbrev pub four_octets : ℕ → List ℕ
four_octets a = a / 16777216 % 256 ∷ a / 65536 % 256 ∷ a / 256 % 256 ∷ a % 256 ∷ []

-- the address in three octets from position `at` on
abbrev pub address_at : List ℕ → ℕ → RadioAddress
address_at os at = record { 0 = 65536 * get_or os at 0 + 256 * get_or os (at + 1) 0 + get_or os (at + 2) 0 }

-- the number in four octets from position `at` on
abbrev pub number_at : List ℕ → ℕ → ℕ
number_at os at = 16777216 * get_or os at 0 + 65536 * get_or os (at + 1) 0 + 256 * get_or os (at + 2) 0 + get_or os (at + 3) 0
