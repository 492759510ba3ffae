-- What the private functions of a burst ask of one another and give. The public promises do not name it.
-- Assumes nothing.
use Rattle.std.specs.Prelude.{List, ℕ, ◌+◌}
use Rattle.foundation.specs.Bits.{octet_bit, followed}

-- the bits of the block field
abbrev pub field_run : List ℕ → ℕ → ℕ
field_run b = followed 98 (octet_bit b) (λ p. octet_bit b (166 + p))
