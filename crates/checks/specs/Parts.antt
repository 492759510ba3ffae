-- What private functions require and give: nothing that a reader has to believe.
-- Assumes nothing.
use Rattle.std.specs.Prelude.{List, ℕ, ◌*◌}
use Rattle.foundation.specs.Bits.{octet_bit}
use Rattle.polynomials.specs.Remainder.{check}
use Rattle.checks.specs.Checks.{message_generator, exchanged}

-- the message's check of the first i octets, each pair exchanged
unfoldable pub message_so_far : List ℕ → ℕ → ℕ
message_so_far os i = check 32 message_generator (octet_bit (exchanged os)) (8 * i)
