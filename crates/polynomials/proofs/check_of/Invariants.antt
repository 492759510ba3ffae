-- `polynomials::check_of` meets its contract: the register is the check of the octets so far.
-- Assumes nothing.
use mathlib.Core.Path.{◌≡◌}
use Prim.Native.Nat.{◌+◌, ◌*◌, ◌^◌}
use Rattle.foundation.specs.Bits.{octet_bit}
use Rattle.polynomials.specs.Remainder.{check}
use Rattle.polynomials.proofs.check_of.Given as goal

abbrev pub invariant-loop-octet : goal.invariant-loop-octet
invariant-loop-octet l = l.r ≡ check 32 (2 ^ 32 + l.g) (octet_bit l.octets) (8 * l.octet-index)
