-- `checks::front` meets its contract.
-- Assumes nothing.
use mathlib.Core.Path.{◌≡◌}
use Prim.Native.Nat.{◌*◌}
use Rattle.foundation.specs.Bits.{octet_bit, value_of}
use Rattle.checks.proofs.front.Given as goal

abbrev pub invariant-loop-octet : goal.invariant-loop-octet
invariant-loop-octet l = l.w ≡ value_of (octet_bit l.octets) 0 (8 * l.octet-index)
