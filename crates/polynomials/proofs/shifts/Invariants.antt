-- `polynomials::shifts` meets its contract: after each number of turns the register is r times that power of x.
-- Assumes nothing.
use mathlib.Core.Path.{◌≡◌}
use Prim.Native.Nat.{◌+◌, ◌^◌}
use Rattle.foundation.specs.Bits.{zeros}
use Rattle.polynomials.specs.Remainder.{divide}
use Rattle.polynomials.proofs.shifts.Given as goal

abbrev pub invariant-loop : goal.invariant-loop
invariant-loop l = l.s ≡ divide 32 (2 ^ 32 + l.g) l.r zeros l.counter
