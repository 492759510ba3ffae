-- `polynomials::shift` meets its contract.
-- Assumes nothing.
use native.Mathlib.Omega.{arith}
use Rattle.polynomials.proofs.Register.{shift_low, shift_high}
use Rattle.polynomials.proofs.shift.Goals as goal

pub returns-then-r-lt2147483648 : goal.returns-then-r-lt2147483648
returns-then-r-lt2147483648 c = shift_low c.args.g c.args.r c.if-r-lt2147483648.true

pub returns-else-r-lt2147483648 : goal.returns-else-r-lt2147483648
returns-else-r-lt2147483648 c = shift_high c.args.g c.args.r (omega arith) c.if-r-lt2147483648.false (omega arith)
