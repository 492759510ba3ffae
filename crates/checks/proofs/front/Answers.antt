-- `checks::front` meets its contract.
-- Assumes nothing.
use mathlib.Core.Path.{refl}
use native.Mathlib.Omega.{arith}
use Rattle.foundation.specs.Bits.{value_of}
use Rattle.checks.proofs.HeaderChecks.{front-lt, front_more}
use Rattle.checks.proofs.front.Goals as goal

pub loop-octet-init : goal.loop-octet-init
unfolding value_of
loop-octet-init c = refl

pub overflow_mul-w : goal.overflow_mul-w
overflow_mul-w c = let t = c.loop-octet in omega (arith, front-lt c.args.octets.now t.octet-index t.w t.invariant (omega arith))

pub overflow_add-w : goal.overflow_add-w
overflow_add-w c = let t = c.loop-octet in omega (arith, front-lt c.args.octets.now t.octet-index t.w t.invariant (omega arith), c.type_inv.octets t.octet-index)

pub loop-octet-preserved : goal.loop-octet-preserved
loop-octet-preserved c = let t = c.loop-octet in front_more c.args.octets.now t.octet-index t.w t.invariant (omega (arith, c.type_inv.octets t.octet-index))
