-- `bursts::burst::slot_bits` meets its contract.
-- Assumes nothing.
use native.Mathlib.Omega.{arith}
use Rattle.bursts.proofs.Reading.{slot-parts}
use Rattle.bursts.proofs.burst.slot_bits.Goals as goal

pub returns : goal.returns
returns c =
    let b = c.args.b.now in
    omega (arith, slot-parts b, c.type_inv.b 13, c.type_inv.b 20)
