-- `inputs::to_front` meets its contract.
-- Assumes nothing.
use Rattle.std.proofs.Common.{refl}
use Rattle.inputs.proofs.Moving.{none_left, moved}
use Rattle.inputs.proofs.to_front.Goals as goal

pub returns-then-size-at : goal.returns-then-size-at
returns-then-size-at c = none_left c.args.octets.now c.args.at c.if-size-at.true

pub returns : goal.returns
returns c = (refl, moved c.args.octets.now c.args.at c.copy_within.new.self c.copy_within.ensures.after)
