-- `bursts::burst::slot_type` meets its contract.
-- Assumes nothing.
use mathlib.Core.Path.{ap, ◌∙◌}
use Rattle.foundation.specs.Refusals.{refusal, outcome}
use Rattle.codes.specs.SlotWord.{read_slot_type, slot_number, slot_given}
use Rattle.bursts.proofs.Numbers.{slot-size, slot_read}
use Rattle.bursts.proofs.burst.slot_type.Goals as goal

pub returns-then-burst-ne33 : goal.returns-then-burst-ne33
unfolding slot_given outcome refusal slot_number
returns-then-burst-ne33 c = ap slot_given (slot-size c.args.burst.now c.if-burst-ne33.true)

pub returns : goal.returns
returns c =
    let b = c.args.burst.now in
    c.read.ensures ∙ ap slot_given (ap read_slot_type c.slot_bits.ensures ∙ slot_read b c.if-burst-ne33.false)
