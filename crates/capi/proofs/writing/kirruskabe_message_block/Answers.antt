-- `capi::writing::kirruskabe_message_block` meets its contract.
-- Assumes nothing.
use Rattle.packets.specs.Blocks.{block_octets_given}
use Rattle.messages.specs.Messages.{write_message_block}
use Rattle.layouts.proofs.Giving.{by_outcome}
use Rattle.capi.specs.Answers.{message_block}
use Rattle.capi.proofs.PacketNumbers.{part_few}
use Rattle.capi.proofs.writing.kirruskabe_message_block.Goals as goal

pub returns : goal.returns
unfolding message_block block_octets_given
returns c =
    let a = c.args in
    let w = write_message_block a.message.now a.n in
    by_outcome w.number w.octets c.block.ensures (part_few a.message.now a.n) c.give_result.ensures
