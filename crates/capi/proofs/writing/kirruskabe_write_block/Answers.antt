-- `capi::writing::kirruskabe_write_block` meets its contract.
-- Assumes nothing.
use Rattle.packets.specs.Blocks.{write_block, block_octets_given}
use Rattle.layouts.proofs.Giving.{by_outcome}
use Rattle.capi.specs.Answers.{block_written}
use Rattle.capi.proofs.PacketNumbers.{block_few}
use Rattle.capi.proofs.writing.kirruskabe_write_block.Goals as goal

pub returns : goal.returns
unfolding block_written block_octets_given
returns c =
    let a = c.args in
    let w = write_block a.serial a.octets.now in
    by_outcome w.number w.octets c.write.ensures.0 (block_few a.serial a.octets.now) c.give_result.ensures
