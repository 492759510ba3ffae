-- `capi::reading::kirruskabe_read_block` meets its contract.
-- Assumes nothing.
use Rattle.packets.specs.Blocks.{read_block, block_given}
use Rattle.layouts.specs.Layouts.{block_octets}
use Rattle.layouts.proofs.Giving.{by_outcome}
use Rattle.capi.specs.Answers.{block_read}
use Rattle.capi.proofs.PacketNumbers.{block_read_few}
use Rattle.capi.proofs.Making.{made_of}
use Rattle.capi.proofs.reading.kirruskabe_read_block.Goals as goal

pub returns : goal.returns
unfolding block_read block_octets block_given
returns c =
    let b = c.args.block.now in
    let x = read_block b in
    by_outcome x.number (block_octets x) (made_of _ x.number _ _ c.read.ensures c.map.ensures.cases (λ y p. p)) (block_read_few b) c.give_result.ensures
