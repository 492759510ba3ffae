-- `packets::block::data_of` meets its contract.
-- Assumes nothing.
use mathlib.Core.Path.{◌∙◌}
use Rattle.packets.proofs.BlockReading.{data_is}
use Rattle.packets.proofs.block.data_of.Goals as goal

pub returns : goal.returns
returns c =
    let a = c in
    c.put.ensures ∙ data_is a.args.octets.now a.requires
