-- `forms::on_block` meets its contract.
-- Assumes nothing.
use Rattle.forms.proofs.FormEvents.{block_acts}
use Rattle.forms.proofs.on_block.Goals as goal

pub returns : goal.returns
returns c =
    block_acts _ _ _ _ _ _ _ _ _ c.sized.ensures c.on_record.ensures
