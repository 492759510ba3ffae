-- `forms::on_header` meets its contract.
-- Assumes nothing.
use Rattle.forms.proofs.FormEvents.{header_acts}
use Rattle.forms.proofs.on_header.Goals as goal

pub returns : goal.returns
returns c =
    header_acts _ _ _ _ _ _ _ _ _ c.sized.ensures c.on_record.ensures
