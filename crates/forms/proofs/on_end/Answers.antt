-- `forms::on_end` meets its contract.
-- Assumes nothing.
use Rattle.forms.proofs.FormEvents.{end_acts}
use Rattle.forms.proofs.on_end.Goals as goal

pub returns : goal.returns
returns c = end_acts _ _ _ _ _ _ _ c.on_record.ensures
