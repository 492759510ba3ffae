-- `layouts::fields::field_octets` meets its contract.
-- Assumes nothing.
use Rattle.layouts.specs.Layouts.{field_octets}
use Rattle.layouts.proofs.fields.field_octets.Goals as goal

pub returns : goal.returns
unfolding field_octets
returns c = rw (c.octets-to.ensures, c.octets-from.ensures)
