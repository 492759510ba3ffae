-- `layouts::fields::label_octets` meets its contract.
-- Assumes nothing.
use Rattle.layouts.specs.Layouts.{label_layout}
use Rattle.layouts.proofs.fields.label_octets.Goals as goal

pub returns : goal.returns
unfolding label_layout
returns c =
    rw (c.octets-s.ensures, c.octets-t.ensures, c.octets-n.ensures, c.to_be_bytes-m.ensures)
