-- `capi::writing::labels_from` meets its contract.
-- Assumes nothing.
use Rattle.layouts.specs.Layouts.{labels_from}
use Rattle.capi.proofs.writing.labels_from.Goals as goal

pub returns : goal.returns
unfolding labels_from
returns c =
    rw (
      c.at.ensures,
      c.address_at.ensures,
      c.address_at-2.ensures,
      c.number_at.ensures,
      c.at-2.ensures,
      c.at-3.ensures,
      c.number_at-2.ensures,
    )
