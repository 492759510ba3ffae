-- `capi::writing::common_from` meets its contract.
-- Assumes nothing.
use Rattle.layouts.specs.Layouts.{common_from}
use Rattle.capi.proofs.writing.common_from.Goals as goal

pub returns : goal.returns
unfolding common_from
returns c =
    rw (
      c.at.ensures,
      c.at-2.ensures,
      c.at-3.ensures,
      c.at-4.ensures,
      c.address_at.ensures,
      c.address_at-2.ensures,
      c.at-5.ensures,
      c.at-6.ensures,
    )
