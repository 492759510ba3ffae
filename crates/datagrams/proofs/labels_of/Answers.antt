-- `datagrams::labels_of` meets its contract.
-- Assumes nothing.
use Rattle.datagrams.specs.Datagrams.{labels_of}
use Rattle.datagrams.proofs.labels_of.Goals as goal

pub returns : goal.returns
unfolding labels_of
returns c =
    rw (
      c.at-octet.ensures,
      c.at.ensures,
      c.address_at.ensures,
      c.address_at-2.ensures,
      c.number_at.ensures,
      c.number_at-2.ensures,
    )
