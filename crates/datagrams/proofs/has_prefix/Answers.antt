-- `datagrams::has_prefix` meets its contract.
-- Assumes nothing.
use Rattle.datagrams.proofs.DatagramRows.{prefix_tested}
use Rattle.datagrams.proofs.has_prefix.Goals as goal

pub returns : goal.returns
returns c = prefix_tested c.args.d.now c.requires c.starts_with.result c.starts_with.ensures.value
