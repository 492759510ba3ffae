-- `packets::header::octets_of` meets its contract.
-- Assumes nothing.
use Rattle.foundation.proofs.OctetWords.{two_octets}
use Rattle.packets.proofs.HeaderWriting.{octets_are}
use Rattle.packets.proofs.header.octets_of.Goals as goal

pub returns : goal.returns
returns c =
    let a = c.args in
    rw (two_octets _ c.header.result c.header.type_inv c.to_be_bytes.ensures)
    (octets_are a.format a.c a.last _ _ c.octets-to.ensures c.octets-from.ensures _ c.header.ensures.0)
