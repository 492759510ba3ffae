-- `bursts::burst::written` meets its contract.
-- Assumes nothing.
use Rattle.bursts.proofs.Writing.{octets-written}
use Rattle.bursts.proofs.burst.written.Goals as goal

pub returns : goal.returns
returns c =
    let a = c.args in
    let f = c.write-f in
    let w = c.write-slot in
    let s = c.sync_bits in
    octets-written a.colour a.datatype a.info a.sync f.result w.result s.result c.burst_octets.result
    f.ensures.0 w.ensures.0 s.ensures c.burst_octets.ensures
