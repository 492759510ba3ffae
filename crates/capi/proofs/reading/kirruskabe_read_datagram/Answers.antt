-- `capi::reading::kirruskabe_read_datagram` meets its contract.
-- Assumes nothing.
use Rattle.datagrams.specs.Datagrams.{read_datagram, datagram_given}
use Rattle.layouts.specs.Layouts.{datagram_octets}
use Rattle.layouts.proofs.Giving.{by_outcome}
use Rattle.capi.specs.Answers.{datagram_read}
use Rattle.capi.proofs.BurstNumbers.{datagram_few}
use Rattle.capi.proofs.Making.{made_of}
use Rattle.capi.proofs.reading.kirruskabe_read_datagram.Goals as goal

pub returns : goal.returns
unfolding datagram_read datagram_octets datagram_given
returns c =
    let d = c.args.datagram.now in
    let x = read_datagram d in
    by_outcome x.number (datagram_octets x) (made_of _ x.number _ _ c.read.ensures c.map.ensures.cases (λ y p. p)) (datagram_few d) c.give_result.ensures
