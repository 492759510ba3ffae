-- `capi::reading::kirruskabe_read_response` meets its contract.
-- Assumes nothing.
use Rattle.messages.specs.Responses.{read_response, fields_given}
use Rattle.layouts.specs.Layouts.{response_octets}
use Rattle.layouts.proofs.Giving.{by_outcome}
use Rattle.capi.specs.Answers.{response_read}
use Rattle.capi.proofs.PacketNumbers.{response_read_few}
use Rattle.capi.proofs.Making.{made_of}
use Rattle.capi.proofs.reading.kirruskabe_read_response.Goals as goal

pub returns : goal.returns
unfolding response_read response_octets fields_given
returns c =
    let h = c.args.header.now in
    let b = c.args.block.now in
    let x = read_response h b in
    by_outcome x.number (response_octets x) (made_of _ x.number _ _ c.read.ensures c.map.ensures.cases (λ y p. p)) (response_read_few h b) c.give_result.ensures
