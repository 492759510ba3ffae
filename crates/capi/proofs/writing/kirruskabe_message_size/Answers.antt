-- `capi::writing::kirruskabe_message_size` meets its contract.
-- Assumes nothing.
use Rattle.messages.specs.Messages.{size_of, size_given}
use Rattle.layouts.specs.Layouts.{size_octets}
use Rattle.layouts.proofs.Giving.{by_outcome}
use Rattle.capi.specs.Answers.{message_size}
use Rattle.capi.proofs.PacketNumbers.{size_few}
use Rattle.capi.proofs.Making.{made_of}
use Rattle.capi.proofs.writing.kirruskabe_message_size.Goals as goal

pub returns : goal.returns
unfolding message_size size_octets size_given
returns c =
    let n = c.args.octets in
    let w = size_of n in
    by_outcome w.number (size_octets w) (made_of _ w.number _ _ c.size_of.ensures c.map.ensures.cases (λ y p. p)) (size_few n) c.give_result.ensures
