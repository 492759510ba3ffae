-- `capi::writing::kirruskabe_partial_header` meets its contract.
-- Assumes nothing.
use mathlib.Core.Path.{ap, ◌∙◌}
use Rattle.packets.specs.Headers.{header_octets_given}
use Rattle.messages.specs.Messages.{partial_header}
use Rattle.messages.specs.declared.message.Delivery.{Delivery}
use Rattle.layouts.specs.Layouts.{delivery_of}
use Rattle.layouts.proofs.Giving.{by_outcome}
use Rattle.capi.specs.Answers.{header_again}
use Rattle.capi.proofs.PacketNumbers.{partial_few}
use Rattle.capi.proofs.writing.kirruskabe_partial_header.Goals as goal

pub returns : goal.returns
unfolding header_again header_octets_given
returns c =
    let a = c.args in
    let d = delivery_of a.sap a.ns a.destination a.source in
    let w = partial_header a.octets d a.count in
    by_outcome w.number w.octets (c.partial_header.ensures ∙ ap (λ (x : Delivery). header_octets_given (partial_header a.octets x a.count)) c.delivery-d.ensures)
    (partial_few a.octets d a.count) c.give_result.ensures
