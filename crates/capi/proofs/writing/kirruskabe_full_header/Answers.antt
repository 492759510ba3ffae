-- `capi::writing::kirruskabe_full_header` meets its contract.
-- Assumes nothing.
use mathlib.Core.Path.{ap, ◌∙◌}
use Rattle.packets.specs.Headers.{header_octets_given}
use Rattle.messages.specs.Messages.{full_header}
use Rattle.messages.specs.declared.message.Delivery.{Delivery}
use Rattle.layouts.specs.Layouts.{delivery_of}
use Rattle.layouts.proofs.Giving.{by_outcome}
use Rattle.capi.specs.Answers.{header_before}
use Rattle.capi.proofs.PacketNumbers.{full_few}
use Rattle.capi.proofs.writing.kirruskabe_full_header.Goals as goal

pub returns : goal.returns
unfolding header_before header_octets_given
returns c =
    let a = c.args in
    let d = delivery_of a.sap a.ns a.destination a.source in
    let w = full_header a.octets d in
    by_outcome w.number w.octets (c.full_header.ensures ∙ ap (λ (x : Delivery). header_octets_given (full_header a.octets x)) c.delivery-d.ensures)
    (full_few a.octets d) c.give_result.ensures
