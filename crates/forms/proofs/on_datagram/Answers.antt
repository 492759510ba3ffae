-- `forms::on_datagram` meets its contract.
-- Assumes nothing.
use mathlib.Core.Path.{sym, ◌∙◌}
use Rattle.forms.specs.Forms.{a_datagram}
use Rattle.forms.proofs.FormEvents.{brought_number, brought_record, brought_event, untaken_found, untaken_record, untaken_none}
use Rattle.forms.proofs.on_datagram.Goals as goal

pub on_record-requires : goal.on_record-requires
on_record-requires c = λ z. brought_event c.args.datagram.now _ (sym c.arrival_of.ensures ∙ c.in-Ok.is) _ c.record_kind.ensures

pub on_record-requires-in-Err : goal.on_record-requires-in-Err
on_record-requires-in-Err c = λ z. absurd (untaken_none c.args.datagram.now _ (sym c.arrival_of.ensures ∙ c.in-Err.is) z)

pub returns-in-Ok : goal.returns-in-Ok
returns-in-Ok c =
    let d = c.args.datagram.now in
    let is = sym c.arrival_of.ensures ∙ c.in-Ok.is in
    c.on_record.ensures (a_datagram d) (brought_number d _ is _ c.record_kind.ensures) (brought_record d _ is _ c.record_kind.ensures)

pub returns-in-Err : goal.returns-in-Err
returns-in-Err c =
    let d = c.args.datagram.now in
    let is = sym c.arrival_of.ensures ∙ c.in-Err.is in
    c.on_record-in-Err.ensures (a_datagram d) (untaken_found d _ is) (untaken_record d _ is)
