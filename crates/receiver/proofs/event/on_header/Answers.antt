-- `receiver::event::on_header` meets its contract.
-- Assumes nothing.
use mathlib.Core.Path.{sym, ◌∙◌}
use Rattle.foundation.specs.Refusals.{refusal_number}
use Rattle.receiver.proofs.Arriving.{header_not_good, header_heard, header_unheard}
use Rattle.receiver.proofs.Claims.{header_promise}
use Rattle.receiver.proofs.event.on_header.Goals as goal

pub returns-then-not-is_good : goal.returns-then-not-is_good
unfolding refusal_number
returns-then-not-is_good c =
    let a = c.args in
    header_promise a.rx a.header.now _ (c.refused.ensures ∙ header_not_good a.rx a.header.now (sym c.is_good.ensures ∙ c.if-not-is_good.true))

pub returns-in-Ok : goal.returns-in-Ok
returns-in-Ok c =
    let a = c.args in
    header_promise a.rx a.header.now _ (c.heard.ensures ∙ header_heard a.rx a.header.now (sym c.is_good.ensures ∙ c.if-not-is_good.false) _ (sym c.hear.ensures ∙ c.in-Ok.is))

pub returns-in-Err : goal.returns-in-Err
returns-in-Err c =
    let a = c.args in
    header_promise a.rx a.header.now _
    (c.refused-in-Err.ensures ∙ header_unheard a.rx a.header.now (sym c.is_good.ensures ∙ c.if-not-is_good.false) _ (sym c.hear.ensures ∙ c.in-Err.is))
