-- `messages::response::read` meets its contract.
-- Assumes nothing.
use mathlib.Core.Path.{sym, ap, ◌∙◌}
use Rattle.std.proofs.lemmas.Result.{err_from_is_err_and}
use Rattle.foundation.specs.Refusals.{refusal, outcome}
use Rattle.packets.specs.declared.header.Header.{Header}
use Rattle.messages.specs.Responses.{fields_given}
use Rattle.messages.specs.Parts.{response_by}
use Rattle.messages.proofs.ResponseParts.{read_refused, read_by}
use Rattle.messages.proofs.response.read.Goals as goal

pub returns-in_err-c : goal.returns-in_err-c
returns-in_err-c c =
    let p = err_from_is_err_and c.from_residual.result c.from_residual.ensures.1 in
    let a = c.args in
    rw (p.1, p.2) (read_refused a.header.now a.block.now _ (sym c.read.ensures ∙ c.in_err-c.was))

pub returns-in-Response : goal.returns-in-Response
unfolding response_by
returns-in-Response c =
    let a = c.args in
    let e = read_by a.header.now a.block.now _ (sym c.read.ensures ∙ c.in_ok-c.was) in
    c.read_beside.ensures ∙ ap fields_given (ap (λ (h : Header). response_by h a.block.now) (sym c.in-Response.is) ∙ e)

pub returns-in-Unconfirmed : goal.returns-in-Unconfirmed
unfolding fields_given outcome refusal response_by
returns-in-Unconfirmed c =
    let a = c.args in
    let e = read_by a.header.now a.block.now _ (sym c.read.ensures ∙ c.in_ok-c.was) in
    ap fields_given (ap (λ (h : Header). response_by h a.block.now) (sym c.in-Unconfirmed.is) ∙ e)

pub returns-in-Confirmed : goal.returns-in-Confirmed
unfolding fields_given outcome refusal response_by
returns-in-Confirmed c =
    let a = c.args in
    let e = read_by a.header.now a.block.now _ (sym c.read.ensures ∙ c.in_ok-c.was) in
    ap fields_given (ap (λ (h : Header). response_by h a.block.now) (sym c.in-Confirmed.is) ∙ e)
