-- `messages::response::write` meets its contract.
-- Assumes nothing.
-- what is given, and that it reads back
use mathlib.Core.Path.{sym, ap, subst, ◌∙◌}
use borrow.Author.Rules.{rules}
use Rattle.std.proofs.lemmas.Result.{err_from_is_err_and}
use Rattle.packets.specs.declared.header.Header.{Header}
use Rattle.packets.specs.Headers.{write_header, header_octets_given}
use Rattle.messages.specs.Responses.{ResponseWritten}
use Rattle.messages.specs.ResponseClaims.{ResponseReadsBack}
use Rattle.messages.proofs.ResponseClaims.{responses}
use Rattle.messages.proofs.ResponseParts.{write_refused, stands_for, write_done}
use Rattle.messages.proofs.response.write.Goals as goal

pub returns-in_err-header : goal.returns-in_err-header
returns-in_err-header c =
    let p = err_from_is_err_and c.from_residual.result c.from_residual.ensures.1 in
    let a = c.args in
    let e = sym (c.write.ensures.0 ∙ ap (λ (h : Header). header_octets_given (write_header h)) c.header_of.ensures) ∙ c.in_err-header.was in
    rw (p.1, p.2) (write_refused a.reply a.d a.flags _ e, responses.reads_back a.reply a.d a.flags (search (rules, c.well_formed)), tt)

pub returns : goal.returns
returns c =
    let a = c.args in
    let e = sym (c.write.ensures.0 ∙ ap (λ (h : Header). header_octets_given (write_header h)) c.header_of.ensures) ∙ c.in_ok-header.was in
    let b = c.block_of-block.ensures in
    let is = stands_for a.reply a.d a.flags _ _ e b in
    let back = responses.reads_back a.reply a.d a.flags (search (rules, c.well_formed)) in
    (write_done a.reply a.d a.flags _ _ e b, back, subst (λ (w : ResponseWritten). ResponseReadsBack a.reply a.d a.flags w) (sym is) back)
