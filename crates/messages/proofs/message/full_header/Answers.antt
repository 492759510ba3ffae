-- `messages::message::full_header` meets its contract.
-- Assumes nothing.
use mathlib.Core.Path.{sym, ap, ◌∙◌}
use Rattle.std.specs.Prelude.{Err}
use Rattle.std.proofs.lemmas.Result.{err_from_is_err_and}
use Rattle.foundation.specs.Refusals.{outcome}
use Rattle.packets.specs.Headers.{header_octets_given}
use Rattle.messages.proofs.MessageParts.{too_long, refusal-16, full-long, full_is}
use Rattle.messages.proofs.message.full_header.Goals as goal

pub returns-in_err-size : goal.returns-in_err-size
unfolding header_octets_given outcome
returns-in_err-size c =
    let p = err_from_is_err_and c.from_residual.result c.from_residual.ensures.1 in
    let a = c.args in
    let e = sym c.size_of.ensures ∙ c.in_err-size.was in
    rw (p.1, p.2) (ap Err (refusal-16 a.octets _ e) ∙ ap header_octets_given (full-long a.octets a.d (too_long a.octets _ e)))

pub returns : goal.returns
returns c =
    let a = c.args in
    c.attempt.ensures ∙ ap header_octets_given (full_is a.octets a.d c.in_ok-size.size (sym c.size_of.ensures ∙ c.in_ok-size.was))
