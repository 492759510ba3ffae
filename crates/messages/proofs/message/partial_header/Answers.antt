-- `messages::message::partial_header` meets its contract.
-- Assumes nothing.
use mathlib.Core.Path.{sym, ap, ◌∙◌}
use Rattle.std.specs.Prelude.{Err}
use Rattle.std.proofs.lemmas.Result.{err_from_is_err_and}
use Rattle.foundation.specs.Refusals.{refusal, outcome}
use Rattle.packets.specs.Headers.{header_octets_given}
use Rattle.messages.proofs.MessageParts.{too_long, refusal-16, short, partial_long, partial_none, partial_many, partial_is}
use Rattle.messages.proofs.message.partial_header.Goals as goal

pub returns-in_err-size : goal.returns-in_err-size
unfolding header_octets_given outcome
returns-in_err-size c =
    let p = err_from_is_err_and c.from_residual.result c.from_residual.ensures.1 in
    let a = c.args in
    let e = sym c.size_of.ensures ∙ c.in_err-size.was in
    rw (p.1, p.2) (ap Err (refusal-16 a.octets _ e) ∙ ap header_octets_given (partial_long a.octets a.d a.count (too_long a.octets _ e)))

pub returns-then-count-eq0 : goal.returns-then-count-eq0
unfolding header_octets_given outcome refusal
returns-then-count-eq0 c =
    let a = c.args in
    ap header_octets_given
    (partial_none a.octets a.d a.count (short a.octets c.in_ok-size.size (sym c.size_of.ensures ∙ c.in_ok-size.was)) c.if-count-eq0.true)

pub returns-then-size-count : goal.returns-then-size-count
unfolding header_octets_given outcome refusal
returns-then-size-count c =
    let a = c.args in
    ap header_octets_given
    (partial_many a.octets a.d c.in_ok-size.size (sym c.size_of.ensures ∙ c.in_ok-size.was) a.count c.if-count-eq0.false c.if-size-count.true)

pub returns : goal.returns
returns c =
    let a = c.args in
    c.attempt.ensures
    ∙ ap header_octets_given
    (partial_is a.octets a.d c.in_ok-size.size (sym c.size_of.ensures ∙ c.in_ok-size.was) a.count c.if-count-eq0.false c.if-size-count.false)
