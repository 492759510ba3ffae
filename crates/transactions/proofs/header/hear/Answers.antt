-- `transactions::header::hear` meets its contract.
-- Assumes nothing.
use mathlib.Core.Path.{sym, ap, ◌∙◌}
use Rattle.std.specs.Prelude.{Ok}
use Rattle.std.proofs.lemmas.Result.{err_from_is_err_and}
use Rattle.foundation.specs.Refusals.{refusal}
use Rattle.transactions.specs.Transactions.{heard_given}
use Rattle.transactions.proofs.Hearing.{read-refused, response-refused, unconfirmed-refused, confirmed_is}
use Rattle.transactions.proofs.header.hear.Goals as goal

pub returns-in_err-read : goal.returns-in_err-read
returns-in_err-read c =
    let p = err_from_is_err_and c.from_residual.result c.from_residual.ensures.1 in
    let a = c.args in
    rw (p.1, p.2) (read-refused a.own a.octets.now _ (sym c.read.ensures ∙ c.in_err-read.was))

pub returns-in-Response : goal.returns-in-Response
unfolding heard_given refusal
returns-in-Response c =
    let a = c.args in
    ap heard_given (response-refused a.own a.octets.now _ _ _ _ (sym c.read.ensures ∙ c.in_ok-read.was ∙ ap Ok c.in-Response.is))

pub returns-in-Unconfirmed : goal.returns-in-Unconfirmed
unfolding heard_given refusal
returns-in-Unconfirmed c =
    let a = c.args in
    ap heard_given (unconfirmed-refused a.own a.octets.now _ _ (sym c.read.ensures ∙ c.in_ok-read.was ∙ ap Ok c.in-Unconfirmed.is))

pub returns-in-Confirmed : goal.returns-in-Confirmed
returns-in-Confirmed c =
    let a = c.args in
    c.confirmed.ensures ∙ ap heard_given (confirmed_is a.own a.octets.now _ _ _ _ (sym c.read.ensures ∙ c.in_ok-read.was ∙ ap Ok c.in-Confirmed.is))
