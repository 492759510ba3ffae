-- `transactions::response::reply` meets its contract.
-- Assumes nothing.
use mathlib.Core.Path.{sym, ◌∙◌}
use Rattle.transactions.specs.Flags.{flagged}
use Rattle.transactions.proofs.Responding.{reply_complete, reply_none, reply_some}
use Rattle.transactions.proofs.response.reply.Goals as goal

pub returns-then-phase-eq2 : goal.returns-then-phase-eq2
returns-then-phase-eq2 c = let a = c.args in reply_complete a.phase a.t (flagged a.flags.octets) c.if-phase-eq2.true

pub returns-then-none_below : goal.returns-then-none_below
returns-then-none_below c =
    let a = c.args in
    reply_none a.phase a.t (flagged a.flags.octets) c.if-phase-eq2.false (sym c.none_below.ensures ∙ c.if-none_below.true)

pub returns : goal.returns
returns c =
    let a = c.args in
    reply_some a.phase a.t (flagged a.flags.octets) c.if-phase-eq2.false (sym c.none_below.ensures ∙ c.if-none_below.false)
