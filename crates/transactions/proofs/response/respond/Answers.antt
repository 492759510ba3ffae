-- `transactions::response::respond` meets its contract.
-- Assumes nothing.
use mathlib.Core.Path.{refl, ap, ◌∙◌}
use Rattle.foundation.specs.Refusals.{refusal, outcome}
use Rattle.messages.specs.Responses.{response_given}
use Rattle.transactions.specs.Flags.{flagged}
use Rattle.transactions.proofs.Responding.{respond_none, respond_with}
use Rattle.transactions.proofs.response.respond.Goals as goal

pub returns-then-phase-eq0 : goal.returns-then-phase-eq0
unfolding response_given outcome refusal
returns-then-phase-eq0 c = let a = c.args in ap response_given (respond_none a.phase a.t (flagged a.flags.octets) a.own c.if-phase-eq0.true)

pub returns : goal.returns
returns c =
    let a = c.args in
    c.write.ensures.0
    ∙ ap response_given (respond_with a.phase a.t (flagged a.flags.octets) a.own _ _ _ c.if-phase-eq0.false c.reply.ensures c.sack_flags.ensures refl)
