-- `receiver::event::on_end` meets its contract.
-- Assumes nothing.
use mathlib.Core.Path.{sym, ap, ◌∙◌}
use Rattle.foundation.specs.Refusals.{refusal, outcome}
use Rattle.messages.specs.Responses.{response_given}
use Rattle.receiver.proofs.Arriving.{end_not_good, end_good}
use Rattle.receiver.proofs.event.on_end.Goals as goal

pub returns-then-is_good : goal.returns-then-is_good
returns-then-is_good c = c.respond.ensures ∙ ap response_given (end_good c.args.rx (sym c.is_good.ensures ∙ c.if-is_good.true))

pub returns-else-is_good : goal.returns-else-is_good
unfolding response_given outcome refusal
returns-else-is_good c = ap response_given (end_not_good c.args.rx (sym c.is_good.ensures ∙ c.if-is_good.false))
