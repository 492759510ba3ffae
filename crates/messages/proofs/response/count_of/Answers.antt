-- `messages::response::count_of` meets its contract.
-- Assumes nothing.
use mathlib.Core.Path.{sym, ap}
use Rattle.messages.specs.Responses.{reply_code}
use Rattle.messages.specs.declared.response.Reply.{Reply}
use Rattle.messages.proofs.response.count_of.Goals as goal

pub returns-in-Ack : goal.returns-in-Ack
unfolding reply_code
returns-in-Ack c = sym (ap (λ (r : Reply). (reply_code r).2) c.in-Ack.is)

pub returns-in-Nack : goal.returns-in-Nack
unfolding reply_code
returns-in-Nack c = sym (ap (λ (r : Reply). (reply_code r).2) c.in-Nack.is)

pub returns-in-Sack : goal.returns-in-Sack
unfolding reply_code
returns-in-Sack c = sym (ap (λ (r : Reply). (reply_code r).2) c.in-Sack.is)
