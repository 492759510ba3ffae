-- `messages::response::block_of` meets its contract.
-- Assumes nothing.
use mathlib.Core.Path.{sym, ap, ◌∙◌}
use Rattle.std.specs.Prelude.{Some}
use Rattle.messages.specs.Responses.{reply_code}
use Rattle.messages.specs.Parts.{block_given}
use Rattle.messages.specs.declared.response.Reply.{Reply}
use Rattle.messages.proofs.response.block_of.Goals as goal

pub returns-in-Ack : goal.returns-in-Ack
unfolding reply_code block_given
returns-in-Ack c = sym (ap (λ (r : Reply). block_given r c.args.flags) c.in-Ack.is)

pub returns-in-Nack : goal.returns-in-Nack
unfolding reply_code block_given
returns-in-Nack c = sym (ap (λ (r : Reply). block_given r c.args.flags) c.in-Nack.is)

pub returns-in-Sack : goal.returns-in-Sack
unfolding reply_code block_given
returns-in-Sack c = ap Some c.sack_data.ensures ∙ sym (ap (λ (r : Reply). block_given r c.args.flags) c.in-Sack.is)
