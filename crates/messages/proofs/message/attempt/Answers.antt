-- `messages::message::attempt` meets its contract.
-- Assumes nothing.
use Rattle.messages.specs.Parts.{padded_header}
use Rattle.messages.proofs.message.attempt.Goals as goal

pub returns : goal.returns
unfolding padded_header
returns c = c.write.ensures.0
