-- `messages::response::flags_of` meets its contract.
-- Assumes nothing.
use mathlib.Core.Path.{◌∙◌}
use Rattle.messages.proofs.ResponseParts.{flags_are}
use Rattle.messages.proofs.response.flags_of.Goals as goal

pub returns : goal.returns
returns c = c.put.ensures ∙ flags_are c.args.block.now c.requires
