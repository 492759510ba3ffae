-- `messages::message::check_of` meets its contract.
-- Assumes nothing.
use mathlib.Core.Path.{ap, ◌∙◌}
use mathlib.Core.List.{List}
use Prim.Native.Nat.{ℕ}
use lib.ListN.{take}
use Rattle.checks.specs.Checks.{message_check, lowest_first}
use Rattle.messages.proofs.MessageParts.{stored}
use Rattle.messages.proofs.message.check_of.Goals as goal

pub returns : goal.returns
returns c =
    c.message_octets.ensures.0
    ∙ ap (λ (os : List ℕ). lowest_first (message_check os)) (ap (take c.args.end) c.put.ensures ∙ stored c.args.message.now c.args.end c.requires)
