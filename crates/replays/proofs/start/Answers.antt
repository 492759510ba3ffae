-- `replays::start` meets its contract.
-- Assumes nothing.
use mathlib.Core.Path.{ap, ◌∙◌}
use Rattle.receiver_state.specs.Receiver.{fresh_receiver}
use Rattle.receiver_state.proofs.Fresh.{fresh_at}
use Rattle.replays.proofs.start.Goals as goal

pub returns : goal.returns
returns c = c.idle.ensures ∙ ap fresh_receiver c.address_at.ensures ∙ fresh_at c.args.own.now 0 (λ i. (c.type_inv.own i).fits)
