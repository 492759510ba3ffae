-- `captures::start` meets its contract.
-- Assumes nothing.
use mathlib.Core.Path.{ap, ap₂, ◌∙◌}
use Rattle.receiver_state.specs.Receiver.{fresh_receiver}
use Rattle.receiver_state.specs.declared.Receiver.{Receiver}
use Rattle.receiver_state.proofs.Fresh.{fresh_at}
use Rattle.counting.specs.declared.Counts.{Counts}
use Rattle.captures.specs.Captures.{started}
use Rattle.captures.proofs.start.Goals as goal

pub returns : goal.returns
unfolding started
returns c =
    ap₂ (λ (r : Receiver) (n : Counts). record { receiver = r; counts = n })
    (c.idle.ensures ∙ ap fresh_receiver c.address_at.ensures ∙ fresh_at c.args.own.now 0 (λ i. (c.type_inv.own i).fits))
    c.none.ensures
