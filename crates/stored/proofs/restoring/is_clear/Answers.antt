-- `stored::restoring::is_clear` meets its contract.
-- Assumes nothing.
use mathlib.Core.Path.{◌∙◌}
use Rattle.receiver_state.specs.Receiver.{store_size}
use Rattle.stored.proofs.StoreReading.{clear-same}
use Rattle.stored.proofs.restoring.is_clear.Goals as goal

pub returns : goal.returns
returns c =
    c.eq.ensures ∙ clear-same c.args.rx c.args.store.now store_size _ c.held_store.ensures c.told-store
