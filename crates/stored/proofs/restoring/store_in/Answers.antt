-- `stored::restoring::store_in` meets its contract.
-- Assumes nothing.
use Prim.Native.Nat.{ℕ}
use mathlib.Core.Path.{ap, ◌∙◌}
use mathlib.Core.List.{List}
use lib.ListN.{replicate, length-replicate}
use Rattle.receiver_state.specs.Receiver.{store_size}
use Rattle.foundation.specs.Octets.{put}
use Rattle.stored.specs.Stored.{first_part}
use Rattle.stored.proofs.StoreReading.{part1, store_is}
use Rattle.stored.proofs.restoring.store_in.Goals as goal

pub returns : goal.returns
returns c =
    let x = c.args in
    store_is x.a.now x.b.now c.told-a c.told-b (replicate store_size 0) _ (length-replicate {A = ℕ} store_size 0)
    (c.put-2.ensures ∙ ap (λ (l : List ℕ). put l first_part (part1 x.b.now)) c.put.ensures)
