-- What private functions require and give: nothing that a reader has to believe.
-- Assumes nothing.
use Rattle.std.specs.Prelude.{Bool, true, cond, List, [], ◌∷◌, ℕ, ◌*◌, eqb, get_or, take}
use Rattle.addresses.specs.declared.RadioAddress.{RadioAddress}
use Rattle.foundation.specs.Order.{all, first_failed}
use Rattle.checks.specs.Checks.{header_good, message_good}
use Rattle.messages.specs.Messages.{block_size}
use Rattle.receiver_state.specs.Receiver.{store_size, receiver_good}
use Rattle.receiver_state.specs.declared.Receiver.{Receiver}
use Rattle.stored.specs.Stored.{zeros_at, zero_part, zeros_from, clear}

-- octets 0 and 1 of both blocks, and their stamps
unfoldable pub marked : List ℕ → List ℕ → Bool
marked a b =
    all (eqb (get_or a 0 0) 1 ∷ eqb (get_or a 1 0) 0 ∷ eqb (get_or b 0 0) 1 ∷ eqb (get_or b 1 0) 1 ∷ eqb (get_or a 2 0) (get_or b 2 0)
    ∷ eqb (get_or a 3 0) (get_or b 3 0) ∷ [])

-- a complete transaction has a good message check
unfoldable pub message_checked : Receiver → List ℕ → Bool
message_checked rx store = cond (eqb rx.phase 2) (message_good (take (block_size * rx.transaction.blocks) store)) true

-- every rule of the layout is kept
unfoldable pub layout_kept : List ℕ → List ℕ → Receiver → List ℕ → Bool
layout_kept a b rx store =
    all (marked a b ∷ receiver_good rx ∷ clear rx store store_size ∷ zeros_from b zeros_at zero_part ∷ message_checked rx store ∷ [])

-- the number of two blocks, and of the receiver and the store read in them
unfoldable pub blocks_number : RadioAddress → List ℕ → List ℕ → Receiver → List ℕ → ℕ
blocks_number own a b rx store =
    first_failed
    ((header_good 0 a, 17) ∷ (header_good 0 b, 17) ∷ (layout_kept a b rx store, 18) ∷ (eqb rx.own.0 own.0, 19) ∷ [])
