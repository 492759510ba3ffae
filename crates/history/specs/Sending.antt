-- A message looped back: written, and given whole and in order to a fresh receiver of its destination.
-- Assumes nothing.
use Rattle.std.specs.Prelude.{◌≡◌, List, [], ◌∷◌, ◌≢◌, ℕ, eqb, length}
use Rattle.foundation.specs.Octets.{over}
use Rattle.foundation.specs.Order.{first_failed}
use Rattle.messages.specs.Messages.{laid_out, full_header}
use Rattle.messages.specs.declared.message.Delivery.{Delivery}
use Rattle.receiver_state.specs.Receiver.{store_size}
use Rattle.receiver.specs.Events.{Answer, Refused, Message}

-- 1 for a store of another size, 16 for a message that is too long or a field outside its width
unfoldable pub loop_number : List ℕ → Delivery → List ℕ → ℕ
loop_number m d store = first_failed ((eqb (length store) store_size, 1) ∷ (eqb (full_header (length m) d).number 0, 16) ∷ [])

-- the message is handed on; with its pad and its check it stands in front in the store, and what is behind stays. A refusal changes nothing
pub record LoopsBack (m : List ℕ) (d : Delivery) (store : List ℕ) (a : Answer) (store' : List ℕ) : Type 0 where
  pub handed_on_lem : loop_number m d store ≡ 0 → (a ≡ Message (length m)) × (store' ≡ over store 0 (laid_out m))
  pub refused : loop_number m d store ≢ 0 → (a ≡ Refused (loop_number m d store)) × (store' ≡ store)
