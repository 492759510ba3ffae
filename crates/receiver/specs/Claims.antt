-- What a reader wants of the receiver's events, each by itself.
-- Assumes nothing.
use Rattle.std.specs.Prelude.{◌≡◌, List, ℕ}
use Rattle.receiver_state.specs.declared.Receiver.{Receiver}
use Rattle.receiver.specs.Events.{Refused, Step, on_header, on_block}

-- a refused header changes nothing: rx before, r the step that it gives
abbrev pub HeaderRefused : Receiver → Step → Type 0
HeaderRefused rx r = (n : ℕ) → r.answer ≡ Refused n → r.receiver ≡ rx

-- nor does a refused block: rx and store before, r the step and store' the store that it gives
abbrev pub BlockRefused : Receiver → List ℕ → Step → List ℕ → Type 0
BlockRefused rx store r store' = (n : ℕ) → r.answer ≡ Refused n → (r.receiver ≡ rx) × (store' ≡ store)

pub record ReceiverClaims : Type 0 where
  pub header_refused : (rx : Receiver) (h : List ℕ) → HeaderRefused rx (on_header rx h)
  pub block_refused : (rx : Receiver) (store b : List ℕ) → BlockRefused rx store (on_block rx store b).step (on_block rx store b).store
