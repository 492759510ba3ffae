-- What a reader wants of datagrams at a receiver.
-- Assumes nothing.
use Rattle.std.specs.Prelude.{◌≡◌, List, ℕ, ◌≤◌}
use Rattle.datagrams.specs.Datagrams.{read_datagram}
use Rattle.receiver_state.specs.declared.Receiver.{Receiver}
use Rattle.receiver.specs.Events.{on_header, on_block}
use Rattle.reception.specs.Reception.{Refused, Received, with_answer, by_receiver, on_datagram}

-- what a datagram can be to a receiver that gives r and leaves store': refused with one of 1 to 7, and nothing changes; or exactly its
-- header; or exactly its block
pub data Arrives (rx : Receiver) (store d : List ℕ) (r : Received) (store' : List ℕ) : Type 0 where
  not_taken : (n : ℕ) → 1 ≤ n → n ≤ 7 → r ≡ with_answer rx (Refused n) → store' ≡ store → Arrives rx store d r store'
  a_header : (read_datagram d).number ≡ 0 → (read_datagram d).datatype ≡ 6 → r ≡ by_receiver (on_header rx (read_datagram d).info) → store' ≡ store
      → Arrives rx store d r store'
  a_block : (read_datagram d).number ≡ 0 → (read_datagram d).datatype ≡ 7 → r ≡ by_receiver (on_block rx store (read_datagram d).info).step
      → store' ≡ (on_block rx store (read_datagram d).info).store → Arrives rx store d r store'

pub record ReceptionClaims : Type 0 where
  pub datagram : (rx : Receiver) (store d : List ℕ) → Arrives rx store d (on_datagram rx store d).received (on_datagram rx store d).store
