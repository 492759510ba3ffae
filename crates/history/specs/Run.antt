-- A run of the receiver over events and restarts.
-- Assumes nothing.
use Rattle.std.specs.Prelude.{List, [], ◌∷◌, ℕ}
use Rattle.transactions.specs.Answers.{Said, response_said}
use Rattle.receiver_state.specs.Receiver.{fresh_receiver}
use Rattle.receiver.specs.Events.{said, on_header, on_block, on_end}
use Rattle.receiver_state.specs.declared.Receiver.{Receiver}
use Rattle.stored.specs.Stored.{saved, restored, after_restore}
use Rattle.history.specs.History.{Event, header, block, ended}

-- an event; or a restart: the receiver is saved with a stamp of two octets, and a fresh one of its address is restored from that save into a
-- store of these contents. A refused restore leaves the fresh receiver and this store.
pub data Action : Type 0 where
  event : Event → Action
  restart : ℕ → ℕ → List ℕ → Action

-- the receiver and the store that an action leaves
pub record State : Type 0 where
  pub receiver : Receiver
  pub store : List ℕ

-- an event: what is left, and what is answered
unfoldable pub after_event : State → Event → State
after_event s (header h) = record { receiver = (on_header s.receiver h).receiver; store = s.store }
after_event s (block b) = record { receiver = (on_block s.receiver s.store b).step.receiver; store = (on_block s.receiver s.store b).store }
after_event s ended = s

unfoldable pub answer_to : State → Event → Said
answer_to s (header h) = said (on_header s.receiver h).answer s.store
answer_to s (block b) = said (on_block s.receiver s.store b).step.answer (on_block s.receiver s.store b).store
answer_to s ended = response_said (on_end s.receiver)

-- a restart
unfoldable pub saved_form : State → ℕ → ℕ → List ℕ
saved_form s s0 s1 = saved s.receiver s.store s0 s1

unfoldable pub after_restart : State → ℕ → ℕ → List ℕ → State
after_restart s s0 s1 store =
    let fresh = fresh_receiver s.receiver.own in
    record { receiver = (restored fresh (saved_form s s0 s1) store).receiver; store = after_restore fresh (saved_form s s0 s1) store }

-- the answers of a run, and what it leaves
unfoldable pub answers : State → List Action → List Said
answers s [] = []
answers s (event e ∷ rest) = answer_to s e ∷ answers (after_event s e) rest
answers s (restart s0 s1 store ∷ rest) = answers (after_restart s s0 s1 store) rest

unfoldable pub left : State → List Action → State
left s [] = s
left s (event e ∷ rest) = left (after_event s e) rest
left s (restart s0 s1 store ∷ rest) = left (after_restart s s0 s1 store) rest

-- the events of a list of actions
unfoldable pub events : List Action → List Event
events [] = []
events (event e ∷ rest) = e ∷ events rest
events (restart s0 s1 store ∷ rest) = events rest
