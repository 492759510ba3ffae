-- Demand 3, and what a reader wants beside it.
-- Assumes nothing.
use Rattle.std.specs.Prelude.{◌≡◌, Bool, true, false, List, [], ◌∷◌, ◌++◌, ℕ, zero, suc, ◌-◌, ◌^◌, ◌≤◌, ◌<◌, length, get_or, replicate}
use Rattle.addresses.specs.declared.RadioAddress.{RadioAddress}
use Rattle.messages.specs.Messages.{most_octets, blocks_of, write_message_block, full_header}
use Rattle.messages.specs.MessageClaims.{Within}
use Rattle.messages.specs.declared.message.Delivery.{Delivery}
use Rattle.transactions.specs.Answers.{Said, refused, opened, repeat, stored, bad, message, response}
use Rattle.receiver_state.specs.Receiver.{block_at, store_size, fresh_receiver, held}
use Rattle.stored.specs.Claims.{Savable}
use Rattle.history.specs.History.{Event, header, block, ended, History, nothing, holds, held_data, history_from, said_from}
use Rattle.history.specs.Run.{Action, event, restart, State, after_event, answer_to, answers, left, events}

abbrev pub Octets : List ℕ → Type 0
Octets os = (i : ℕ) → get_or os i 0 < 256

-- every list of actions: events are of octets, and a restart's store has 630
abbrev pub Possible : List Action → Type 0
Possible [] = Unit
Possible (event (header h) ∷ rest) = Octets h × Possible rest
Possible (event (block b) ∷ rest) = Octets b × Possible rest
Possible (event ended ∷ rest) = Possible rest
Possible (restart s0 s1 store ∷ rest) = (length store ≡ store_size) × Possible rest

-- a fresh receiver over a store
abbrev pub fresh_state : RadioAddress → List ℕ → State
fresh_state own store = record { receiver = fresh_receiver own; store = store }

-- transaction and phase are the history's, the flags name exactly the held serials, and the store has each held block's octets
pub record Agrees (own : RadioAddress) (s : State) (p : History) : Type 0 where
  pub address : s.receiver.own ≡ own
  pub phase : s.receiver.phase ≡ p.phase
  pub transaction : s.receiver.transaction ≡ p.transaction
  pub flags : (n : ℕ) → held s.receiver n ≡ holds p.kept n
  pub octets : (n : ℕ) → holds p.kept n ≡ true → block_at s.store n ≡ held_data p.kept n

-- the claim over a list of actions, from a fresh receiver and any store
pub record Demand3 (own : RadioAddress) (store : List ℕ) (actions : List Action) : Type 0 where
  -- answers, responses and delivered octets are the history rule's over the events
  pub answers_are : answers (fresh_state own store) actions ≡ said_from own nothing (events actions)
  -- and so is what is left
  pub left_is : Agrees own (left (fresh_state own store) actions) (history_from own nothing (events actions))

-- a message is handed on at most once between two openings; `done` says that none can be before the next opening
abbrev pub Once : Bool → List Said → Type 0
Once done [] = Unit
Once done (opened ∷ rest) = Once false rest
Once true (message m ∷ rest) = ⊥
Once false (message m ∷ rest) = Once true rest
Once done (refused n ∷ rest) = Once done rest
Once done (repeat ∷ rest) = Once done rest
Once done (stored ∷ rest) = Once done rest
Once done (bad ∷ rest) = Once done rest
Once done (response h d ∷ rest) = Once done rest

-- the events of a message as it is written, given whole and in order: the header, then blocks n, n + 1, .. of them, k in all
unfoldable pub block_events : List ℕ → ℕ → ℕ → List Event
block_events m n zero = []
block_events m n (suc k) = block (write_message_block m n).octets ∷ block_events m (suc n) k

unfoldable pub sending : List ℕ → Delivery → List Event
sending m d = header (full_header (length m) d).octets ∷ block_events m 0 (blocks_of (length m))

-- a message that is written is handed on as that message by a fresh receiver of its destination, wherever restarts stand between the events
abbrev pub Delivered : List ℕ → Delivery → Type 0
Delivered m d =
    (store : List ℕ) (actions : List Action) → length m ≤ most_octets → Within d → length store ≡ store_size → Possible actions
    → events actions ≡ sending m d
    → answers (fresh_state d.destination store) actions ≡ opened ∷ replicate (blocks_of (length m) - 1) stored ++ message m ∷ []

pub record HistoryClaims : Type 0 where
  -- demand 3, for every own address, every initial store and every list
  pub demand3 : (own : RadioAddress) (store : List ℕ) (actions : List Action) → own.0 < 2 ^ 24 → length store ≡ store_size → Possible actions
      → Demand3 own store actions
  -- a message is handed on only after an opening, and at most once before the next
  pub once : (own : RadioAddress) (store : List ℕ) (actions : List Action) → own.0 < 2 ^ 24 → length store ≡ store_size → Possible actions
      → Once true (answers (fresh_state own store) actions)
  -- a refused event changes nothing, whatever the receiver and the store are
  pub refused_changes_nothing : (s : State) (e : Event) (n : ℕ) → answer_to s e ≡ refused n → after_event s e ≡ s
  -- what is written is handed on
  pub delivered : (m : List ℕ) (d : Delivery) → Delivered m d
  -- every receiver that a run leaves can be saved and is restored (Savable is what saving and restoring ask for)
  pub savable : (own : RadioAddress) (store : List ℕ) (actions : List Action) → own.0 < 2 ^ 24 → length store ≡ store_size → Possible actions
      → Savable (left (fresh_state own store) actions).receiver (left (fresh_state own store) actions).store
