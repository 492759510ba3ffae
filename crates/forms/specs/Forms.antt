-- Events on the stored form: a receiver is restarted from its stored form, takes an event, and leaves its new stored form. A refusal changes
-- nothing.
-- Assumes nothing.
use Rattle.std.specs.Prelude.{cond, not, List, [], ◌∷◌, ℕ, ◌*◌, eqb, length, replicate}
use Rattle.addresses.specs.Octets.{address_at}
use Rattle.addresses.specs.declared.RadioAddress.{RadioAddress}
use Rattle.foundation.specs.Order.{first_failed}
use Rattle.bursts.specs.declared.burst.Kind.{Kind}
use Rattle.bursts.specs.declared.burst.Kind.TheVariants.{Header, Block, Other}
use Rattle.datagrams.specs.Datagrams.{datagram_number}
use Rattle.reception.specs.Reception.{arrival_of}
use Rattle.transactions.specs.Answers.{number_of}
use Rattle.receiver_state.specs.Receiver.{store_size, fresh_receiver, fresh_for}
use Rattle.stored.specs.Stored.{stored_block, saved, block0, block1, receiver_in, store_in, restore_number}
use Rattle.history.specs.History.{Event, header, block, ended}
use Rattle.history.specs.Run.{event, State, saved_form}
use Rattle.logs.specs.Log.{Record, act, none, Line, answer, restarted, line_of, after_record, line_in, line_size, state_of}

-- ---- a fresh form

-- the stored form of a fresh receiver, over a store of zeros
unfoldable pub fresh_form : RadioAddress → ℕ → ℕ → List ℕ
fresh_form own s0 s1 = saved (fresh_receiver own) (replicate store_size 0) s0 s1

-- 1 for lent octets of another size, 16 for an address over 24 bits
unfoldable pub fresh_number : RadioAddress → List ℕ → ℕ
fresh_number own form = first_failed ((eqb (length form) (2 * stored_block), 1) ∷ (eqb (fresh_for own).number 0, 16) ∷ [])

unfoldable pub after_fresh : RadioAddress → ℕ → ℕ → List ℕ → List ℕ
after_fresh own s0 s1 form = cond (eqb (fresh_number own form) 0) (fresh_form own s0 s1) form

-- ---- events

-- the receiver and the store of a stored form, and the number of a form that is none: 1, 17 or 18
unfoldable pub state_in : List ℕ → State
state_in form = state_of (receiver_in (block0 form)) (store_in (block0 form) (block1 form))

unfoldable pub form_number : List ℕ → ℕ
form_number form = restore_number (fresh_receiver (address_at form 5)) form (replicate store_size 0)

-- the number of an answer
unfoldable pub line_number : Line → ℕ
line_number (answer s) = number_of s
line_number (restarted form) = 0

-- what is asked of a form: that it takes an event, or a datagram
pub data Asked : Type 0 where
  an_event : Event → Asked
  a_datagram : List ℕ → Asked

-- the number that comes before any answer: 1 for a header or a block of another size, a datagram's own number, 0 for none
unfoldable pub number_before : Asked → ℕ
number_before (an_event (header h)) = cond (eqb (length h) 12) 0 1
number_before (an_event (block b)) = cond (eqb (length b) 12) 0 1
number_before (an_event ended) = 0
number_before (a_datagram d) = datagram_number d

-- a datagram is the event that it brings, a header or a block; one that is refused brings none
unfoldable pub carried_by : Kind → List ℕ → Record
carried_by Header os = act (event (header os))
carried_by Block os = act (event (block os))
carried_by Other os = none

unfoldable pub record_asked : Asked → Record
record_asked (an_event e) = act (event e)
record_asked (a_datagram d) = carried_by (arrival_of d).kind (arrival_of d).octets

-- what is answered, and the state after it
unfoldable pub line_asked : List ℕ → Asked → Line
line_asked form a = line_of (state_in form) (record_asked a)

unfoldable pub state_asked : List ℕ → Asked → State
state_asked form a = after_record (state_in form) (record_asked a)

-- the order of checks: 1 for every size, the line's, the form's and that of what is asked; then the form's 17 and 18; then a datagram's own
-- number, and the answer's
unfoldable pub event_number : List ℕ → List ℕ → Asked → ℕ
event_number form line a =
    first_failed ((eqb (length line) line_size, 1) ∷ (eqb (length form) (2 * stored_block), 1) ∷ (not (eqb (number_before a) 1), 1)
    ∷ (eqb (form_number form) 0, form_number form) ∷ (eqb (number_before a) 0, number_before a)
    ∷ (eqb (line_number (line_asked form a)) 0, line_number (line_asked form a)) ∷ [])

-- the form and the line after it
unfoldable pub form_after : List ℕ → ℕ → ℕ → List ℕ → Asked → List ℕ
form_after form s0 s1 line a = cond (eqb (event_number form line a) 0) (saved_form (state_asked form a) s0 s1) form

unfoldable pub line_after : List ℕ → List ℕ → Asked → List ℕ
line_after form line a = cond (eqb (event_number form line a) 0) (line_in (line_asked form a)) line
