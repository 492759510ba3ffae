-- What a datagram is to one receiver, what it answers and leaves.
-- Assumes nothing.
use Rattle.std.specs.Prelude.{Result, Ok, Err, cond, List, [], ◌∷◌, ℕ, eqb, length}
use Rattle.foundation.specs.Order.{first_failed}
use Rattle.foundation.specs.Refusals.{refusal_number, outcome}
use Rattle.foundation.specs.declared.refusal.Refusal.{Refusal}
use Rattle.bursts.specs.Bursts.{kind_of}
use Rattle.bursts.specs.declared.burst.Kind.{Kind}
use Rattle.bursts.specs.declared.burst.Kind.TheVariants.{Header, Block, Other}
use Rattle.datagrams.specs.Datagrams.{datagram_number, read_datagram}
use Rattle.transactions.specs.Answers.{Said, refused}
use Rattle.receiver_state.specs.Receiver.{store_size, receiver_good}
use Rattle.receiver_state.specs.declared.Receiver.{Receiver}
use Rattle.receiver.specs.Events.{Step, step_told, on_header, on_block}
use Rattle.receiver.specs.Events as receiver
use Rattle.receiver.specs.declared.event.Step as steps
use Rattle.reception.specs.declared.Arrival.{Arrival}

-- what a datagram brings: the number of its refusal, 0 for none; the kind by its data type; the octets that it carries
pub record Brought : Type 0 where
  pub number : ℕ
  pub kind : Kind
  pub octets : List ℕ

unfoldable pub arrival_of : List ℕ → Brought
arrival_of d = record { number = datagram_number d; kind = kind_of (read_datagram d).datatype; octets = (read_datagram d).info }

-- what is given: kind and octets where the number is 0, else the refusal
unfoldable pub arrival_given : Brought → Result Arrival Refusal
arrival_given b = outcome b.number (record { kind = b.kind; octets = b.octets })

-- what is answered to a datagram: the number of a refusal before any receiver, or what the receiver of confirmed messages answers
pub data Answer : Type 0 where
  Refused : ℕ → Answer
  Confirmed : receiver.Answer → Answer

-- the receiver after a datagram, and the answer
pub record Received : Type 0 where
  pub receiver : Receiver
  pub answer : Answer

-- what is answered, in document 01's numbers and values
unfoldable pub said : Answer → List ℕ → Said
said (Refused n) store = refused n
said (Confirmed a) store = receiver.said a store

abbrev pub with_answer : Receiver → Answer → Received
with_answer rx a = record { receiver = rx; answer = a }

-- what the confirmed receiver's step is
unfoldable pub by_receiver : Step → Received
by_receiver s = with_answer s.receiver (Confirmed s.answer)

-- what is given says one of these: the receiver's step, or a refusal before any, which leaves the receiver as it was
abbrev pub received_told : Result steps.Step Refusal → Receiver → Received
received_told (Ok s) rx = by_receiver (step_told s)
received_told (Err r) rx = with_answer rx (Refused (refusal_number r))

-- what is received, and the store after it
pub record DatagramLeft : Type 0 where
  pub received : Received
  pub store : List ℕ

-- a header or a block goes to the confirmed receiver
unfoldable pub passed_on : Receiver → List ℕ → Kind → List ℕ → DatagramLeft
passed_on rx store Header os = record { received = by_receiver (on_header rx os); store = store }
passed_on rx store Block os = record { received = by_receiver (on_block rx store os).step; store = (on_block rx store os).store }
passed_on rx store Other os = record { received = with_answer rx (Refused 5); store = store }

-- the order of checks: the receiver, the store's size, then the datagram's numbers, 1 to 7
unfoldable pub arrived_number : Receiver → List ℕ → List ℕ → ℕ
arrived_number rx store d =
    first_failed ((receiver_good rx, 1) ∷ (eqb (length store) store_size, 1) ∷ (eqb (arrival_of d).number 0, (arrival_of d).number) ∷ [])

unfoldable pub on_datagram : Receiver → List ℕ → List ℕ → DatagramLeft
on_datagram rx store d =
    cond (eqb (arrived_number rx store d) 0) (passed_on rx store (arrival_of d).kind (arrival_of d).octets)
    (record { received = with_answer rx (Refused (arrived_number rx store d)); store = store })
