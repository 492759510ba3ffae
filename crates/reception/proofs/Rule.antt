-- A datagram at a receiver that follows a history: it is answered as the history rule says, and the receiver follows.
-- Assumes nothing.
use mathlib.Core.Path.{◌≡◌, refl}
use mathlib.Core.List.{List}
use Prim.Native.Nat.{ℕ}
use lib.Dec.{eqb}
use lib.ListN.{length}
use borrow.Author.Tests.{eq-eqb}
use Rattle.addresses.specs.declared.RadioAddress.{RadioAddress}
use Rattle.bursts.specs.declared.burst.Kind.{Kind}
use Rattle.bursts.specs.declared.burst.Kind.TheVariants.{Header, Block, Other}
use Rattle.datagrams.specs.Datagrams.{datagram_number}
use Rattle.foundation.specs.Order.{first_failed}
use Rattle.foundation.proofs.Order.{itself}
use Rattle.foundation.proofs.Tests.{either}
use Rattle.receiver_state.specs.Receiver.{store_size}
use Rattle.transactions.specs.Answers.{Said}
use Rattle.history.specs.History.{header, block, History}
use Rattle.history.specs.Run.{State, after_event, answer_to}
use Rattle.history.specs.Claims.{Octets}
use Rattle.history.proofs.Follows.{Follows, good}
use Rattle.history.proofs.Steps.{Matches}
use Rattle.history.proofs.Demand3.{event-step}
use Rattle.reception.specs.Reception.{DatagramLeft, arrival_of, said, by_receiver, passed_on, arrived_number, on_datagram}
use Rattle.reception.specs.Rule.{said_to_carried, after_carried, said_to_datagram, rule_after}
use Rattle.reception.proofs.CarriedOctets.{carried_octets}

-- what is left and what is answered
abbrev pub left_by : DatagramLeft → State
left_by l = record { receiver = l.received.receiver; store = l.store }

abbrev pub said_by : DatagramLeft → Said
said_by l = said l.received.answer l.store

module _ (own : RadioAddress) (s : State) (p : History) (m : Follows own s p) where
  abbrev Stepped : DatagramLeft → History → Said → Type 0
  Stepped l q answer = Matches own (left_by l) (said_by l) q answer

  carried_step : (k : Kind) (os : List ℕ) → Octets os
      → Stepped (passed_on s.receiver s.store k os) (after_carried own p k os) (said_to_carried own p k os)
  unfolding passed_on after_carried said_to_carried by_receiver said after_event answer_to
  carried_step Header os o = event-step own s p m (header os) o
  carried_step Block os o = event-step own s p m (block os) o
  carried_step Other os o = record { follows = m; same = refl }

  number_is : (d : List ℕ) → arrived_number s.receiver s.store d ≡ datagram_number d
  unfolding arrived_number arrival_of first_failed
  number_is d = rw (good own s p m, eq-eqb (length s.store) store_size m.room) (itself (datagram_number d))

  pub datagram-step : (d : List ℕ) → Stepped (on_datagram s.receiver s.store d) (rule_after own p d) (said_to_datagram own p d)
  unfolding on_datagram rule_after said_to_datagram said
  datagram-step d =
      rw (number_is d)
      (either (eqb (datagram_number d) 0) (λ t. rw t (carried_step (arrival_of d).kind (arrival_of d).octets (carried_octets d)))
      (λ t. rw t (record { follows = m; same = refl })))
