-- What is asked of a form is to the history rule a refusal that changes nothing, or an event.
-- Assumes nothing.
use mathlib.Core.Path.{◌≡◌, refl, ◌∙◌}
use mathlib.Core.Bool.{true, false}
use mathlib.Core.List.{List, [], ◌∷◌}
use mathlib.Core.Logic.{◌≢◌}
use Prim.Native.Nat.{ℕ}
use native.Mathlib.Omega.{arith}
use lib.Dec.{eqb}
use lib.ListN.{length}
use borrow.Author.Tests.{eqb-true, eqb-false}
use Rattle.addresses.specs.declared.RadioAddress.{RadioAddress}
use Rattle.bursts.specs.Bursts.{known}
use Rattle.bursts.specs.declared.burst.Kind.{Kind}
use Rattle.bursts.specs.declared.burst.Kind.TheVariants.{Header, Block, Other}
use Rattle.datagrams.specs.Datagrams.{datagram_number}
use Rattle.foundation.specs.Order.{first_failed, all}
use Rattle.foundation.proofs.Tests.{either, never}
use Rattle.packets.specs.Headers.{header_tests}
use Rattle.packets.specs.Blocks.{block_tests}
use Rattle.transactions.specs.Transactions.{heard_tests, heard_number, taken_tests, taken_number}
use Rattle.transactions.specs.Answers.{refused}
use Rattle.history.specs.History.{Event, header, block, ended, History, opens, after_header, valid, after_block, after, header_said, kept_number, block_said, said_to}
use Rattle.history.specs.Run.{event}
use Rattle.history.specs.Claims.{Octets, Possible}
use Rattle.history.proofs.Demand3 as demand3
use Rattle.reception.specs.Reception.{arrival_of}
use Rattle.reception.specs.Rule.{said_to_carried, after_carried, said_to_datagram, rule_after}
use Rattle.reception.proofs.Claims.{brings}
use Rattle.reception.proofs.CarriedOctets.{carried_octets}
use Rattle.logs.specs.Log.{act}
use Rattle.forms.specs.Forms.{Asked, an_event, a_datagram, number_before, carried_by, record_asked}
use Rattle.forms.specs.Claims.{said_to_asked, after_asked, PossibleAsked}

module _ (own : RadioAddress) (p : History) where
  pub data Asking (a : Asked) : Type 0 where
    refused_before : (n : ℕ) → n ≢ 0 → number_before a ≡ n → said_to_asked own p a ≡ refused n → after_asked own p a ≡ p → Asking a
    happens_as : (e : Event) → demand3.Given e → number_before a ≡ 0 → record_asked a ≡ act (event e) → said_to_asked own p a ≡ said_to own p e
        → after_asked own p a ≡ after own p e → Asking a

  -- ---- events

  heard_size : (h : List ℕ) → eqb (length h) 12 ≡ false → heard_number own h ≡ 1
  unfolding heard_number heard_tests header_tests first_failed
  heard_size h t = rw t

  kept-size : (b : List ℕ) → eqb (length b) 12 ≡ false → kept_number p b ≡ 1
  unfolding kept_number taken_number taken_tests block_tests first_failed
  kept-size b t = rw t

  asking_header : (h : List ℕ) → Octets h → Asking (an_event (header h))
  unfolding number_before record_asked said_to_asked after_asked said_to after header_said after_header opens all
  asking_header h o =
      either (eqb (length h) 12) (λ t. happens_as (header h) o (rw t) refl refl refl)
      (λ t. refused_before 1 (λ z. omega arith) (rw t) (rw (heard_size h t)) (rw (heard_size h t)))

  asking_block : (b : List ℕ) → Octets b → Asking (an_event (block b))
  unfolding number_before record_asked said_to_asked after_asked said_to after block_said after_block valid all
  asking_block b o =
      either (eqb (length b) 12) (λ t. happens_as (block b) o (rw t) refl refl refl)
      (λ t. refused_before 1 (λ z. omega arith) (rw t) (rw (kept-size b t)) (rw t))

  asking_event : (e : Event) → Possible (event e ∷ []) → Asking (an_event e)
  unfolding number_before record_asked said_to_asked after_asked
  asking_event (header h) o = asking_header h o.0
  asking_event (block b) o = asking_block b o.0
  asking_event ended o = happens_as ended tt refl refl refl refl

  -- ---- datagrams

  -- what a datagram carries that is not refused
  data Carries (k : Kind) (os : List ℕ) : Type 0 where
    carries : (e : Event) → demand3.Given e → carried_by k os ≡ act (event e) → said_to_carried own p k os ≡ said_to own p e
        → after_carried own p k os ≡ after own p e → Carries k os

  carried : (k : Kind) (os : List ℕ) → known k ≡ true → Octets os → Carries k os
  unfolding known carried_by said_to_carried after_carried
  carried Header os e o = carries (header os) o refl refl refl
  carried Block os e o = carries (block os) o refl refl refl
  carried Other os e o = never e refl

  module _ (d : List ℕ) where
    said_carried : datagram_number d ≡ 0 → said_to_datagram own p d ≡ said_to_carried own p (arrival_of d).kind (arrival_of d).octets
    unfolding said_to_datagram
    said_carried z = rw z

    after_carried_lem : datagram_number d ≡ 0 → rule_after own p d ≡ after_carried own p (arrival_of d).kind (arrival_of d).octets
    unfolding rule_after
    after_carried_lem z = rw z

    asking_carried : datagram_number d ≡ 0 → Carries (arrival_of d).kind (arrival_of d).octets → Asking (a_datagram d)
    unfolding number_before record_asked said_to_asked after_asked
    asking_carried z (carries e o is same next) = happens_as e o z is (said_carried z ∙ same) (after_carried_lem z ∙ next)

    read : datagram_number d ≡ 0 → known (arrival_of d).kind ≡ true
    read z = brings d (unfold arrival_of in z)

    asking_datagram : Asking (a_datagram d)
    unfolding number_before said_to_asked after_asked said_to_datagram rule_after
    asking_datagram =
        either (eqb (datagram_number d) 0)
        (λ t. let z = eqb-true (datagram_number d) 0 t in
        asking_carried z (carried (arrival_of d).kind (arrival_of d).octets (read z) (carried_octets d)))
        (λ t. refused_before (datagram_number d) (eqb-false (datagram_number d) 0 t) refl (rw t) (rw t))

  pub asking : (a : Asked) → PossibleAsked a → Asking a
  asking (an_event e) o = asking_event e o
  asking (a_datagram d) o = asking_datagram d
