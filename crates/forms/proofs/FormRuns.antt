-- Over every list of events and datagrams on a form that starts fresh numbers and lines are the history rule's.
-- Assumes nothing.
use mathlib.Core.Path.{◌≡◌, refl, sym, ap, ap₂, subst, ◌∙◌}
use mathlib.Core.Bool.{cond}
use mathlib.Core.List.{List, [], ◌∷◌}
use mathlib.Core.Logic.{◌≢◌}
use Prim.Native.Nat.{ℕ, ◌*◌, ◌^◌, ◌<◌}
use native.Mathlib.Omega.{arith}
use lib.Dec.{eqb}
use lib.ListN.{length}
use lib.Seq.{get_or-take}
use borrow.Author.Tests.{ne_eqb, eqb-false}
use Rattle.addresses.specs.Octets.{address_at}
use Rattle.addresses.specs.declared.RadioAddress.{RadioAddress}
use Rattle.transactions.specs.Answers.{refused, number_of}
use Rattle.foundation.proofs.Tests.{either}
use Rattle.receiver_state.specs.Receiver.{fresh_receiver}
use Rattle.stored.specs.Stored.{stored_block, block0, receiver_in, restore_number, Restored, restored, after_restore}
use Rattle.stored.specs.Claims.{Restores}
use Rattle.stored.proofs.Claims.{claims}
use Rattle.stored.proofs.Numbers.{sizes}
use Rattle.history.specs.History.{Event, History, nothing, after, said_to}
use Rattle.history.specs.Run.{event, State, after_event, answer_to, saved_form, after_restart}
use Rattle.history.specs.Claims.{fresh_state}
use Rattle.history.proofs.Follows.{Follows, fresh_follows, can_be_saved}
use Rattle.history.proofs.Demand3.{event-step}
use Rattle.history.proofs.Demand3 as demand3
use Rattle.history.proofs.Refused.{refused_changes_nothing}
use Rattle.history.proofs.Restart.{restart_follows}
use Rattle.history.proofs.Steps.{Matches}
use Rattle.logs.specs.Log.{act, line_of, after_record, line_size}
use Rattle.forms.specs.Forms.{fresh_form, state_in, form_number, line_number, Asked, number_before, record_asked, line_asked, state_asked, event_number, form_after, line_after}
use Rattle.forms.specs.Claims.{Stamped, Told, told_on, said_to_asked, after_asked, tells_in, told_from, PossibleAsked, PossibleStamped, FormClaim}
use Rattle.forms.proofs.Answers.{only_refused}
use Rattle.forms.proofs.Asking.{Asking, refused_before, happens_as, asking}
use Rattle.forms.proofs.FormEvents.{refused_outcome, number-left}
use Rattle.forms.proofs.FormStates.{no_octets, length_none}

-- what is told on a form
abbrev on_form : List ℕ → List ℕ → Asked → Told
on_form form line a = record { number = event_number form line a; line = line_after form line a }

-- the address stands in the first block
address_in : (form : List ℕ) → address_at (block0 form) 5 ≡ address_at form 5
unfolding block0
address_in form =
    rw (get_or-take stored_block form 5 0 (omega arith), get_or-take stored_block form 6 0 (omega arith), get_or-take stored_block form 7 0 (omega arith))

module _ (own : RadioAddress) where
  -- a form that is taken, whose receiver follows a history
  record Keeps (form : List ℕ) (p : History) : Type 0 where
    taken : form_number form ≡ 0
    size : length form ≡ 2 * stored_block
    follows : Follows own (state_in form) p

  -- what is saved
  module _ (s : State) (p : History) (m : Follows own s p) (s0 s1 : ℕ) where
    abbrev form : List ℕ
    form = saved_form s s0 s1

    back : Restores s.receiver s.store s0 s1
    back = claims.restores s.receiver s.store s0 s1 (can_be_saved own s p m)

    restored_is : restored (fresh_receiver s.receiver.own) form no_octets ≡ record { number = 0; receiver = s.receiver }
    unfolding saved_form
    restored_is = back.receiver_back no_octets length_none

    no_number : restore_number (fresh_receiver s.receiver.own) form no_octets ≡ 0
    unfolding restored
    no_number = ap (λ (x : Restored). x.number) restored_is

    own_is : address_at form 5 ≡ s.receiver.own
    unfolding restored receiver_in
    own_is = sym (address_in form) ∙ rw no_number at (ap (λ (x : Restored). x.receiver.own) restored_is)

    restart_is : after_restart s s0 s1 no_octets ≡ state_in form
    unfolding after_restart state_in restored after_restore
    restart_is = rw no_number

    saved_keeps : Keeps form p
    unfolding form_number
    saved_keeps = record {
      taken = rw own_is no_number;
      size = (sizes (fresh_receiver s.receiver.own) form no_octets no_number).1;
      follows = subst (λ (x : State). Follows own x p) restart_is (restart_follows own s p m s0 s1 no_octets length_none);
    }

  -- what is told, and what is left
  module _ (form : List ℕ) (p : History) (m : Keeps form p) (s0 s1 : ℕ) (line : List ℕ) (room : length line ≡ line_size) where
    record Steps (a : Asked) : Type 0 where
      told : on_form form line a ≡ tells_in line (said_to_asked own p a)
      left : Keeps (form_after form s0 s1 line a) (after_asked own p a)

    -- a number before any answer
    stopped : (a : Asked) (n : ℕ) → n ≢ 0 → number_before a ≡ n → said_to_asked own p a ≡ refused n → after_asked own p a ≡ p → Steps a
    unfolding tells_in number_of
    stopped a n d e same next =
        let (x, y, z) = refused_outcome form s0 s1 line a room m.size m.taken n e d in
        record {
          told = rw (← x, ← z, same, ne_eqb n 0 d);
          left = rw (← y, next) m;
        }

    module _ (e : Event) (o : demand3.Given e) where
      abbrev next : State
      next = after_event (state_in form) e

      step : Matches own next (answer_to (state_in form) e) (after own p e) (said_to own p e)
      step = event-step own (state_in form) p m.follows e o

      -- the form after an event is the history's
      next_keeps : Keeps (cond (eqb (number_of (said_to own p e)) 0) (saved_form next s0 s1) form) (after own p e)
      next_keeps =
          let number : ℕ = number_of (said_to own p e) in
          either (eqb number 0) (λ t. rw t (saved_keeps next (after own p e) step.follows s0 s1))
          (λ t. let same = refused_changes_nothing (state_in form) e number (step.same ∙ only_refused _ (eqb-false number 0 t)) in
          rw t (record {
            taken = m.taken;
            size = m.size;
            follows = subst (λ (x : State). Follows own x (after own p e)) same step.follows;
          }))

      answered : (a : Asked) → number_before a ≡ 0 → record_asked a ≡ act (event e) → said_to_asked own p a ≡ said_to own p e
          → after_asked own p a ≡ after own p e → Steps a
      unfolding tells_in form_after line_after line_asked state_asked line_of after_record line_number
      answered a z is same after_is =
          let n : event_number form line a ≡ line_number (line_of (state_in form) (record_asked a)) = unfold line_asked in number-left form s0 s1 line a room m.size m.taken z in
          record {
            told = rw (n, is, same, step.same);
            left = rw (n, is, after_is, step.same) next_keeps;
          }

    steps : (a : Asked) → PossibleAsked a → Steps a
    steps a o = go (asking own p a o)
      where
        go : Asking own p a → Steps a
        go (refused_before n d e same next) = stopped a n d e same next
        go (happens_as e o z is same next) = answered e o a z is same next

  runs : (form : List ℕ) (p : History) (cs : List Stamped) → PossibleStamped cs → Keeps form p → told_on form cs ≡ told_from own p cs
  unfolding told_on told_from
  runs _ p [] o m = refl
  runs form p (c ∷ cs) (o, room, rest) m =
      let s = steps form p m c.s0 c.s1 c.line room c.asked o in
      ap₂ ◌∷◌ s.told (runs (form_after form c.s0 c.s1 c.line c.asked) (after_asked own p c.asked) cs rest s.left)

  pub form_claim : (s0 s1 : ℕ) → own.0 < 2 ^ 24 → FormClaim own s0 s1
  unfolding fresh_form saved_form
  form_claim s0 s1 small cs o =
      runs (saved_form (fresh_state own no_octets) s0 s1) nothing cs o
      (saved_keeps (fresh_state own no_octets) nothing (fresh_follows own no_octets small length_none) s0 s1)
