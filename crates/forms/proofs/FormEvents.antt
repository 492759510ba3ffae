-- An event on a form: the order of its checks, and what each leaves.
-- Assumes nothing.
use mathlib.Core.Path.{◌≡◌, refl, sym, ap, subst, ◌∙◌}
use mathlib.Core.Bool.{true, false, not}
use mathlib.Core.List.{List, [], ◌∷◌}
use mathlib.Core.Logic.{◌≢◌}
use Prim.Native.Nat.{ℕ, ◌*◌}
use native.Mathlib.Omega.{arith}
use native.Mathlib.Decide.{ℕ_discrete}
use lib.Dec.{eqb, lit<}
use lib.ListN.{length, get_or, replicate, length-replicate}
use borrow.Author.Tests.{eq-eqb, ne_eqb}
use Rattle.std.specs.Prelude.{Result, Ok, Err}
use Rattle.foundation.specs.Order.{first_failed, all}
use Rattle.foundation.specs.Refusals.{outcome, refusal}
use Rattle.foundation.specs.declared.refusal.Refusal.{Refusal}
use Rattle.foundation.specs.declared.refusal.Refusal.TheVariants.{Size}
use Rattle.foundation.proofs.Refusals.{ok_zero, err_number, err_any}
use Rattle.forms.proofs.Refusals.{given_size}
use Rattle.bursts.specs.Bursts.{known}
use Rattle.bursts.specs.declared.burst.Kind.{Kind}
use Rattle.bursts.specs.declared.burst.Kind.TheVariants.{Header, Block, Other}
use Rattle.reception.specs.Reception.{arrival_of, arrival_given}
use Rattle.reception.specs.declared.Arrival.{Arrival}
use Rattle.reception.proofs.Claims.{brings}
use Rattle.reception.proofs.Arriving.{untaken-number, taken-number, brought, no_kind}
use Rattle.transactions.specs.Answers.{refused, number_of}
use Rattle.foundation.proofs.Order.{itself}
use Rattle.foundation.proofs.Tests.{never}
use Rattle.receiver_state.specs.declared.Receiver.{Receiver}
use Rattle.receiver_state.specs.Receiver.{store_size}
use Rattle.stored.specs.Stored.{stored_block, save_number, after_save}
use Rattle.stored.specs.Claims.{Savable}
use Rattle.history.specs.History.{Event, header, block, ended}
use Rattle.history.specs.Run.{event, State, answer_to, saved_form}
use Rattle.history.specs.Claims.{Octets}
use Rattle.history.proofs.Demand3 as demand3
use Rattle.logs.specs.Log.{Record, act, none, record_of, line_of, after_record, line_in, line_size, state_of}
use Rattle.logs.proofs.OneRecord.{form_of}
use Rattle.forms.specs.Forms.{state_in, form_number, line_number, Asked, an_event, a_datagram, number_before, carried_by, record_asked, line_asked, state_asked, event_number, form_after, line_after}
use Rattle.forms.specs.Parts.{AnEvent, Answered, ActsOn, ActsAs, size_number, kind_number}
use Rattle.forms.proofs.Answers.{line_refused, line_taken, numbered, refused-numbered}
use Rattle.forms.proofs.HeldHistory.{savable-after}

-- ---- records that are events

pub record Happens (r : Record) : Type 0 where
  pub what : Event
  pub is : r ≡ act (event what)
  pub given : demand3.Given what

end_is : (os : List ℕ) → length os ≡ 0 → record_of 2 os ≡ act (event ended)
unfolding record_of all
end_is os e = rw (eq-eqb (length os) 0 e) refl

block_is : (os : List ℕ) → record_of 1 os ≡ act (event (block os))
unfolding record_of
block_is os = refl

header_is : (os : List ℕ) → record_of 0 os ≡ act (event (header os))
unfolding record_of
header_is os = refl

pub happens : (kind : ℕ) (os : List ℕ) → AnEvent kind os → Octets os → Happens (record_of kind os)
happens kind os (few, empty) small = go (ℕ_discrete kind 0) (ℕ_discrete kind 1)
  where
    go : Dec (kind ≡ 0) → Dec (kind ≡ 1) → Happens (record_of kind os)
    go (yes e) d = record { what = header os; is = rw e (header_is os); given = small }
    go (no n) (yes e) = record { what = block os; is = rw e (block_is os); given = small }
    go (no n) (no m) =
        let two : kind ≡ 2 = omega arith in record { what = ended; is = rw two (end_is os (empty two)); given = tt }

-- ---- the answer

pub length-blank : length (replicate {A = ℕ} line_size 0) ≡ line_size
length-blank = length-replicate {A = ℕ} line_size 0

-- `out` is the line of the answer
module _ (s : State) (s0 s1 : ℕ) (form line out : List ℕ) where
  code : {l : List ℕ} → out ≡ l → get_or l 0 0 ≡ get_or out 0 0
  code o = sym (ap (λ (l : List ℕ). get_or l 0 0) o)

  abbrev Refused : Record → Type 0
  Refused r = out ≡ line_in (line_of s r) → get_or out 0 0 ≡ 0 → Answered s r s0 s1 form line (outcome (get_or out 3 0) tt) form line

  event-refused : (e : Event) → Refused (act (event e))
  unfolding line_of line_number number_of
  event-refused e o z =
      let n : ℕ = get_or out 3 0 in
      let is : answer_to s e ≡ refused n = line_refused (answer_to s e) (code o ∙ z) ∙ ap (λ (l : List ℕ). refused (get_or l 3 0)) (sym o) in
      let some : eqb n 0 ≡ false = ne_eqb n 0 (refused-numbered (answer_to s e) n (numbered s e) is) in
      let k : number_of (answer_to s e) ≡ n = ap number_of is in
      (rw k, rw (k, some), rw (k, some))

  pub acted_refused : (r : Record) → Happens r → Refused r
  acted_refused r h = subst Refused (sym h.is) (event-refused h.what)

  abbrev Taken : Record → Type 0
  Taken r = out ≡ line_in (line_of s r) → get_or out 0 0 ≢ 0 → Answered s r s0 s1 form line (Ok tt) (saved_form (after_record s r) s0 s1) out

  event-taken : (e : Event) → Taken (act (event e))
  unfolding line_of line_number outcome
  event-taken e o z = let k : number_of (answer_to s e) ≡ 0 = line_taken (answer_to s e) (λ y. z (sym (code o) ∙ y)) in (rw k, rw k, o ∙ rw k)

  pub acted_taken : (r : Record) → Happens r → Taken r
  acted_taken r h = subst Taken (sym h.is) (event-taken h.what)

-- what is saved after an event
module _ (rx : Receiver) (store : List ℕ) (m : Savable rx store) (small : Octets rx.flags.octets) where
  abbrev SavableAfter : Record → Type 0
  SavableAfter r = Savable (after_record (state_of rx store) r).receiver (after_record (state_of rx store) r).store

  event-savable : (e : Event) → demand3.Given e → SavableAfter (act (event e))
  unfolding after_record
  event-savable e o = savable-after rx store m small e o

  pub saved_number : (r : Record) → Happens r → (form : List ℕ) → length form ≡ 2 * stored_block → (next : Receiver) (left : List ℕ)
      → next ≡ (after_record (state_of rx store) r).receiver → left ≡ (after_record (state_of rx store) r).store → save_number next left form ≡ 0
  unfolding save_number first_failed
  saved_number r h form size next left en el =
      let v : SavableAfter r = subst SavableAfter (sym h.is) (event-savable h.what h.given) in
      rw (en, el, v.good, eq-eqb (length (after_record (state_of rx store) r).store) store_size v.room, eq-eqb (length form) (2 * stored_block) size)

  pub saved_after : (r : Record) → Happens r → (s0 s1 : ℕ) (form : List ℕ) → length form ≡ 2 * stored_block → (next : Receiver) (left : List ℕ)
      → next ≡ (after_record (state_of rx store) r).receiver → left ≡ (after_record (state_of rx store) r).store
      → after_save next left s0 s1 form ≡ saved_form (after_record (state_of rx store) r) s0 s1
  unfolding saved_form
  saved_after r h s0 s1 form size next left en el =
      let v : SavableAfter r = subst SavableAfter (sym h.is) (event-savable h.what h.given) in
      rw (en, el) (form_of (after_record (state_of rx store) r).receiver v.good (after_record (state_of rx store) r).store s0 s1 form v.room size)

-- ---- the order of checks

unfoldable behind_sizes : List ℕ → Asked → ℕ
behind_sizes form a =
    first_failed ((not (eqb (number_before a) 1), 1) ∷ (eqb (form_number form) 0, form_number form) ∷ (eqb (number_before a) 0, number_before a)
    ∷ (eqb (line_number (line_asked form a)) 0, line_number (line_asked form a)) ∷ [])

module _ (form : List ℕ) (s0 s1 : ℕ) (line : List ℕ) (a : Asked) where
  abbrev pub Outcome : Result (Unit {0}) Refusal → List ℕ → List ℕ → Type 0
  Outcome = ActsOn a s0 s1 form line

  pub stays : (n : ℕ) → event_number form line a ≡ n → n ≢ 0 → (n ≡ event_number form line a) × (form ≡ form_after form s0 s1 line a) × (line ≡ line_after form line a)
  unfolding form_after line_after
  stays n e d = (sym e, rw (e, ne_eqb n 0 d), rw (e, ne_eqb n 0 d))

  no_change : (n : ℕ) → event_number form line a ≡ n → n ≢ 0 → Outcome (outcome n tt) form line
  no_change n e d = let (x, y, z) = stays n e d in (ap (λ (k : ℕ). outcome k tt) x, y, z)

  -- 1 is given for a size
  other_size : event_number form line a ≡ 1 → Outcome (Err Size) form line
  unfolding outcome refusal
  other_size e = no_change 1 e (λ z. omega arith)

  pub other_line : length line ≢ line_size → Outcome (Err Size) form line
  other_line d = other_size (unfold event_number first_failed in rw (ne_eqb (length line) line_size d))

  module _ (room : length line ≡ line_size) where
    pub other_form : length form ≢ 2 * stored_block → Outcome (Err Size) form line
    other_form d = other_size (unfold event_number first_failed in rw (eq-eqb (length line) line_size room, ne_eqb (length form) (2 * stored_block) d))

    module _ (size : length form ≡ 2 * stored_block) where
      -- the tests behind the sizes of the line and of the form
      behind_sizes_lem : event_number form line a ≡ behind_sizes form a
      unfolding event_number behind_sizes first_failed
      behind_sizes_lem = rw (eq-eqb (length line) line_size room, eq-eqb (length form) (2 * stored_block) size)

      by_size : number_before a ≡ 1 → event_number form line a ≡ 1
      by_size e = behind_sizes_lem ∙ unfold behind_sizes first_failed in rw (eq-eqb (number_before a) 1 e)

      by_number : form_number form ≡ 0 → number_before a ≢ 1 → number_before a ≢ 0 → event_number form line a ≡ number_before a
      by_number taken other d =
          behind_sizes_lem ∙ unfold behind_sizes first_failed in rw (ne_eqb (number_before a) 1 other, taken, ne_eqb (number_before a) 0 d)

      -- a number before any answer
      pub refused_outcome : form_number form ≡ 0 → (n : ℕ) → number_before a ≡ n → n ≢ 0
          → (n ≡ event_number form line a) × (form ≡ form_after form s0 s1 line a) × (line ≡ line_after form line a)
      refused_outcome taken n e d = stays n (go (ℕ_discrete n 1)) d
        where
          go : Dec (n ≡ 1) → event_number form line a ≡ n
          go (yes one) = by_size (e ∙ one) ∙ sym one
          go (no other) = by_number taken (λ z. other (sym e ∙ z)) (λ z. d (sym e ∙ z)) ∙ e

      module _ (found : Result (Unit {0}) Refusal) (is : found ≡ outcome (number_before a) tt) where
        pub size_found : found ≡ Err Size → Outcome (Err Size) form line
        size_found e = other_size (by_size (given_size (number_before a) (sym is ∙ e)))

        module _ (other : found ≢ Err Size) where
          not_one : number_before a ≢ 1
          unfolding outcome refusal
          not_one z = other (is ∙ rw z)

          pub form_refused : (r : Refusal) → (form_number form ≢ 0) × (Err r ≡ outcome {A = Unit {0}} (form_number form) tt) → Outcome (Err r) form line
          form_refused r (d, e) =
              rw e (no_change (form_number form) (behind_sizes_lem ∙ unfold behind_sizes first_failed in rw (ne_eqb (number_before a) 1 not_one, ne_eqb (form_number form) 0 d)) d)

          pub found_refused : form_number form ≡ 0 → (r : Refusal) → found ≡ Err r → Outcome (Err r) form line
          found_refused taken r e =
              let d = err_number {A = Unit {0}} (number_before a) tt r (sym is ∙ e) in
              rw (sym e ∙ is) (no_change (number_before a) (by_number taken not_one d) d)

      -- nothing is refused before the answer
      module _ (taken : form_number form ≡ 0) (none : number_before a ≡ 0) where
        pub number-left : event_number form line a ≡ line_number (line_asked form a)
        number-left = behind_sizes_lem ∙ unfold behind_sizes first_failed in rw (none, taken) (itself (line_number (line_asked form a)))

        pub answer-left : (s : State) → s ≡ state_in form → (r : Record) → record_asked a ≡ r → (given : Result (Unit {0}) Refusal) (form' line' : List ℕ)
            → Answered s r s0 s1 form line given form' line' → Outcome given form' line'
        unfolding form_after line_after line_asked state_asked
        answer-left s is r same given form' line' h =
            let e : event_number form line a ≡ line_number (line_of (state_in form) (record_asked a)) = unfold line_asked in number-left in
            let b : Answered (state_in form) (record_asked a) s0 s1 form line given form' line' = rw (is, ← same) at h in
            rw e b

-- ---- events by their records

module _ (os form : List ℕ) (s0 s1 : ℕ) (line : List ℕ) (n : Result (Unit {0}) Refusal) (form' line' : List ℕ) where
  pub header_acts : (k : Result (Unit {0}) Refusal) → k ≡ outcome (size_number os) tt → ActsAs k 0 os s0 s1 form line n form' line'
      → ActsOn (an_event (header os)) s0 s1 form line n form' line'
  unfolding number_before record_asked
  header_acts k e g = g (an_event (header os)) e (sym (header_is os))

  pub block_acts : (k : Result (Unit {0}) Refusal) → k ≡ outcome (size_number os) tt → ActsAs k 1 os s0 s1 form line n form' line'
      → ActsOn (an_event (block os)) s0 s1 form line n form' line'
  unfolding number_before record_asked
  block_acts k e g = g (an_event (block os)) e (sym (block_is os))

module _ (form : List ℕ) (s0 s1 : ℕ) (line : List ℕ) (n : Result (Unit {0}) Refusal) (form' line' : List ℕ) where
  pub end_acts : ActsAs (Ok tt) 2 [] s0 s1 form line n form' line' → ActsOn (an_event ended) s0 s1 form line n form' line'
  unfolding number_before record_asked outcome
  end_acts g = g (an_event ended) refl (sym (end_is [] refl))

-- ---- a datagram

none_is : (os : List ℕ) → record_of 255 os ≡ none
unfolding record_of all
none_is os = refl

kind_is : (k : Kind) (os : List ℕ) → record_of (kind_number k) os ≡ carried_by k os
unfolding kind_number carried_by
kind_is Header os = header_is os
kind_is Block os = block_is os
kind_is Other os = none_is os

event-kind : (k : Kind) (os : List ℕ) → known k ≡ true → AnEvent (kind_number k) os
unfolding kind_number known
event-kind Header os e = (lit< tt, λ z. absurd (omega arith))
event-kind Block os e = (lit< tt, λ z. absurd (omega arith))
event-kind Other os e = never e refl

-- a datagram that brings x
module _ (d : List ℕ) (x : Arrival) (is : arrival_given (arrival_of d) ≡ Ok x) (k : ℕ) (e : k ≡ kind_number x.kind) where
  pub brought_number : ◌≡◌ {A = Result (Unit {0}) Refusal} (Ok tt) (outcome (number_before (a_datagram d)) tt)
  unfolding arrival_of number_before outcome
  brought_number = sym (ap (λ (n : ℕ). outcome {A = Unit {0}} n tt) (taken-number d x is))

  pub brought_record : record_asked (a_datagram d) ≡ record_of k x.octets
  unfolding record_asked
  brought_record = ap (λ (y : Arrival). carried_by y.kind y.octets) (brought d x is) ∙ rw (e, kind_is x.kind x.octets)

  pub brought_event : AnEvent k x.octets
  brought_event = rw e (event-kind x.kind x.octets (sym (ap (λ (y : Arrival). known y.kind) (brought d x is)) ∙ brings d (taken-number d x is)))

-- a datagram that is refused
module _ (d : List ℕ) (r : Refusal) (is : arrival_given (arrival_of d) ≡ Err r) where
  pub untaken_found : ◌≡◌ {A = Result (Unit {0}) Refusal} (Err r) (outcome (number_before (a_datagram d)) tt)
  unfolding arrival_of arrival_given number_before
  untaken_found = sym (err_any _ _ tt r is)

  pub untaken_none : ◌≡◌ {A = Result (Unit {0}) Refusal} (Err r) (Ok tt) → ⊥
  untaken_none o = let e = untaken_found in err_number _ tt r (sym e) (ok_zero _ tt tt (sym e ∙ o))

  pub untaken_record : record_asked (a_datagram d) ≡ record_of 255 []
  unfolding record_asked carried_by
  untaken_record = ap (λ (k : Kind). carried_by k (arrival_of d).octets) (no_kind d (untaken-number d r is).1) ∙ sym (none_is [])
