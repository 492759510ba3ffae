-- A part of a log: what `replay` ensures.
-- Assumes nothing.
use mathlib.Core.Path.{subst, ◌≡◌, refl, sym, ap, ap₂, ◌∙◌}
use mathlib.Core.Bool.{Bool, true}
use mathlib.Core.Logic.{◌≢◌}
use mathlib.Core.List.{List, [], ◌∷◌, ◌++◌, append_assoc}
use Prim.Native.Nat.{ℕ, ◌*◌, ◌/◌, ◌≤◌, ◌<◌}
use native.Mathlib.Omega.{arith}
use lib.ListN.{length, take, drop}
use borrow.Author.Tests.{eq-eqb, ne_eqb, le-leb, lt-leb}
use Rattle.foundation.specs.Order.{first_failed}
use Rattle.foundation.specs.Octets.{put}
use Rattle.texts.proofs.Writing.{put_front}
use Rattle.receiver_state.specs.Receiver.{store_size}
use Rattle.receiver_state.specs.declared.Receiver.{Receiver}
use Rattle.history.specs.Run.{State}
use Rattle.history.specs.Claims.{Octets}
use Rattle.logs.specs.Log.{Record, state_of}
use Rattle.replays.specs.Log.{records, octets_taken, records_of}
use Rattle.replays.specs.Text.{line_text, report_text, report_room}
use Rattle.replays.specs.Replay.{ReplayAnswer, replayed_given, line_given, left_by_record, lines_given, left_by_records, report_from, replay_number, records_answered, replayed, store_replayed, text_replayed}
use Rattle.replays.specs.Claims.{ReplayClaims}
use Rattle.replays.specs.declared.Replayed.{Replayed}
use Rattle.std.specs.Prelude.{Result, Ok, Err}
use Rattle.foundation.specs.Refusals.{outcome, refusal}
use Rattle.foundation.proofs.Refusals.{ok_same}
use Rattle.std.specs.Result.{IsOk}
use Rattle.foundation.specs.declared.refusal.Refusal.{Refusal}
use Rattle.foundation.specs.declared.refusal.Refusal.TheVariants.{Size}
use Rattle.replays.proofs.Records.{splits, some_taken}
use Rattle.replays.proofs.Rule.{given-all, as_the_rule}
use Rattle.replays.proofs.Runs.{text_of}

-- ---- the whole text

text_append : (s : State) (rs qs : List Record) → text_of s (rs ++ qs) ≡ text_of s rs ++ text_of (left_by_records s rs) qs
unfolding left_by_records report_text lines_given
text_append s [] qs = refl
text_append s (r ∷ rs) qs =
    ap (λ (x : List ℕ). line_text (line_given s r) ++ x) (text_append (left_by_record s r) rs qs)
    ∙ sym (append_assoc (line_text (line_given s r)) (text_of (left_by_record s r) rs) (text_of (left_by_records (left_by_record s r) rs) qs))

goes_on : (s : State) (last : Bool) (k : ℕ) (os more : List ℕ) → (last ≡ true → more ≡ [])
    → report_from s (os ++ more) ≡ text_of s (records last k os) ++ report_from (left_by_records s (records last k os)) (drop (octets_taken last k os) os ++ more)
unfolding report_from
goes_on s last k os more end =
    ap (text_of s) (splits last k os more end) ∙ text_append s (records last k os) (records_of (drop (octets_taken last k os) os ++ more))

-- ---- what is given

module _ (rx : Receiver) (store os : List ℕ) (last : Bool) (text : List ℕ) where
  abbrev pub Replays : Result Replayed Refusal → List ℕ → List ℕ → Type 0
  Replays out store' text' =
      (out ≡ replayed_given (replayed rx store os last text)) × (store' ≡ store_replayed rx store os last text) × (text' ≡ text_replayed rx store os last text)
      × ReplayClaims (state_of rx store) os last text (replayed rx store os last text) store' text'

  abbrev none_answered : ReplayAnswer
  none_answered = record { number = 1; receiver = rx; taken = 0; end = 0 }

  no_claims : ReplayClaims (state_of rx store) os last text none_answered store text
  no_claims = record { goes_on = λ z. absurd (omega (arith, z)); by_rule = λ z. absurd (omega (arith, z)); ends = omega arith; takes = omega arith; takes_on = λ z. absurd (omega (arith, z)) }

  refuses : replay_number store text ≡ 1 → Replays (Err Size) store text
  unfolding replayed replayed_given store_replayed text_replayed outcome refusal
  refuses e = rw e (refl, refl, refl, no_claims)

  pub other_store : length store ≢ store_size → Replays (Err Size) store text
  unfolding replay_number first_failed
  other_store h = refuses (rw (ne_eqb (length store) store_size h))

  module _ (room : length store ≡ store_size) where
    pub no_line-room : length text < report_room → Replays (Err Size) store text
    unfolding replay_number first_failed
    no_line-room h = refuses (rw (eq-eqb (length store) store_size room, lt-leb report_room (length text) h))

    module _ (line : report_room ≤ length text) where
      taken_on : replay_number store text ≡ 0
      unfolding replay_number first_failed
      taken_on = rw (eq-eqb (length store) store_size room, le-leb report_room (length text) line)

      pub taken-number : (replayed rx store os last text).number ≡ 0
      unfolding replayed
      taken-number = rw taken_on

      -- it is taken, and what is given tells what `replayed` does
      pub taken_ok : (r : Result Replayed Refusal) → r ≡ replayed_given (replayed rx store os last text) → IsOk r
      unfolding replayed_given outcome
      taken_ok r e = rw (e, taken-number)

      pub taken_as : (r : Replayed) → Ok r ≡ replayed_given (replayed rx store os last text)
          → ◌≡◌ {A = ReplayAnswer} (record { number = 0; receiver = r.receiver; taken = r.taken; end = r.end }) (replayed rx store os last text)
      unfolding replayed_given
      taken_as r e =
          let x = replayed rx store os last text in
          let same : r ≡ record { receiver = x.receiver; taken = x.taken; end = x.end } = sym (ok_same x.number _ r (sym e)) in
          λ i. record { number = sym taken-number i; receiver = (same i).receiver; taken = (same i).taken; end = (same i).end }

      pub ends_inside : (r : Replayed) → Ok r ≡ replayed_given (replayed rx store os last text) → (store' text' : List ℕ)
          → ReplayClaims (state_of rx store) os last text (replayed rx store os last text) store' text' → r.end ≤ length text
      ends_inside r e store' text' c = omega (arith, c.ends, ap (λ (x : ReplayAnswer). x.end) (taken_as r e))

      abbrev k : ℕ
      k = length text / report_room

      abbrev rs : List Record
      rs = records last k os

      abbrev s : State
      s = state_of rx store

      module _ (octets : Octets os) (rx' : Receiver) (store' : List ℕ) (taken end : ℕ) (text' : List ℕ) (left : state_of rx' store' ≡ left_by_records s rs)
          (ended : end ≡ length (text_of s rs)) (written : text' ≡ put text 0 (text_of s rs)) (few : end ≤ report_room * k) (et : taken ≡ octets_taken last k os) (inside : taken ≤ length os) where
        abbrev given : ReplayAnswer
        given = record { number = 0; receiver = rx'; taken = taken; end = end }

        ends : end ≤ length text
        ends = omega (arith, few)

        front : take end text' ≡ text_of s rs
        front = put_front _ text text' end (omega (arith, ended, ends)) ended written

        the_claims : ReplayClaims s os last text given store' text'
        unfolding records_answered
        the_claims = record {
          goes_on = λ z more none. goes_on s last k os more none
              ∙ ap₂ ◌++◌ (sym front) (ap₂ (λ (x : State) (n : ℕ). report_from x (drop n os ++ more)) (sym left) (sym et));
          by_rule = λ z own first past small size possible e.
              as_the_rule own first past rs small size possible (given-all last k os octets) s (state_of rx' store') e left;
          ends = ends;
          takes = inside;
          takes_on = λ z t e. some_taken last k os t (omega arith) (sym et ∙ e);
        }

        given_is : given ≡ replayed rx store os last text
        unfolding replayed records_answered
        given_is =
            rw taken_on (λ i. record { number = 0; receiver = (left i).receiver; taken = et i; end = ended i })

        pub replays : Replays (Ok (record { receiver = rx'; taken = taken; end = end })) store' text'
        unfolding replayed_given store_replayed text_replayed records_answered outcome
        replays = (
          ap replayed_given given_is,
          rw taken_on (ap (λ (x : State). x.store) left),
          rw taken_on written,
          subst (λ (r : ReplayAnswer). ReplayClaims s os last text r store' text') given_is the_claims,
        )
