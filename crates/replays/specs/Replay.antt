-- The replay of a part of a log: records at a receiver, and a line of text for each.
-- Assumes nothing.
use Rattle.std.specs.Prelude.{Result, Bool, cond, List, [], ◌∷◌, ℕ, ◌/◌, eqb, leb, length}
use Rattle.foundation.specs.Octets.{put}
use Rattle.foundation.specs.Order.{first_failed}
use Rattle.foundation.specs.Refusals.{outcome}
use Rattle.foundation.specs.declared.refusal.Refusal.{Refusal}
use Rattle.transactions.specs.Answers.{refused}
use Rattle.receiver_state.specs.Receiver.{store_size, receiver_good}
use Rattle.receiver_state.specs.declared.Receiver.{Receiver}
use Rattle.history.specs.Run.{State}
use Rattle.logs.specs.Log.{Record, Line, answer, line_of, after_record, state_of}
use Rattle.replays.specs.Log.{records, octets_taken, records_of}
use Rattle.replays.specs.Text.{report_text, report_room}
use Rattle.replays.specs.declared.Replayed.{Replayed}

-- ---- the run

-- the line of a record, and what is left; 1 from a receiver that there can't be, which stays as it is
unfoldable pub line_given : State → Record → Line
line_given s r = cond (receiver_good s.receiver) (line_of s r) (answer (refused 1))

unfoldable pub left_by_record : State → Record → State
left_by_record s r = cond (receiver_good s.receiver) (after_record s r) s

-- the same over records in order
unfoldable pub lines_given : State → List Record → List Line
lines_given s [] = []
lines_given s (r ∷ rs) = line_given s r ∷ lines_given (left_by_record s r) rs

unfoldable pub left_by_records : State → List Record → State
left_by_records s [] = s
left_by_records s (r ∷ rs) = left_by_records (left_by_record s r) rs

-- the whole text of what is still to come
unfoldable pub report_from : State → List ℕ → List ℕ
report_from s os = report_text (lines_given s (records_of os))

-- ---- a part of a log

-- 1 for a store of another size, or a text without room for a line
unfoldable pub replay_number : List ℕ → List ℕ → ℕ
replay_number store text = first_failed ((eqb (length store) store_size, 1) ∷ (leb report_room (length text), 1) ∷ [])

-- which records are answered: those that have come, no more than there is room for
unfoldable pub records_answered : Bool → List ℕ → List ℕ → List Record
records_answered last os text = records last (length text / report_room) os

-- number 0, the receiver after the records, the octets that they took, and where the text ends; or the number of the refusal
pub record ReplayAnswer : Type 0 where
  pub number : ℕ
  pub receiver : Receiver
  pub taken : ℕ
  pub end : ℕ

unfoldable pub replayed_given : ReplayAnswer → Result Replayed Refusal
replayed_given r = outcome r.number (record { receiver = r.receiver; taken = r.taken; end = r.end })

-- the receiver, the store and the text after it; a refusal changes nothing
unfoldable pub replayed : Receiver → List ℕ → List ℕ → Bool → List ℕ → ReplayAnswer
replayed rx store os last text =
    let s = state_of rx store in
    let rs = records_answered last os text in
    cond (eqb (replay_number store text) 0)
    (record {
      number = 0;
      receiver = (left_by_records s rs).receiver;
      taken = octets_taken last (length text / report_room) os;
      end = length (report_text (lines_given s rs));
    })
    (record { number = replay_number store text; receiver = rx; taken = 0; end = 0 })

unfoldable pub store_replayed : Receiver → List ℕ → List ℕ → Bool → List ℕ → List ℕ
store_replayed rx store os last text =
    cond (eqb (replay_number store text) 0) (left_by_records (state_of rx store) (records_answered last os text)).store store

unfoldable pub text_replayed : Receiver → List ℕ → List ℕ → Bool → List ℕ → List ℕ
text_replayed rx store os last text =
    cond (eqb (replay_number store text) 0)
    (put text 0 (report_text (lines_given (state_of rx store) (records_answered last os text)))) text
