-- A record of a log, of a kind (0 header, 1 block, 2 end of attempt, 3 restart) and octets; what is answered to it, in a line of 1,027 octets.
-- Assumes nothing.
use Rattle.std.specs.Prelude.{Result, cond, List, [], ◌∷◌, ◌++◌, ℕ, ◌+◌, ◌*◌, ◌-◌, ◌/◌, ◌%◌, eqb, length, get_or, drop, replicate}
use Rattle.foundation.specs.Order.{first_failed, all}
use Rattle.foundation.specs.Refusals.{outcome}
use Rattle.foundation.specs.declared.refusal.Refusal.{Refusal}
use Rattle.transactions.specs.Answers.{Said, refused, opened, repeat, stored, bad, message, response}
use Rattle.receiver_state.specs.Receiver.{store_size, receiver_good}
use Rattle.receiver_state.specs.declared.Receiver.{Receiver}
use Rattle.stored.specs.Stored.{stored_block}
use Rattle.history.specs.History.{header, block, ended}
use Rattle.history.specs.Run.{Action, event, restart, State, after_event, answer_to, saved_form, after_restart}

-- a record is an action, or none: of an unknown kind, a restart of another length, an end of attempt with octets, or one that is cut short
pub data Record : Type 0 where
  act : Action → Record
  none : Record

abbrev pub restart_of : List ℕ → Record
restart_of os = act (restart (get_or os 0 0) (get_or os 1 0) (drop 2 os))

unfoldable pub record_of : ℕ → List ℕ → Record
record_of kind os =
    cond (eqb kind 0) (act (event (header os))) (cond (eqb kind 1) (act (event (block os)))
    (cond (all (eqb kind 2 ∷ eqb (length os) 0 ∷ [])) (act (event ended))
    (cond (all (eqb kind 3 ∷ eqb (length os) (2 + store_size) ∷ [])) (restart_of os) none)))

-- ---- what is reported

-- an answer, or the stored form of a restart
pub data Line : Type 0 where
  answer : Said → Line
  restarted : List ℕ → Line

-- what the receiver reports for a record, and what is left; a record that is no action is refused with 1 and changes nothing
unfoldable pub line_of : State → Record → Line
line_of s (act (event e)) = answer (answer_to s e)
line_of s (act (restart s0 s1 store)) = restarted (saved_form s s0 s1)
line_of s none = answer (refused 1)

unfoldable pub after_record : State → Record → State
after_record s (act (event e)) = after_event s e
after_record s (act (restart s0 s1 store)) = after_restart s s0 s1 store
after_record s none = s

-- a line in octets: a code, the length of its contents (2 octets, most significant first), the contents, and zeros
abbrev pub line_size : ℕ
line_size = 3 + 2 * stored_block

unfoldable pub code_of : Line → ℕ
code_of (answer (refused n)) = 0
code_of (answer opened) = 1
code_of (answer repeat) = 2
code_of (answer stored) = 3
code_of (answer bad) = 4
code_of (answer (message m)) = 5
code_of (answer (response h d)) = 6
code_of (restarted form) = 7

unfoldable pub contents_of : Line → List ℕ
contents_of (answer (refused n)) = n ∷ []
contents_of (answer opened) = []
contents_of (answer repeat) = []
contents_of (answer stored) = []
contents_of (answer bad) = []
contents_of (answer (message m)) = m
contents_of (answer (response h d)) = h ++ d
contents_of (restarted form) = form

unfoldable pub line_octets : ℕ → List ℕ → List ℕ
line_octets code os = (code ∷ length os / 256 ∷ length os % 256 ∷ []) ++ os ++ replicate (line_size - 3 - length os) 0

unfoldable pub line_in : Line → List ℕ
line_in l = line_octets (code_of l) (contents_of l)

-- ---- one record

-- 1 for a receiver that there can't be, or a store or a line of another size
unfoldable pub record_number : Receiver → List ℕ → List ℕ → ℕ
record_number rx store line =
    first_failed ((receiver_good rx, 1) ∷ (eqb (length store) store_size, 1) ∷ (eqb (length line) line_size, 1) ∷ [])

abbrev pub state_of : Receiver → List ℕ → State
state_of rx store = record { receiver = rx; store = store }

-- number 0 and the receiver after a record, or the number of the refusal and the receiver as it was
pub record Recorded : Type 0 where
  pub number : ℕ
  pub receiver : Receiver

unfoldable pub recorded_given : Recorded → Result Receiver Refusal
recorded_given r = outcome r.number r.receiver

-- the receiver, the store and the line after a record; a refusal changes none of them
unfoldable pub recorded : Receiver → List ℕ → Record → List ℕ → Recorded
recorded rx store r line = record {
  number = record_number rx store line;
  receiver = cond (eqb (record_number rx store line) 0) (after_record (state_of rx store) r).receiver rx;
}

unfoldable pub record_store : Receiver → List ℕ → Record → List ℕ → List ℕ
record_store rx store r line = cond (eqb (record_number rx store line) 0) (after_record (state_of rx store) r).store store

unfoldable pub record_line : Receiver → List ℕ → Record → List ℕ → List ℕ
record_line rx store r line = cond (eqb (record_number rx store line) 0) (line_in (line_of (state_of rx store) r)) line
