-- Answers and their lines: which are refusals, and of which number.
-- Assumes nothing.
use mathlib.Core.Path.{◌≡◌, refl}
use mathlib.Core.List.{List}
use mathlib.Core.Logic.{◌≢◌}
use Prim.Native.Nat.{ℕ, ◌*◌}
use native.Mathlib.Omega.{arith}
use lib.Dec.{eqb}
use lib.ListN.{get_or, take}
use borrow.Author.Tests.{eqb-false}
use Rattle.checks.specs.Checks.{message_good}
use Rattle.messages.specs.Messages.{block_size}
use Rattle.transactions.specs.Transactions.{is_full, repeats, serial_of, data_of}
use Rattle.transactions.specs.Flags.{with_flag}
use Rattle.transactions.specs.Answers.{Said, refused, opened, repeat, stored, bad, message, response, number_of, response_said}
use Rattle.foundation.proofs.Tests.{either}
use Rattle.receiver_state.specs.Receiver.{held, all_held}
use Rattle.receiver.specs.Events.{said, changed, header_refusal, on_header, put_block, block_refusal, completed, taken, on_block, on_end}
use Rattle.receiver_state.specs.declared.Receiver.{Receiver}
use Rattle.history.specs.History.{Event, header, block, ended}
use Rattle.history.specs.Run.{State, answer_to}
use Rattle.logs.specs.Log.{answer, code_of, contents_of, line_octets, line_in}

-- ---- a line

-- a line of code 0 is a refusal, with its number behind the length
pub line_refused : (x : Said) → get_or (line_in (answer x)) 0 0 ≡ 0 → x ≡ refused (get_or (line_in (answer x)) 3 0)
unfolding line_in code_of contents_of line_octets
line_refused (refused n) e = refl
line_refused opened e = absurd (omega arith)
line_refused repeat e = absurd (omega arith)
line_refused stored e = absurd (omega arith)
line_refused bad e = absurd (omega arith)
line_refused (message m) e = absurd (omega arith)
line_refused (response h d) e = absurd (omega arith)

pub line_taken : (x : Said) → get_or (line_in (answer x)) 0 0 ≢ 0 → number_of x ≡ 0
unfolding line_in code_of contents_of line_octets number_of
line_taken (refused n) e = absurd (e refl)
line_taken opened e = refl
line_taken repeat e = refl
line_taken stored e = refl
line_taken bad e = refl
line_taken (message m) e = refl
line_taken (response h d) e = refl

-- ---- an answer

pub only_refused : (x : Said) → number_of x ≢ 0 → x ≡ refused (number_of x)
unfolding number_of
only_refused (refused n) e = refl
only_refused opened e = absurd (e refl)
only_refused repeat e = absurd (e refl)
only_refused stored e = absurd (e refl)
only_refused bad e = absurd (e refl)
only_refused (message m) e = absurd (e refl)
only_refused (response h d) e = absurd (e refl)

-- a refusal has a number
abbrev pub Numbered : Said → Type 0
Numbered (refused n) = n ≢ 0
Numbered opened = Unit
Numbered repeat = Unit
Numbered stored = Unit
Numbered bad = Unit
Numbered (message m) = Unit
Numbered (response h d) = Unit

completed-numbered : (rx : Receiver) (store other : List ℕ) → Numbered (said (completed rx store).answer other)
unfolding completed said
completed-numbered rx store other =
    either (message_good (take (block_size * rx.transaction.blocks) store)) (λ a. simp a tt) (λ a. simp a tt)

taken-numbered : (rx : Receiver) (store other : List ℕ) → Numbered (said (taken rx store).answer other)
unfolding taken said
taken-numbered rx store other =
    either (all_held rx) (λ a. simp a (completed-numbered rx store other)) (λ a. simp a tt)

pub numbered : (s : State) (e : Event) → Numbered (answer_to s e)
unfolding answer_to said on_header on_block response_said
numbered s (header h) =
    either (eqb (header_refusal s.receiver h) 0)
    (λ a. either (repeats s.receiver.phase s.receiver.transaction h) (λ b. simp (a, b) tt)
    (λ b. either (is_full h) (λ c. simp (a, b, c) tt) (λ c. simp (a, b, c) (λ z. omega arith))))
    (λ a. simp a (eqb-false (header_refusal s.receiver h) 0 a))
numbered s (block b) =
    either (eqb (block_refusal s.receiver s.store b) 0)
    (λ a. either (held s.receiver (serial_of b)) (λ c. simp (a, c) tt)
    (λ c. simp (a, c)
    (taken-numbered (changed s.receiver 1 (with_flag s.receiver.flags.octets (serial_of b))) (put_block s.store (serial_of b) (data_of b))
    (put_block s.store (serial_of b) (data_of b)))))
    (λ a. simp a (eqb-false (block_refusal s.receiver s.store b) 0 a))
numbered s ended =
    either (eqb (on_end s.receiver).number 0) (λ a. simp a tt) (λ a. simp a (eqb-false (on_end s.receiver).number 0 a))

pub refused-numbered : (x : Said) (n : ℕ) → Numbered x → x ≡ refused n → n ≢ 0
refused-numbered x n h e = rw e at h
