-- Every number that is given stands in the table: it is below 20.
-- Assumes nothing.
use mathlib.Core.Bool.{Bool, true, false, cond}
use mathlib.Core.List.{List, [], ◌∷◌}
use Prim.Native.Nat.{ℕ, ◌*◌, ◌<◌}
use native.Mathlib.Omega.{arith}
use lib.Dec.{eqb}
use lib.ListN.{length, take}
use Rattle.addresses.specs.declared.RadioAddress.{RadioAddress}
use borrow.Author.Rules.{rules}
use Rattle.foundation.specs.Order.{first_failed}
use Rattle.foundation.proofs.Tests.{either}
use Rattle.codes.specs.Field.{read_field, field_number, matrix_tests}
use Rattle.packets.specs.Headers.{header_tests}
use Rattle.packets.specs.Blocks.{block_tests}
use Rattle.messages.specs.Messages.{block_size}
use Rattle.messages.specs.Responses.{write_response}
use Rattle.checks.specs.Checks.{message_good}
use Rattle.bursts.specs.Bursts.{burst_field}
use Rattle.datagrams.specs.Datagrams.{datagram_number}
use Rattle.transactions.specs.Transactions.{heard_tests, heard_number, taken_tests, taken_number, is_full, repeats, serial_of, data_of}
use Rattle.transactions.specs.Flags.{with_flag}
use Rattle.transactions.specs.Answers.{number_of, response_said, no_response, response_to}
use Rattle.transactions.specs.declared.header.Transaction.{Transaction}
use Rattle.receiver_state.specs.Receiver.{receiver_good, held, all_held, store_size, block_at}
use Rattle.receiver_state.specs.declared.Receiver.{Receiver}
use Rattle.receiver.specs.Events.{said, changed, header_refusal, on_header, put_block, block_refusal, completed, taken, on_block, on_end}
use Rattle.stored.specs.Stored.{restore_tests, restore_number, layout_tests}
use Rattle.history.specs.History.{Event, header, block, ended}
use Rattle.history.specs.Run.{State, answer_to, event, restart}
use Rattle.logs.specs.Log.{Record, act, none, line_of}
use Rattle.forms.specs.Forms.{Asked, an_event, a_datagram, number_before, form_number, line_number, line_asked, event_number, fresh_number}

abbrev Below : List (Bool × ℕ) → Type 0
Below [] = Unit
Below (t ∷ ts) = (t.1 < 20) × Below ts

failed_below : (ts : List (Bool × ℕ)) → Below ts → first_failed ts < 20
unfolding first_failed
failed_below [] u = omega arith
failed_below ((true, n) ∷ ts) u = failed_below ts u.1
failed_below ((false, n) ∷ ts) u = u.0

-- ---- a form, and what comes before any answer

form_small : (form : List ℕ) → form_number form < 20
unfolding form_number restore_number restore_tests layout_tests
form_small form = failed_below _ (search rules)

field_small : (f : List ℕ) → (read_field f).number < 20
unfolding read_field field_number matrix_tests
field_small f = failed_below _ (search rules)

burst_small : (b : List ℕ) → (burst_field b).number < 20
unfolding burst_field
burst_small b = field_small _

pub before_small : (a : Asked) → number_before a < 20
unfolding number_before datagram_number
before_small (an_event (header h)) = either (eqb (length h) 12) (λ t. rw t (omega arith)) (λ t. rw t (omega arith))
before_small (an_event (block b)) = either (eqb (length b) 12) (λ t. rw t (omega arith)) (λ t. rw t (omega arith))
before_small (an_event ended) = omega arith
before_small (a_datagram d) = failed_below _ (omega arith, (omega arith, (omega arith, (omega arith, (omega arith, (omega arith, (burst_small _, tt)))))))

-- ---- an answer

heard_small : (own : RadioAddress) (h : List ℕ) → heard_number own h < 20
unfolding heard_number heard_tests header_tests
heard_small own h = failed_below _ (search rules)

taken_small : (phase : ℕ) (t : Transaction) (is : Bool) (x b : List ℕ) → taken_number phase t is x b < 20
unfolding taken_number taken_tests block_tests
taken_small phase t is x b = failed_below _ (search rules)

header_small : (rx : Receiver) (h : List ℕ) → header_refusal rx h < 20
unfolding header_refusal
header_small rx h = either (receiver_good rx) (λ t. rw t (heard_small rx.own h)) (λ t. rw t (omega arith))

block_small : (rx : Receiver) (store b : List ℕ) → block_refusal rx store b < 20
unfolding block_refusal
block_small rx store b =
    either (receiver_good rx)
    (λ t. either (eqb (length store) store_size)
    (λ u. rw (t, u) (taken_small rx.phase rx.transaction (held rx (serial_of b)) (block_at store (serial_of b)) b))
    (λ u. rw (t, u) (omega arith)))
    (λ t. rw t (omega arith))

cond_small : (t : Bool) (head body : List ℕ) (blocks : ℕ)
    → (cond t (record { number = 0; header = head; blocks = blocks; block = body }) (no_response 16)).number < 20
cond_small true head body blocks = omega arith
cond_small false head body blocks = omega arith

end_small : (rx : Receiver) → (on_end rx).number < 20
unfolding on_end response_to write_response
end_small rx =
    either (receiver_good rx)
    (λ t. rw t (either (eqb rx.phase 0) (λ u. rw u (omega arith)) (λ u. rw u (cond_small _ _ _ _))))
    (λ t. rw t (omega arith))

completed_small : (rx : Receiver) (store other : List ℕ) → number_of (said (completed rx store).answer other) < 20
unfolding completed said number_of
completed_small rx store other =
    either (message_good (take (block_size * rx.transaction.blocks) store)) (λ a. simp a (omega arith)) (λ a. simp a (omega arith))

put_small : (rx : Receiver) (store other : List ℕ) → number_of (said (taken rx store).answer other) < 20
unfolding taken said number_of
put_small rx store other =
    either (all_held rx) (λ a. simp a (completed_small rx store other)) (λ a. simp a (omega arith))

answer_small : (s : State) (e : Event) → number_of (answer_to s e) < 20
unfolding answer_to said on_header on_block response_said number_of
answer_small s (header h) =
    either (eqb (header_refusal s.receiver h) 0)
    (λ a. either (repeats s.receiver.phase s.receiver.transaction h) (λ b. simp (a, b) (omega arith))
    (λ b. either (is_full h) (λ c. simp (a, b, c) (omega arith)) (λ c. simp (a, b, c) (omega arith))))
    (λ a. simp a (header_small s.receiver h))
answer_small s (block b) =
    either (eqb (block_refusal s.receiver s.store b) 0)
    (λ a. either (held s.receiver (serial_of b)) (λ c. simp (a, c) (omega arith))
    (λ c. simp (a, c)
    (put_small (changed s.receiver 1 (with_flag s.receiver.flags.octets (serial_of b))) (put_block s.store (serial_of b) (data_of b))
    (put_block s.store (serial_of b) (data_of b)))))
    (λ a. simp a (block_small s.receiver s.store b))
answer_small s ended =
    either (eqb (on_end s.receiver).number 0) (λ a. simp a (omega arith)) (λ a. simp a (end_small s.receiver))

line_small : (s : State) (r : Record) → line_number (line_of s r) < 20
unfolding line_number line_of number_of
line_small s (act (event e)) = answer_small s e
line_small s (act (restart s0 s1 store)) = omega arith
line_small s none = omega arith

-- ---- what is asked of a form

pub event_small : (form line : List ℕ) (a : Asked) → event_number form line a < 20
unfolding event_number line_asked
event_small form line a = failed_below _ (omega arith, (omega arith, (omega arith, (form_small form, (before_small a, (line_small _ _, tt))))))

pub fresh_small : (own : RadioAddress) (form : List ℕ) → fresh_number own form < 20
unfolding fresh_number
fresh_small own form = failed_below _ (omega arith, (omega arith, tt))
