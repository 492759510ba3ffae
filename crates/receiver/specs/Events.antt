-- What the receiver answers to an event and leaves.
-- Assumes nothing.
use Rattle.std.specs.Prelude.{Result, Ok, Err, cond, List, ◌++◌, ℕ, ◌+◌, ◌*◌, ◌-◌, eqb, length, take, drop}
use Rattle.checks.specs.Checks.{message_good}
use Rattle.foundation.specs.Refusals.{refusal_number}
use Rattle.foundation.specs.declared.refusal.Refusal.{Refusal}
use Rattle.messages.specs.Messages.{block_size, check_size}
use Rattle.messages.specs.Responses.{ResponseWritten}
use Rattle.transactions.specs.Transactions.{transaction_of, is_full, heard_number, repeats, serial_of, data_of, taken_number}
use Rattle.transactions.specs.Flags.{with_flag}
use Rattle.transactions.specs.Answers.{Said, refused, opened, repeat, stored, bad, message, no_response, response_to}
use Rattle.receiver_state.specs.declared.Receiver.{Receiver}
use Rattle.receiver.specs.declared.event.Answer as answers
use Rattle.receiver.specs.declared.event.Step as steps
use Rattle.receiver_state.specs.Receiver.{block_at, store_size, no_flags, held, all_held, receiver_good}

-- what is answered to a header or a block: the number of a refusal; or what becomes of it. A message is the store's first octets, this many
pub data Answer : Type 0 where
  Refused : ℕ → Answer
  Opened : Answer
  Repeat : Answer
  Stored : Answer
  Bad : Answer
  Message : ℕ → Answer

-- the receiver after an event, and the answer
pub record Step : Type 0 where
  pub receiver : Receiver
  pub answer : Answer

-- what is given says one of these: a refusal is told by its number
abbrev pub told : Result answers.Answer Refusal → Answer
told (Ok answers.TheVariants.Opened) = Opened
told (Ok answers.TheVariants.Repeat) = Repeat
told (Ok answers.TheVariants.Stored) = Stored
told (Ok answers.TheVariants.Bad) = Bad
told (Ok (answers.TheVariants.Message n)) = Message n
told (Err r) = Refused (refusal_number r)

abbrev pub step_told : steps.Step → Step
step_told s = record { receiver = s.receiver; answer = told s.answer }

-- what is answered, in document 01's numbers and values: a message is the store's first octets
unfoldable pub said : Answer → List ℕ → Said
said (Refused n) store = refused n
said Opened store = opened
said Repeat store = repeat
said Stored store = stored
said Bad store = bad
said (Message n) store = message (take n store)

abbrev pub answered : Receiver → Answer → Step
answered rx a = record { receiver = rx; answer = a }

-- the receiver in another phase, with other flags
abbrev pub changed : Receiver → ℕ → List ℕ → Receiver
changed rx phase flags = record { own = rx.own; phase = phase; transaction = rx.transaction; flags = record { octets = flags } }

-- ---- a header

unfoldable pub header_refusal : Receiver → List ℕ → ℕ
header_refusal rx h = cond (receiver_good rx) (heard_number rx.own h) 1

-- a new transaction with nothing held
unfoldable pub opened_by : Receiver → List ℕ → Receiver
opened_by rx h = record { own = rx.own; phase = 1; transaction = transaction_of h; flags = record { octets = no_flags } }

unfoldable pub on_header : Receiver → List ℕ → Step
on_header rx h =
    cond (eqb (header_refusal rx h) 0)
    (cond (repeats rx.phase rx.transaction h) (answered rx Repeat)
    (cond (is_full h) (answered (opened_by rx h) Opened) (answered rx (Refused 12))))
    (answered rx (Refused (header_refusal rx h)))

-- ---- a block

-- octets put where block n stands
unfoldable pub put_block : List ℕ → ℕ → List ℕ → List ℕ
put_block store n os = take (block_size * n) store ++ os ++ drop (block_size * n + block_size) store

-- a step and the store after it
pub record BlockLeft : Type 0 where
  pub step : Step
  pub store : List ℕ

unfoldable pub block_refusal : Receiver → List ℕ → List ℕ → ℕ
block_refusal rx store b =
    cond (receiver_good rx)
    (cond (eqb (length store) store_size)
    (taken_number rx.phase rx.transaction (held rx (serial_of b)) (block_at store (serial_of b)) b) 1) 1

-- all blocks are held: a good message check completes the transaction and hands on the first 10B - 4 - pad octets of the store
unfoldable pub completed : Receiver → List ℕ → Step
completed rx store =
    cond (message_good (take (block_size * rx.transaction.blocks) store))
    (answered (changed rx 2 rx.flags.octets) (Message (block_size * rx.transaction.blocks - check_size - rx.transaction.pad)))
    (answered (changed rx 1 no_flags) Bad)

-- a new block stands in the store and is flagged
unfoldable pub taken : Receiver → List ℕ → Step
taken rx store = cond (all_held rx) (completed rx store) (answered rx Stored)

unfoldable pub on_block : Receiver → List ℕ → List ℕ → BlockLeft
on_block rx store b =
    cond (eqb (block_refusal rx store b) 0)
    (cond (held rx (serial_of b)) (record { step = answered rx Repeat; store = store })
    (let next = put_block store (serial_of b) (data_of b) in
    record { step = taken (changed rx 1 (with_flag rx.flags.octets (serial_of b))) next; store = next }))
    (record { step = answered rx (Refused (block_refusal rx store b)); store = store })

-- ---- an end of attempt

unfoldable pub on_end : Receiver → ResponseWritten
on_end rx = cond (receiver_good rx) (response_to rx.own rx.phase rx.transaction (held rx)) (no_response 1)
