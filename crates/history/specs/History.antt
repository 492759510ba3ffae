-- The history rule of document 01: a transaction and its kept blocks, from the own address and the events alone.
-- Document 01's number of a block is its serial here; a number is one of the table of refusals, 0 for none.
-- Assumes nothing.
use Rattle.std.specs.Prelude.{Bool, true, false, cond, not, List, [], ◌∷◌, ◌++◌, ℕ, ◌*◌, ◌-◌, eqb, ltb, length, take}
use Rattle.addresses.specs.declared.RadioAddress.{RadioAddress}
use Rattle.foundation.specs.Order.{every, all}
use Rattle.checks.specs.Checks.{block_good, message_good}
use Rattle.messages.specs.Messages.{block_size, check_size, joined}
use Rattle.transactions.specs.Transactions.{transaction_of, is_full, heard_number, repeats, serial_of, data_of, taken_number}
use Rattle.transactions.specs.Answers.{Said, refused, opened, repeat, stored, bad, message, response_to, response_said}
use Rattle.transactions.specs.declared.header.Transaction.{Transaction}

-- header octets, block octets, an end of attempt
pub data Event : Type 0 where
  header : List ℕ → Event
  block : List ℕ → Event
  ended : Event

-- a kept block: its serial and its data octets
pub record Kept : Type 0 where
  pub serial : ℕ
  pub octets : List ℕ

-- phase 0 no transaction, 1 open, 2 complete; the transaction; its kept blocks, each behind those kept before
pub record History : Type 0 where
  pub phase : ℕ
  pub transaction : Transaction
  pub kept : List Kept

-- at first there is no transaction
unfoldable pub nothing : History
nothing = record { phase = 0; transaction = record { source = record { 0 = 0 }; sap = 0; ns = 0; pad = 0; blocks = 0 }; kept = [] }

-- a serial is held if a block with it is kept
unfoldable pub holds : List Kept → ℕ → Bool
holds [] n = false
holds (k ∷ ks) n = cond (eqb k.serial n) true (holds ks n)

-- with the data octets of the first such block
unfoldable pub held_data : List Kept → ℕ → List ℕ
held_data [] n = []
held_data (k ∷ ks) n = cond (eqb k.serial n) k.octets (held_data ks n)

-- ---- header

-- a header that gets no number (it has 12 octets, and none of 8 to 11 is true of it) opens a transaction if it is full, unless source, SAP,
-- N(S), pad and B are the present one's
unfoldable pub opens : RadioAddress → History → List ℕ → Bool
opens own p h = all (eqb (heard_number own h) 0 ∷ is_full h ∷ not (repeats p.phase p.transaction h) ∷ [])

-- it opens with these five and no block kept; any other header: no change
unfoldable pub after_header : RadioAddress → History → List ℕ → History
after_header own p h = cond (opens own p h) (record { phase = 1; transaction = transaction_of h; kept = [] }) p

-- ---- block

-- valid: 12 octets, its check good, the transaction open, its serial below B
unfoldable pub valid : History → List ℕ → Bool
valid p b = all (eqb (length b) 12 ∷ block_good b ∷ eqb p.phase 1 ∷ ltb (serial_of b) p.transaction.blocks ∷ [])

-- a valid block is kept behind those kept before
unfoldable pub keeping : History → List ℕ → List Kept
keeping p b = p.kept ++ (record { serial = serial_of b; octets = data_of b } ∷ [])

-- every serial below B is held
unfoldable pub whole : Transaction → List Kept → Bool
whole t ks = every t.blocks (holds ks)

-- the message is their octets by serial
unfoldable pub message_of : Transaction → List Kept → List ℕ
message_of t ks = joined (held_data ks) t.blocks

-- a valid block by which every serial below B becomes held completes the message. Message check good: the transaction is complete; bad: no
-- block is kept any more, and the transaction stays open. A block that is not valid: no change
unfoldable pub after_block : History → List ℕ → History
after_block p b =
    let t = p.transaction in
    let ks = keeping p b in
    cond (valid p b)
    (cond (whole t ks)
    (cond (message_good (message_of t ks)) (record { phase = 2; transaction = t; kept = ks }) (record { phase = 1; transaction = t; kept = [] }))
    (record { phase = 1; transaction = t; kept = ks })) p

-- an end of attempt: no change
unfoldable pub after : RadioAddress → History → Event → History
after own p (header h) = after_header own p h
after own p (block b) = after_block p b
after own p ended = p

-- ---- answers: those of the table and of the receiver's rules, with this transaction and these held blocks

-- a header: refused with the number that it gets, or a repeat of the present transaction, or opened; 12 for a partial one that is no repeat
unfoldable pub header_said : RadioAddress → History → List ℕ → Said
header_said own p h =
    cond (eqb (heard_number own h) 0)
    (cond (repeats p.phase p.transaction h) repeat (cond (is_full h) opened (refused 12)))
    (refused (heard_number own h))

-- the number that a block gets, with this transaction and the held octets of its serial
unfoldable pub kept_number : History → List ℕ → ℕ
kept_number p b = taken_number p.phase p.transaction (holds p.kept (serial_of b)) (held_data p.kept (serial_of b)) b

-- what is handed on: the message's first 10B - 4 - pad octets
unfoldable pub handed_on : Transaction → List Kept → List ℕ
handed_on t ks = take (block_size * t.blocks - check_size - t.pad) (message_of t ks)

-- a block: refused with the number that it gets, or a repeat where its serial is held, or stored; if by it every serial below B becomes
-- held, the message handed on or "message bad"
unfoldable pub block_said : History → List ℕ → Said
block_said p b =
    let t = p.transaction in
    let ks = keeping p b in
    cond (eqb (kept_number p b) 0)
    (cond (holds p.kept (serial_of b)) repeat
    (cond (whole t ks) (cond (message_good (message_of t ks)) (message (handed_on t ks)) bad) stored))
    (refused (kept_number p b))

-- an event; an end of attempt gets its response
unfoldable pub said_to : RadioAddress → History → Event → Said
said_to own p (header h) = header_said own p h
said_to own p (block b) = block_said p b
said_to own p ended = response_said (response_to own p.phase p.transaction (holds p.kept))

-- ---- a list of events: the history after it, and what is answered on the way

unfoldable pub history_from : RadioAddress → History → List Event → History
history_from own p [] = p
history_from own p (e ∷ es) = history_from own (after own p e) es

unfoldable pub said_from : RadioAddress → History → List Event → List Said
said_from own p [] = []
said_from own p (e ∷ es) = said_to own p e ∷ said_from own (after own p e) es
