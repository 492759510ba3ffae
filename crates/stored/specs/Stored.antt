-- The stored form of a receiver and its message store: 1,024 octets in two blocks of 512.
-- Assumes nothing.
use Rattle.std.specs.Prelude.{Result, Bool, true, cond, List, [], ◌∷◌, ◌++◌, ℕ, zero, suc, ◌+◌, ◌*◌, ◌-◌, ◌/◌, ◌%◌, eqb, length, get_or, take, drop, replicate}
use Rattle.addresses.specs.Octets.{address_at, three_octets}
use Rattle.addresses.specs.declared.RadioAddress.{RadioAddress}
use Rattle.foundation.specs.Order.{first_failed, every}
use Rattle.foundation.specs.Refusals.{outcome}
use Rattle.foundation.specs.declared.refusal.Refusal.{Refusal}
use Rattle.checks.specs.Checks.{header_check, header_good, message_good}
use Rattle.messages.specs.Messages.{block_size}
use Rattle.transactions.specs.Flags.{flag_octet_count, flagged}
use Rattle.transactions.specs.declared.header.Transaction.{Transaction}
use Rattle.receiver_state.specs.Receiver.{store_size, held, receiver_good}
use Rattle.receiver_state.specs.declared.Receiver.{Receiver}

-- octets of a stored block, of those before its check, of the store in block 0 and in block 1, and the zeros that follow these
abbrev pub stored_block : ℕ
stored_block = 512

abbrev pub checked_size : ℕ
checked_size = stored_block - 2

abbrev pub first_part : ℕ
first_part = 487

abbrev pub second_part : ℕ
second_part = store_size - first_part

abbrev pub zero_part : ℕ
zero_part = checked_size - 4 - second_part

-- the places of the store in block 0 and in block 1, and of the zeros
abbrev pub store_at0 : ℕ
store_at0 = checked_size - first_part

abbrev pub store_at1 : ℕ
store_at1 = 4

abbrev pub zeros_at : ℕ
zeros_at = store_at1 + second_part

-- ---- saving

-- octets followed by the header's check over them with mask 0
unfoldable pub with_stored_check : List ℕ → List ℕ
with_stored_check os = os ++ (header_check 0 os / 256 ∷ header_check 0 os % 256 ∷ [])

-- n octets of the store from position `at` on, where octet i is `octet i`; those of blocks not held are zero
unfoldable pub held_octets : (ℕ → Bool) → (ℕ → ℕ) → ℕ → ℕ → List ℕ
held_octets f octet at zero = []
held_octets f octet at (suc n) = cond (f (at / block_size)) (octet at) 0 ∷ held_octets f octet (suc at) n

-- block 0: 1, index, stamp, phase, own address, source, SAP, N(S), pad, B, flags, the store's first octets
unfoldable pub head0 : RadioAddress → ℕ → Transaction → List ℕ → ℕ → ℕ → List ℕ
head0 own phase t flags s0 s1 =
    (1 ∷ 0 ∷ s0 ∷ s1 ∷ phase ∷ []) ++ three_octets own.0 ++ three_octets t.source.0 ++ (t.sap ∷ t.ns ∷ t.pad ∷ t.blocks ∷ []) ++ flags

unfoldable pub body0 : RadioAddress → ℕ → Transaction → List ℕ → (ℕ → ℕ) → ℕ → ℕ → List ℕ
body0 own phase t flags octet s0 s1 = head0 own phase t flags s0 s1 ++ held_octets (flagged flags) octet 0 first_part

-- block 1: 1, index, stamp, the store's other octets, zeros
unfoldable pub body1 : List ℕ → (ℕ → ℕ) → ℕ → ℕ → List ℕ
body1 flags octet s0 s1 =
    (1 ∷ 1 ∷ s0 ∷ s1 ∷ []) ++ held_octets (flagged flags) octet first_part second_part ++ replicate zero_part 0

-- the stored form of an address, a phase, a transaction, the flags of the held blocks and octet i of the store, with a stamp of two octets
unfoldable pub stored_form : RadioAddress → ℕ → Transaction → List ℕ → (ℕ → ℕ) → ℕ → ℕ → List ℕ
stored_form own phase t flags octet s0 s1 =
    with_stored_check (body0 own phase t flags octet s0 s1) ++ with_stored_check (body1 flags octet s0 s1)

-- of a receiver and its store
unfoldable pub saved : Receiver → List ℕ → ℕ → ℕ → List ℕ
saved rx store s0 s1 = stored_form rx.own rx.phase rx.transaction rx.flags.octets (λ i. get_or store i 0) s0 s1

-- 1 for a receiver that there can't be, a store or a lent stored form of another size
unfoldable pub save_number : Receiver → List ℕ → List ℕ → ℕ
save_number rx store form =
    first_failed ((receiver_good rx, 1) ∷ (eqb (length store) store_size, 1) ∷ (eqb (length form) (2 * stored_block), 1) ∷ [])

-- what the lent octets hold after saving
unfoldable pub after_save : Receiver → List ℕ → ℕ → ℕ → List ℕ → List ℕ
after_save rx store s0 s1 form = cond (eqb (save_number rx store form) 0) (saved rx store s0 s1) form

-- ---- restoring

unfoldable pub block0 : List ℕ → List ℕ
block0 form = take stored_block form

unfoldable pub block1 : List ℕ → List ℕ
block1 form = drop stored_block form

-- the receiver and the store of a stored form
unfoldable pub receiver_in : List ℕ → Receiver
receiver_in a = record {
  own = address_at a 5;
  phase = get_or a 4 0;
  transaction = record { source = address_at a 8; sap = get_or a 11 0; ns = get_or a 12 0; pad = get_or a 13 0; blocks = get_or a 14 0 };
  flags = record { octets = take flag_octet_count (drop 15 a) };
}

unfoldable pub store_in : List ℕ → List ℕ → List ℕ
store_in a b = take first_part (drop store_at0 a) ++ take second_part (drop store_at1 b)

-- n octets from position `at` on are zero
unfoldable pub zeros_from : List ℕ → ℕ → ℕ → Bool
zeros_from os at n = every n (λ i. eqb (get_or os (at + i) 0) 0)

-- of the first n octets of the store those of blocks not held are zero
unfoldable pub clear : Receiver → List ℕ → ℕ → Bool
clear rx store n = every n (λ i. cond (held rx (i / block_size)) true (eqb (get_or store i 0) 0))

-- the rules of the layout, 18 where one is broken: octets 0 and 1, stamps, phase, fields and flags, octets not held, octets behind the store,
-- and the message check of a complete transaction
unfoldable pub layout_tests : List ℕ → List ℕ → Receiver → List ℕ → List (Bool × ℕ)
layout_tests a b rx store =
    (eqb (get_or a 0 0) 1, 18) ∷ (eqb (get_or a 1 0) 0, 18) ∷ (eqb (get_or b 0 0) 1, 18) ∷ (eqb (get_or b 1 0) 1, 18)
    ∷ (eqb (get_or a 2 0) (get_or b 2 0), 18) ∷ (eqb (get_or a 3 0) (get_or b 3 0), 18) ∷ (receiver_good rx, 18) ∷ (clear rx store store_size, 18)
    ∷ (zeros_from b zeros_at zero_part, 18)
    ∷ (cond (eqb rx.phase 2) (message_good (take (block_size * rx.transaction.blocks) store)) true, 18) ∷ []

-- the order of checks: 1, the checks of both blocks, the layout, the address
unfoldable pub restore_tests : Receiver → List ℕ → List ℕ → List (Bool × ℕ)
restore_tests rx form store =
    let a = block0 form in
    let b = block1 form in
    (receiver_good rx, 1) ∷ (eqb (length store) store_size, 1) ∷ (eqb (length form) (2 * stored_block), 1)
    ∷ (header_good 0 a, 17) ∷ (header_good 0 b, 17) ∷ layout_tests a b (receiver_in a) (store_in a b)
    ++ (eqb (receiver_in a).own.0 rx.own.0, 19) ∷ []

unfoldable pub restore_number : Receiver → List ℕ → List ℕ → ℕ
restore_number rx form store = first_failed (restore_tests rx form store)

-- number 0 and the receiver restored, or the number of the refusal and the receiver as it was
pub record Restored : Type 0 where
  pub number : ℕ
  pub receiver : Receiver

unfoldable pub restored_given : Restored → Result Receiver Refusal
restored_given r = outcome r.number r.receiver

-- the receiver beside the number, and the store: as stored, or on a refusal as they were
unfoldable pub restored : Receiver → List ℕ → List ℕ → Restored
restored rx form store = record {
  number = restore_number rx form store;
  receiver = cond (eqb (restore_number rx form store) 0) (receiver_in (block0 form)) rx;
}

unfoldable pub after_restore : Receiver → List ℕ → List ℕ → List ℕ
after_restore rx form store = cond (eqb (restore_number rx form store) 0) (store_in (block0 form) (block1 form)) store
