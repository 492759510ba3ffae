-- A block that is taken or refused: by the first test that fails, and what it says that none does.
-- Assumes nothing.
use mathlib.Core.Path.{◌≡◌, refl, sym, ap, ◌∙◌}
use mathlib.Core.Bool.{Bool, true, false, cond}
use mathlib.Core.List.{List, [], ◌∷◌, ◌++◌}
use mathlib.Core.Logic.{◌≢◌}
use Prim.Native.Nat.{ℕ, ◌+◌, ◌*◌, ◌≤◌, ◌<◌}
use native.Mathlib.Omega.{arith}
use lib.Dec.{eqb, ltb}
use lib.ListN.{length}
use borrow.Author.Tests.{eqb-true, eq-eqb, ne_eqb, ltb-true, lt-ltb, le-ltb}
use Rattle.std.specs.Prelude.{Ok, Err}
use Rattle.foundation.specs.Order.{first_failed}
use Rattle.foundation.specs.Refusals.{refusal, outcome}
use Rattle.foundation.specs.declared.refusal.Refusal.{Refusal}
use Rattle.foundation.specs.declared.refusal.Refusal.TheVariants.{Size, NoTransaction, Serial, OtherOctets}
use Rattle.foundation.proofs.Order.{all-at, passed, run_fails}
use Rattle.foundation.proofs.Refusals.{ok_zero, ok_same, err_number}
use Rattle.packets.specs.Blocks.{block_tests, read_block, block_given}
use Rattle.packets.specs.declared.block.Block.{Block}
use Rattle.packets.proofs.BlockReading.{given_is}
use Rattle.transactions.specs.Transactions.{serial_of, data_of, same_data, taken_tests, taken_number}
use Rattle.transactions.proofs.Order.{block_run, first_small, chosen_small}
use Rattle.receiver_state.specs.declared.Receiver.{Receiver}
use Rattle.receiver_state.specs.Receiver.{block_at, store_size, held, transaction_good, receiver_good}
use Rattle.receiver.specs.Events.{block_refusal}
use Rattle.receiver.specs.Parts.{block_taken}
use Rattle.receiver.proofs.Taking.{good-blocks}

-- ---- by the tests

module _ (rx : Receiver) (store b : List ℕ) where
  pub receiver-refused : receiver_good rx ≡ false → Err Size ≡ block_taken rx store b
  unfolding block_taken block_refusal outcome refusal
  receiver-refused g = rw g

  module _ (good : receiver_good rx ≡ true) where
    pub store-refused : length store ≢ store_size → Err Size ≡ block_taken rx store b
    unfolding block_taken block_refusal outcome refusal
    store-refused n = rw (good, ne_eqb (length store) store_size n)

    module _ (size : length store ≡ store_size) where
      -- the tests behind those of reading
      abbrev behind : List (Bool × ℕ)
      behind =
          (eqb rx.phase 1, 12) ∷ (ltb (serial_of b) rx.transaction.blocks, 14)
          ∷ (cond (held rx (serial_of b)) (same_data (block_at store (serial_of b)) (data_of b)) true, 15) ∷ []

      by_tests : block_refusal rx store b ≡ first_failed (block_tests b ++ behind)
      unfolding block_refusal taken_number taken_tests
      by_tests = rw (good, eq-eqb (length store) store_size size)

      pub read-refused : (r : Refusal) → block_given (read_block b) ≡ Err r → Err r ≡ block_taken rx store b
      unfolding block_taken serial_of data_of
      read-refused r e =
          let f = sym (given_is b) ∙ e in
          sym (ap (λ (n : ℕ). outcome {A = Block} n (record { serial = serial_of b; octets = data_of b })) (by_tests ∙ run_fails behind (block_tests b) (err_number _ _ r f)) ∙ f)

      module _ (x : Block) (read : block_given (read_block b) ≡ Ok x) where
        fields : record { serial = serial_of b; octets = data_of b } ≡ x
        unfolding serial_of data_of
        fields = ok_same _ _ x (sym (given_is b) ∙ read)

        serial_is : serial_of b ≡ x.serial
        serial_is = ap (λ (y : Block). y.serial) fields

        octets_are : data_of b ≡ x.octets
        octets_are = ap (λ (y : Block). y.octets) fields

        left : block_refusal rx store b ≡ first_failed behind
        left = by_tests ∙ block_run behind b (ok_zero _ _ x (sym (given_is b) ∙ read))

        by : (n : ℕ) → first_failed behind ≡ n → outcome n x ≡ block_taken rx store b
        unfolding block_taken
        by n e = ap (outcome n) (sym fields) ∙ sym (ap (λ (k : ℕ). outcome {A = Block} k (record { serial = serial_of b; octets = data_of b })) (left ∙ e))

        pub phase-refused : rx.phase ≢ 1 → Err NoTransaction ≡ block_taken rx store b
        unfolding outcome refusal first_failed
        phase-refused n = by 12 (rw (ne_eqb rx.phase 1 n))

        module _ (opened : rx.phase ≡ 1) where
          pub serial-refused : rx.transaction.blocks ≤ x.serial → Err Serial ≡ block_taken rx store b
          unfolding outcome refusal first_failed
          serial-refused h = by 14 (rw (eq-eqb rx.phase 1 opened, le-ltb (serial_of b) rx.transaction.blocks (omega (arith, serial_is))))

          module _ (below : x.serial < rx.transaction.blocks) where
            -- the last test decides
            decide : (t : Bool) → cond (held rx (serial_of b)) (same_data (block_at store (serial_of b)) (data_of b)) true ≡ t → first_failed behind ≡ cond t 0 15
            unfolding first_failed
            decide t e = rw (eq-eqb rx.phase 1 opened, lt-ltb (serial_of b) rx.transaction.blocks (omega (arith, serial_is)), e)

            pub octets-refused : held rx x.serial ≡ true → same_data (block_at store x.serial) x.octets ≡ false → Err OtherOctets ≡ block_taken rx store b
            unfolding outcome refusal
            octets-refused h d = by 15 (decide false (rw (serial_is, octets_are, h) d))

            pub free_taken : held rx x.serial ≡ false → Ok x ≡ block_taken rx store b
            unfolding outcome
            free_taken h = by 0 (decide true (rw (serial_is, h)))

            pub same_taken : held rx x.serial ≡ true → same_data (block_at store x.serial) x.octets ≡ true → Ok x ≡ block_taken rx store b
            unfolding outcome
            same_taken h d = by 0 (decide true (rw (serial_is, octets_are, h) d))

  -- its number is one of the table
  pub refusal_small : block_refusal rx store b < 20
  unfolding block_refusal taken_number taken_tests block_tests
  refusal_small =
      chosen_small (receiver_good rx) _ 1
      (chosen_small (eqb (length store) store_size) _ 1 (first_small (taken_tests rx.phase rx.transaction (held rx (serial_of b)) (block_at store (serial_of b)) b) refl) (omega arith))
      (omega arith)

-- ---- an open transaction

module _ (rx : Receiver) (good : receiver_good rx ≡ true) (opened : rx.phase ≡ 1) where
  pub open_fields : transaction_good rx.transaction ≡ true
  unfolding receiver_good
  open_fields = let n : eqb rx.phase 0 ≡ false = ne_eqb rx.phase 0 (λ z. omega arith) in rw n at (all-at _ 2 good)

  -- its blocks are in the store
  pub block_fits : (store : List ℕ) (n : ℕ) → length store ≡ store_size → n < rx.transaction.blocks → 10 * n + 10 ≤ length store
  block_fits store n size h = omega (arith, good-blocks rx.transaction open_fields, size)

-- ---- what is said by a block that is taken

pub record Taken (rx : Receiver) (store b : List ℕ) : Type 0 where
  pub good : receiver_good rx ≡ true
  pub size : length store ≡ store_size
  pub opened : rx.phase ≡ 1
  pub below : serial_of b < rx.transaction.blocks

through : (t : Bool) (n : ℕ) → cond t n 1 ≡ 0 → (t ≡ true) × (n ≡ 0)
through true n e = (refl, e)
through false n e = absurd (omega arith)

pub taken_of : (rx : Receiver) (store b : List ℕ) → block_refusal rx store b ≡ 0 → Taken rx store b
unfolding block_refusal taken_number taken_tests block_tests
taken_of rx store b e =
    let e0 = through (receiver_good rx) _ e in
    let e1 = through (eqb (length store) store_size) _ e0.1 in
    let phase = passed _ _ _ (passed _ _ _ (passed _ _ _ e1.1).1).1 in
    let serial = passed _ _ _ phase.1 in
    record {
      good = e0.0;
      size = eqb-true (length store) store_size e1.0;
      opened = eqb-true rx.phase 1 phase.0;
      below = ltb-true (serial_of b) rx.transaction.blocks serial.0;
    }
