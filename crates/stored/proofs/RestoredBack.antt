-- What was saved is restored.
-- Assumes nothing.
use mathlib.Core.Path.{◌≡◌, refl, ap, ◌∙◌}
use mathlib.Core.Bool.{Bool, true, cond}
use mathlib.Core.List.{List, [], ◌∷◌}
use Prim.Native.Nat.{ℕ, ◌*◌, ◌^◌, ◌≤◌, ◌<◌}
use native.Mathlib.Omega.{arith}
use borrow.Author.Tests.{eq-eqb, eqb-true, ltb-true, lt-ltb, leb-true}
use lib.Dec.{eqb}
use lib.ListN.{length, get_or, take}
use Rattle.addresses.specs.declared.RadioAddress.{RadioAddress}
use Rattle.foundation.specs.Order.{first_failed, every, all}
use Rattle.checks.specs.Checks.{header_good, message_good}
use Rattle.messages.specs.Messages.{block_size, most_blocks}
use Rattle.transactions.specs.Flags.{flag_count, flagged}
use Rattle.transactions.specs.declared.header.Transaction.{Transaction}
use Rattle.foundation.proofs.Tests.{either}
use Rattle.foundation.proofs.Order.{all-at, all_cons, all_nil, first_passed, first_run, numbered}
use Rattle.receiver_state.specs.Receiver.{store_size, no_flags, fresh_receiver, no_transaction, held, all_held, transaction_good, transaction_none, none_from, receiver_good}
use Rattle.receiver_state.specs.declared.Receiver.{Receiver}
use Rattle.stored.specs.Stored.{stored_block, with_stored_check, saved, block0, block1, receiver_in, store_in, layout_tests, restore_tests, restore_number, restored, after_restore}
use Rattle.stored.specs.Claims.{Savable, held_store, Restores}
use Rattle.stored.proofs.HeldOctets.{held_store-clear, block-kept, first-kept}
use Rattle.stored.proofs.ReadingBack.{Starts, written0, written1, starts_back, checked-good, length_form, block0_back, block1_back, receiver_back, store_back, zeros_back}

-- ---- what a receiver can be

none-none : transaction_none no_transaction ≡ true
unfolding transaction_none no_transaction all
none-none = refl

none-flagged : none_from 0 no_flags flag_count ≡ true
unfolding none_from flagged
none-flagged = refl

pub fresh_good : (own : RadioAddress) → own.0 < 2 ^ 24 → receiver_good (fresh_receiver own) ≡ true
unfolding receiver_good fresh_receiver no_transaction
fresh_good own h =
    all_cons _ (lt-ltb own.0 (2 ^ 24) h)
    (all_cons _ refl (all_cons _ none-none (all_cons _ none-flagged (all_cons _ refl (all_cons _ refl all_nil)))))

none-source : (t : Transaction) → transaction_none t ≡ true → (t.source.0 < 2 ^ 24) × (t.blocks ≤ most_blocks)
unfolding transaction_none
none-source t e = (omega (arith, eqb-true t.source.0 0 (all-at _ 0 e)), omega (arith, eqb-true t.blocks 0 (all-at _ 4 e)))

good-source : (t : Transaction) → transaction_good t ≡ true → (t.source.0 < 2 ^ 24) × (t.blocks ≤ most_blocks)
unfolding transaction_good
good-source t e = (ltb-true t.source.0 (2 ^ 24) (all-at _ 0 e), leb-true t.blocks most_blocks (all-at _ 5 e))

module _ (rx : Receiver) (good : receiver_good rx ≡ true) where
  pub own_fits : rx.own.0 < 2 ^ 24
  unfolding receiver_good
  own_fits = ltb-true rx.own.0 (2 ^ 24) (all-at _ 0 good)

  pub fits : (rx.transaction.source.0 < 2 ^ 24) × (rx.transaction.blocks ≤ most_blocks)
  unfolding receiver_good
  fits =
      let e : cond (eqb rx.phase 0) (transaction_none rx.transaction) (transaction_good rx.transaction) ≡ true = all-at _ 2 good in
      either (eqb rx.phase 0) (λ p. none-source rx.transaction (rw p at e)) (λ p. good-source rx.transaction (rw p at e))

  complete_held : rx.phase ≡ 2 → every rx.transaction.blocks (held rx) ≡ true
  unfolding receiver_good all_held
  complete_held p =
      let e : cond (eqb rx.phase 2) (all_held rx) true ≡ true = all-at _ 5 good in
      rw (eq-eqb rx.phase 2 p) at e

-- ---- the tests of restoring

-- one test more
pass : {t : Bool} (n : ℕ) (ts : List (Bool × ℕ)) → t ≡ true → first_failed ts ≡ 0 → first_failed ((t, n) ∷ ts) ≡ 0
pass n ts p q = first_passed n ts p ∙ q

pass_none : first_failed [] ≡ 0
unfolding first_failed
pass_none = refl

layout_numbered : (a b : List ℕ) (rx : Receiver) (store : List ℕ) → numbered (layout_tests a b rx store) ≡ true
unfolding layout_tests
layout_numbered a b rx store = refl

accepted : (rx r : Receiver) (form store a b os : List ℕ) → block0 form ≡ a → block1 form ≡ b → receiver_in a ≡ r → store_in a b ≡ os
    → receiver_good rx ≡ true → length store ≡ store_size → length form ≡ 2 * stored_block → header_good 0 a ≡ true → header_good 0 b ≡ true
    → first_failed (layout_tests a b r os) ≡ 0 → r.own.0 ≡ rx.own.0 → restore_number rx form store ≡ 0
unfolding restore_number restore_tests
accepted rx r form store a b os ea eb er es good room size ga gb layout own =
    rw (ea, eb, er, es)
    (pass 1 _ good
    (pass 1 _ (eq-eqb (length store) store_size room)
    (pass 1 _ (eq-eqb (length form) (2 * stored_block) size)
    (pass 17 _ ga (pass 17 _ gb (first_run _ (layout_tests a b r os) (layout_numbered a b r os) layout
    ∙ pass 19 _ (eq-eqb r.own.0 rx.own.0 own) pass_none))))))

-- ---- what was saved

module _ (rx : Receiver) (store : List ℕ) (s0 s1 : ℕ) (m : Savable rx store) where
  abbrev octet : ℕ → ℕ
  octet = λ i. get_or store i 0

  abbrev a : List ℕ
  a = with_stored_check (written0 rx octet s0 s1)

  abbrev b : List ℕ
  b = with_stored_check (written1 rx octet s0 s1)

  abbrev checked : Bool → Bool
  checked complete = cond complete (message_good (take (block_size * rx.transaction.blocks) (held_store rx store))) true

  message-good : checked (eqb rx.phase 2) ≡ true
  message-good =
      either (eqb rx.phase 2)
      (λ e. let p : rx.phase ≡ 2 = eqb-true rx.phase 2 e in
      ap checked e ∙ ap message_good (first-kept rx store m.room rx.transaction.blocks (fits rx m.good).1 (complete_held rx m.good p))
      ∙ m.checked p)
      (λ e. ap checked e)

  layout_good : first_failed (layout_tests a b rx (held_store rx store)) ≡ 0
  unfolding layout_tests
  layout_good =
      let s : Starts a b = starts_back rx octet s0 s1 m.flags in
      pass 18 _ (eq-eqb (get_or a 0 0) 1 s.one0)
      (pass 18 _ (eq-eqb (get_or a 1 0) 0 s.index0)
      (pass 18 _ (eq-eqb (get_or b 0 0) 1 s.one1)
      (pass 18 _ (eq-eqb (get_or b 1 0) 1 s.index1)
      (pass 18 _ (eq-eqb (get_or a 2 0) (get_or b 2 0) s.stamp0)
      (pass 18 _ (eq-eqb (get_or a 3 0) (get_or b 3 0) s.stamp1)
      (pass 18 _ m.good
      (pass 18 _ (held_store-clear rx store)
      (pass 18 _ (zeros_back rx octet s0 s1 m.flags)
      (pass 18 _ message-good pass_none)))))))))

  abbrev form : List ℕ
  form = saved rx store s0 s1

  block0_is : block0 form ≡ a
  unfolding saved
  block0_is = block0_back rx octet s0 s1 m.flags

  block1_is : block1 form ≡ b
  unfolding saved
  block1_is = block1_back rx octet s0 s1 m.flags

  length-saved : length form ≡ 2 * stored_block
  unfolding saved
  length-saved = length_form rx octet s0 s1 m.flags

  receiver_is : receiver_in a ≡ rx
  receiver_is = receiver_back rx octet s0 s1 m.flags (own_fits rx m.good) (fits rx m.good).0

  store_is : store_in a b ≡ held_store rx store
  unfolding held_store
  store_is = store_back rx octet s0 s1 m.flags

  module _ (other : List ℕ) (room : length other ≡ store_size) where
    number_is : restore_number (fresh_receiver rx.own) form other ≡ 0
    unfolding fresh_receiver
    number_is =
        accepted (fresh_receiver rx.own) rx form other a b (held_store rx store) block0_is block1_is receiver_is store_is
        (fresh_good rx.own (own_fits rx m.good)) room length-saved (checked-good _) (checked-good _) layout_good refl

    receiver-restored : restored (fresh_receiver rx.own) form other ≡ record { number = 0; receiver = rx }
    unfolding restored
    receiver-restored = rw (number_is, block0_is, receiver_is)

    store-restored : after_restore (fresh_receiver rx.own) form other ≡ held_store rx store
    unfolding after_restore
    store-restored = rw (number_is, block0_is, block1_is, store_is)

  pub restores : Restores rx store s0 s1
  restores = record { receiver_back = receiver-restored; store_back = store-restored; octets-kept = block-kept rx store m.room }
