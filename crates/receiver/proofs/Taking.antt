-- What a new block leads to, by its tests.
-- Assumes nothing.
use mathlib.Core.Path.{◌≡◌}
use mathlib.Core.Bool.{true, false}
use mathlib.Core.List.{List}
use Prim.Native.Nat.{ℕ, ◌+◌, ◌*◌, ◌-◌, ◌≤◌}
use native.Mathlib.Omega.{arith}
use lib.ListN.{take}
use borrow.Author.Tests.{leb-true}
use Rattle.foundation.specs.Order.{every}
use Rattle.checks.specs.Checks.{message_good}
use Rattle.messages.specs.Messages.{block_size, check_size}
use Rattle.transactions.specs.Flags.{flagged}
use Rattle.transactions.specs.declared.header.Transaction.{Transaction}
use Rattle.foundation.proofs.Order.{all-at}
use Rattle.receiver_state.specs.declared.Receiver.{Receiver}
use Rattle.receiver_state.specs.Receiver.{no_flags, all_held, transaction_good}
use Rattle.receiver.specs.Events.{Stored, Bad, Message, answered, changed, completed, taken}

pub good-blocks : (t : Transaction) → transaction_good t ≡ true → (1 ≤ t.blocks) × (t.blocks ≤ 63) × (t.pad + 4 ≤ 10 * t.blocks)
unfolding transaction_good
good-blocks t e =
    let few : 1 ≤ t.blocks = leb-true _ _ (all-at _ 4 e) in
    let room : t.pad ≤ 10 * t.blocks - 4 = leb-true _ _ (all-at _ 6 e) in
    (few, leb-true _ _ (all-at _ 5 e), omega arith)

module _ (rx : Receiver) (store : List ℕ) where
  pub taken-stored : every rx.transaction.blocks (flagged rx.flags.octets) ≡ false → answered rx Stored ≡ taken rx store
  unfolding taken all_held
  taken-stored h = rw h

  module _ (all : every rx.transaction.blocks (flagged rx.flags.octets) ≡ true) where
    pub taken-bad : message_good (take (10 * rx.transaction.blocks) store) ≡ false → answered (changed rx 1 no_flags) Bad ≡ taken rx store
    unfolding taken all_held completed
    taken-bad g = rw (all, g)

    pub taken-message : message_good (take (10 * rx.transaction.blocks) store) ≡ true
        → answered (changed rx 2 rx.flags.octets) (Message (block_size * rx.transaction.blocks - check_size - rx.transaction.pad)) ≡ taken rx store
    unfolding taken all_held completed
    taken-message g = rw (all, g)
