-- `stored::held_store` meets its contract: of the first n blocks those held are copied.
-- Assumes nothing.
use Prim.Native.Nat.{◌≤◌}
use Rattle.messages.specs.Messages.{most_blocks}
use Rattle.transactions.specs.Flags.{flagged}
use Rattle.stored.proofs.HeldStore.{BlocksCopied}
use Rattle.stored.proofs.held_store.Given as goal

abbrev pub invariant-loop-n : goal.invariant-loop-n
invariant-loop-n l = (l.n ≤ most_blocks) × BlocksCopied (flagged l.flags.octets) l.store l.n l.held
