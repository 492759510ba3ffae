-- `stored::held_store` meets its contract: of the first n blocks those held are copied.
-- Assumes nothing.
use Prim.Native.Nat.{◌<◌}
use mathlib.Core.Path.{◌≡◌, sym, ◌∙◌}
use native.Mathlib.Omega.{arith}
use Rattle.messages.specs.Messages.{most_blocks}
use Rattle.transactions.specs.Flags.{flagged}
use Rattle.stored.proofs.HeldStore.{blocks-none, block_copied, block-left, blocks-all}
use Rattle.stored.proofs.held_store.Goals as goal
use Rattle.stored.proofs.held_store.Goals.{then-is_set, else-is_set}

pub loop-n-init : goal.loop-n-init
loop-n-init c =
    let a = c.args in (omega arith, blocks-none (flagged a.flags.octets) a.store.now)

pub loop-n-preserved : goal.loop-n-preserved
loop-n-preserved c =
    let l = c.loop-n in
    let f = flagged c.args.flags.octets in
    let s = sym c.is_set.ensures in
    let h : l.n < most_blocks = c.loop-n-test.true in (
      omega arith,
      elim c.if-is_set.branch [
        | then-is_set w ↦ block_copied f c.args.store.now l.n l.held h l.invariant.1 c.if-is_set.held (s ∙ w.if-is_set.true) c.told-store (w.held-is ∙ w.put.ensures)
        | else-is_set w ↦ block-left f c.args.store.now l.n l.held h l.invariant.1 c.if-is_set.held (s ∙ w.if-is_set.false) w.held-is
      ],
    )

pub returns : goal.returns
returns c =
    let l = c.loop-n in
    let a = c.args in
    let done : l.n ≡ most_blocks = omega arith in
    blocks-all (flagged a.flags.octets) a.store.now l.n l.held done l.invariant.1
