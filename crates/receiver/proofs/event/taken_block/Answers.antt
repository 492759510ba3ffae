-- `receiver::event::taken_block` meets its contract.
-- Assumes nothing.
use mathlib.Core.Path.{sym, ◌∙◌}
use native.Mathlib.Omega.{arith}
use lib.Seq.{length-take-le}
use Rattle.receiver.proofs.Taking.{good-blocks, taken-stored, taken-bad, taken-message}
use Rattle.receiver.proofs.event.taken_block.Goals as goal

pub returns-then-not-all_below : goal.returns-then-not-all_below
returns-then-not-all_below c =
    let a = c.args in
    taken-stored a.rx a.store.now (sym c.all_below.ensures ∙ c.if-not-all_below.true)

pub slice_bounds-message_good-end : goal.slice_bounds-message_good-end
slice_bounds-message_good-end c =
    sym (length-take-le _ _ (omega (arith, good-blocks c.args.rx.transaction c.requires.0, c.requires.1)))

pub returns-then-not-message_good : goal.returns-then-not-message_good
returns-then-not-message_good c =
    let a = c.args in
    rw c.none.ensures
    (taken-bad a.rx a.store.now (sym c.all_below.ensures ∙ c.if-not-all_below.false)
    (sym c.message_good.ensures ∙ c.if-not-message_good.true))

pub overflow_sub-result : goal.overflow_sub-result
overflow_sub-result c = omega (arith, good-blocks c.args.rx.transaction c.requires.0)

pub overflow_sub-result-2 : goal.overflow_sub-result-2
overflow_sub-result-2 c = omega (arith, good-blocks c.args.rx.transaction c.requires.0)

pub returns : goal.returns
returns c =
    let a = c.args in
    taken-message a.rx a.store.now (sym c.all_below.ensures ∙ c.if-not-all_below.false)
    (sym c.message_good.ensures ∙ c.if-not-message_good.false)
