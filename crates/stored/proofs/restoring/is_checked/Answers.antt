-- `stored::restoring::is_checked` meets its contract.
-- Assumes nothing.
use mathlib.Core.Path.{sym, ◌∙◌}
use native.Mathlib.Omega.{arith}
use borrow.Author.Tests.{eq-eqb, ne_eqb}
use lib.Seq.{length-take-le}
use Rattle.stored.specs.Parts.{message_checked}
use Rattle.stored.proofs.RestoredBack.{fits}
use Rattle.stored.proofs.restoring.is_checked.Goals as goal

pub returns-then-rx-ne2 : goal.returns-then-rx-ne2
unfolding message_checked
returns-then-rx-ne2 c = rw (ne_eqb _ 2 c.if-rx-ne2.true)

pub slice_bounds-message_good-end : goal.slice_bounds-message_good-end
slice_bounds-message_good-end c =
    sym (length-take-le _ _ (omega (arith, c.told-store, (fits c.args.rx c.requires).1)))

pub shared_ref_as_front-message_good : goal.shared_ref_as_front-message_good
shared_ref_as_front-message_good c = omega (arith, (fits c.args.rx c.requires).1)

pub returns-else-rx-ne2 : goal.returns-else-rx-ne2
unfolding message_checked
returns-else-rx-ne2 c = c.message_good.ensures ∙ rw (eq-eqb _ 2 c.if-rx-ne2.false)
