-- `receiver_state::flags_good` meets its contract.
-- Assumes nothing.
use borrow.Author.Tests.{ne_eqb}
use Rattle.foundation.specs.Order.{all}
use Rattle.foundation.proofs.Tests.{last}
use Rattle.receiver_state.specs.Receiver.{none_from}
use Rattle.receiver_state.specs.Parts.{flags_good}
use Rattle.receiver_state.proofs.flags_good.Goals as goal

pub returns-else-phase-eq2 : goal.returns-else-phase-eq2
unfolding flags_good none_from all
returns-else-phase-eq2 c =
    let none = c.none_from-none_past in
    rw (ne_eqb _ 1 c.if-phase-eq1.false, ne_eqb _ 2 c.if-phase-eq2.false, ← none.ensures) (last none.result)
