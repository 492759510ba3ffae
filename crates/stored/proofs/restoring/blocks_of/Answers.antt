-- `stored::restoring::blocks_of` meets its contract.
-- Assumes nothing.
use mathlib.Core.Path.{◌∙◌}
use native.Mathlib.Omega.{arith}
use Rattle.stored.specs.Stored.{block0, block1}
use Rattle.stored.proofs.restoring.blocks_of.Goals as goal

pub returns : goal.returns
unfolding block0 block1
returns c =
    let first = c.in_ok-first.ensures.cases in
    let second = c.in_ok-second.ensures.cases in
    (omega (arith, first.2, second.long), first.0, second.same ∙ first.1)
