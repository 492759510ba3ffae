-- `interleaver::lanes::swapped_both` meets its contract.
-- Assumes nothing.
use mathlib.Core.Path.{ap, ◌∙◌}
use Rattle.interleaver.specs.Lanes.{swapped, twos, within}
use Rattle.interleaver.proofs.lanes.swapped_both.Goals as goal

pub returns : goal.returns
unfolding within
returns c = c.swapped-2.ensures ∙ ap (swapped 30 twos) c.swapped.ensures
