-- `interleaver::lanes::swapped` meets its contract.
-- Assumes nothing.
use mathlib.Core.Path.{refl}
use Rattle.interleaver.specs.Lanes.{swapped}
use Rattle.interleaver.proofs.lanes.swapped.Goals as goal

pub returns : goal.returns
unfolding swapped
returns g c = refl
