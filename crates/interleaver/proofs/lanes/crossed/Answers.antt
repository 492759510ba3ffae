-- `interleaver::lanes::crossed` meets its contract.
-- Assumes nothing.
use mathlib.Core.Path.{refl}
use Rattle.interleaver.specs.Lanes.{crossed_high, crossed_low}
use Rattle.interleaver.proofs.lanes.crossed.Goals as goal

pub returns : goal.returns
unfolding crossed_high crossed_low
returns g c = (refl, refl)
