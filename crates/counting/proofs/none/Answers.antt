-- `counting::none` meets its contract.
-- Assumes nothing.
use Rattle.std.proofs.Common.{refl}
use Rattle.counting.specs.Counts.{counts_of, how_many}
use Rattle.counting.proofs.none.Goals as goal

pub returns : goal.returns
unfolding counts_of how_many
returns c = refl
