-- `folds::header::times_word` meets its contract.
-- Assumes nothing.
use mathlib.Core.Path.{refl}
use Rattle.folds.specs.Folds.{header_times}
use Rattle.folds.proofs.header.times_word.Goals as goal

pub returns : goal.returns
unfolding header_times
returns c = refl
