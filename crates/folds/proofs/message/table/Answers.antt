-- `folds::message::table` meets its contract.
-- Assumes nothing.
use mathlib.Core.Path.{refl}
use Rattle.polynomials.specs.Remainder.{divide, reduce}
use Rattle.folds.specs.Folds.{message_table}
use Rattle.folds.proofs.message.table.Goals as goal

pub returns : goal.returns
unfolding divide reduce message_table
returns c = refl
