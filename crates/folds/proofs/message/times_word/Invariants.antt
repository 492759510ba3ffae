-- `folds::message::times_word` meets its contract: the entries so far are added.
-- Assumes nothing.
use mathlib.Core.Path.{◌≡◌}
use Rattle.folds.proofs.Tables.{looked_first}
use Rattle.folds.proofs.message.times_word.Given as goal

abbrev pub invariant-loop-k : goal.invariant-loop-k
invariant-loop-k l = l.sum ≡ looked_first l.table l.x l.k
