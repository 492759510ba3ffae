-- `codes::block_field::data_rows` meets its contract: the first r rows are filled.
-- Assumes nothing.
use Prim.Native.Nat.{◌-◌, ◌≤◌}
use Rattle.codes.specs.Words.{data_rows}
use Rattle.foundation.proofs.Filling.{Filled}
use Rattle.codes.proofs.block_field.data_rows.Given as goal

abbrev pub invariant-loop-r : goal.invariant-loop-r
invariant-loop-r l = (l.r ≤ 9) × Filled 13 (data_rows l.info) l.r l.m

abbrev pub decreases-loop-r : goal.decreases-loop-r
decreases-loop-r l = 9 - l.r
