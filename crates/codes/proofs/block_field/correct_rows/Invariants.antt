-- `codes::block_field::correct_rows` meets its contract: the first r rows are put right.
-- Assumes nothing.
use Prim.Native.Nat.{◌-◌, ◌≤◌}
use lib.ListN.{get_or}
use Rattle.codes.specs.Words.{RowRight}
use Rattle.foundation.proofs.Replaced.{Replaced}
use Rattle.codes.proofs.block_field.correct_rows.Given as goal

abbrev pub invariant-loop-r : goal.invariant-loop-r
invariant-loop-r l = (l.r ≤ 13) × Replaced (λ r. RowRight (get_or l.initial.out r 0)) l.r l.initial.out l.out

abbrev pub decreases-loop-r : goal.decreases-loop-r
decreases-loop-r l = 13 - l.r
