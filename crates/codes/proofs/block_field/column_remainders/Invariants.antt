-- `codes::block_field::column_remainders` meets its contract: the four words hold the remainders of the first bits of every column.
-- Assumes nothing.
use Rattle.codes.specs.Words.{Sliced}
use Rattle.codes.proofs.Slices.{remainders}
use Rattle.codes.proofs.block_field.column_remainders.Given as goal

abbrev pub invariant-loop-w : goal.invariant-loop-w
invariant-loop-w l = Sliced (remainders l.w-items l.w-index) l.a l.b l.c l.d
