-- `codes::block_field::correct_rows` meets its contract: the first r rows are put right.
-- Assumes nothing.
use Rattle.codes.proofs.RowWords.{rows-kept}
use Rattle.codes.proofs.block_field.correct_rows.Goals as goal

pub returns-then-none_left : goal.returns-then-none_left
returns-then-none_left c = rows-kept c.args.m c.row_remainders-s.result c.row_remainders-s.ensures (c.none_left.ensures c.if-none_left.true)
