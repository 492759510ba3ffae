-- `codes::block_field::data_row` meets its contract.
-- Assumes nothing.
use native.Mathlib.Omega.{arith}
use Rattle.codes.proofs.FieldWriting.{front_row, back_row}
use Rattle.codes.proofs.block_field.data_row.Goals as goal

pub returns-then-r-lt6 : goal.returns-then-r-lt6
returns-then-r-lt6 c = front_row c.args.info c.args.r c.word_at.result c.if-r-lt6.true c.word_at.ensures

pub returns : goal.returns
returns c = back_row c.args.info c.args.r c.word_at-2.result (omega arith) (omega arith) c.word_at-2.ensures
