-- `codes::block_field::matrix` meets its contract: over four rows of zeros, the remainders of the columns are their parity.
-- Assumes nothing.
use Rattle.codes.proofs.FieldWriting.{matrix_coded}
use Rattle.codes.proofs.block_field.matrix.Goals as goal

pub returns : goal.returns
returns c =
    let s = c.column_remainders-s in
    let m = c.data_rows-m in
    matrix_coded c.args.info m.result m.ensures s.result.a s.result.b s.result.c s.result.d s.ensures
