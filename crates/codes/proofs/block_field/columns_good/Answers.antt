-- `codes::block_field::columns_good` meets its contract.
-- Assumes nothing.
use Rattle.codes.proofs.FieldWords.{columns_test}
use Rattle.codes.proofs.block_field.columns_good.Goals as goal

pub returns : goal.returns
returns c =
    let s = c.column_remainders-s.result in
    columns_test c.args.m s.a s.b s.c s.d c.column_remainders-s.ensures
