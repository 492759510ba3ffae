-- `codes::block_field::first_info` meets its contract.
-- Assumes nothing.
use Rattle.codes.proofs.FieldWords.{first_info}
use Rattle.codes.proofs.block_field.first_info.Goals as goal

pub returns : goal.returns
returns c =
    first_info c.args.m c.data_of.result c.data_of-2.result c.data_of-3.result c.data_of-4.result c.data_of-5.result c.data_of-6.result c.data_of-7.result
    c.data_of.ensures c.data_of-2.ensures c.data_of-3.ensures c.data_of-4.ensures c.data_of-5.ensures c.data_of-6.ensures c.data_of-7.ensures
