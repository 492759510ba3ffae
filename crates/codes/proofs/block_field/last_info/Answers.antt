-- `codes::block_field::last_info` meets its contract.
-- Assumes nothing.
use Rattle.codes.proofs.FieldWords.{last_info}
use Rattle.codes.proofs.block_field.last_info.Goals as goal

pub returns : goal.returns
returns c = last_info c.args.m c.data_of.result c.data_of-2.result c.data_of-3.result c.data_of.ensures c.data_of-2.ensures c.data_of-3.ensures
