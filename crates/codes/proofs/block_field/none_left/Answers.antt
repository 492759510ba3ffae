-- `codes::block_field::none_left` meets its contract.
-- Assumes nothing.
use Rattle.codes.proofs.RowWords.{words_zero}
use Rattle.codes.proofs.block_field.none_left.Goals as goal

pub returns : goal.returns
returns c = λ t. words_zero c.args.s t
