-- `codes::block_field::lane_remainders` meets its contract.
-- Assumes nothing.
use Rattle.codes.proofs.RowWords.{lanes_folded_lem}
use Rattle.codes.proofs.block_field.lane_remainders.Goals as goal

pub returns : goal.returns
returns c = lanes_folded_lem c.args.x c.ranges.x.fits
