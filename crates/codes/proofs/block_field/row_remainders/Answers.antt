-- `codes::block_field::row_remainders` meets its contract.
-- Assumes nothing.
use Prim.Native.Nat.{ℕ, ◌^◌, ◌<◌}
use lib.ListN.{get_or}
use mir.Syntax.{w16}
use borrow.Author.Rules.{elem_Fits}
use Rattle.codes.proofs.RowWords.{rows_named}
use Rattle.codes.proofs.block_field.row_remainders.Goals as goal

pub returns : goal.returns
returns c =
    let m = c.args.m in
    let small : (i : ℕ) → get_or m i 0 < 2 ^ 16 = λ i. (elem_Fits w16 w16 m _ i c.well_formed.0.1.1 tt).fits in
    rows_named m small c.four_rows.result c.four_rows-2.result c.four_rows-3.result c.four_rows-4.result c.four_rows.ensures c.four_rows-2.ensures c.four_rows-3.ensures c.four_rows-4.ensures
    c.lane_remainders.result c.lane_remainders-2.result c.lane_remainders-3.result c.lane_remainders-4.result c.lane_remainders.ensures c.lane_remainders-2.ensures c.lane_remainders-3.ensures c.lane_remainders-4.ensures
