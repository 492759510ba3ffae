-- `codes::block_field::data_rows` meets its contract: the first r rows are filled.
-- Assumes nothing.
use mathlib.Core.Path.{◌∙◌}
use native.Mathlib.Omega.{arith}
use Rattle.foundation.proofs.Runs.{value_lt}
use Rattle.codes.specs.Field.{information}
use Rattle.codes.specs.Words.{data_rows}
use Rattle.foundation.proofs.Filling.{filled_more, filled_done}
use Rattle.codes.proofs.FieldReading.{information_bits}
use Rattle.codes.proofs.FieldWriting.{data_row, data_rest}
use Rattle.codes.proofs.block_field.data_rows.Goals as goal

pub coded_row-requires : goal.coded_row-requires
coded_row-requires c =
    let info = c.args.info in
    let r = c.loop-r.r in
    omega (arith, c.data_row.ensures, value_lt (information info r) (information_bits info r) 0 11)

pub loop-r-preserved : goal.loop-r-preserved
loop-r-preserved c =
    let info = c.args.info in
    let l = c.loop-r in
    let h = c.loop-r-test.true in (
      omega arith,
      filled_more 13 (data_rows info) l.r c.coded_row.result l.m (omega arith)
          (c.coded_row.ensures ∙ data_row info l.r c.data_row.result h c.data_row.ensures) l.invariant.1,
    )

pub returns : goal.returns
returns c =
    let info = c.args.info in
    let l = c.loop-r in
    filled_done 13 (data_rows info) l.r l.m (λ i h k. data_rest info i (omega arith)) l.invariant.1
