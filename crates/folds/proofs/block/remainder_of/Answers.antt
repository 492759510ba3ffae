-- `folds::block::remainder_of` meets its contract.
-- Assumes nothing.
use mathlib.Core.Path.{ap, ◌∙◌}
use native.Mathlib.Omega.{arith}
use Rattle.folds.specs.Folds.{block_halved}
use Rattle.folds.proofs.Folding.{block_folded_lem}
use Rattle.folds.proofs.block.remainder_of.Goals as goal

pub overflow_cast-result : goal.overflow_cast-result
unfolding block_halved
overflow_cast-result c = omega (arith, c.halved-3.ensures)

pub returns : goal.returns
returns c =
    let a = c.args in
    let f = c.ranges in
    c.halved-3.ensures
    ∙ ap (block_halved 1) (c.halved-2.ensures ∙ ap (block_halved 2) (c.halved.ensures ∙ ap (block_halved 4) c.entered.ensures))
    ∙ block_folded_lem a.high a.low c.requires f.low.fits
