-- `folds::header::check_of` meets its contract.
-- Assumes nothing.
use mathlib.Core.Path.{ap, ◌∙◌}
use Prim.Native.Nat.{ℕ, ◌%◌, ◌^◌}
use Rattle.polynomials.specs.Words.{up}
use Rattle.folds.specs.Folds.{header_halved}
use Rattle.folds.proofs.Folding.{header-checked}
use Rattle.folds.proofs.header.check_of.Goals as goal

pub returns : goal.returns
returns c =
    let x = c.args.x in
    ap (λ (y : ℕ). y % 2 ^ 16)
    (c.halved-3.ensures ∙ ap (λ (y : ℕ). header_halved 1 (up 16 y)) (c.halved-2.ensures ∙ ap (header_halved 1) c.halved.ensures))
    ∙ header-checked x c.ranges.x.fits
