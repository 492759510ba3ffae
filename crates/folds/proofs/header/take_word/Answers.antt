-- `folds::header::take_word` meets its contract.
-- Assumes nothing.
use mathlib.Core.Path.{ap, ◌∙◌}
use Prim.Native.Nat.{ℕ}
use lib.Bits.{bit_xor}
use Rattle.folds.proofs.Folding.{header-taken}
use Rattle.folds.proofs.header.take_word.Goals as goal

pub returns : goal.returns
returns c =
    let a = c.args in
    ap (λ (x : ℕ). bit_xor x a.w) c.times_word.ensures ∙ header-taken a.r a.w c.ranges.r.fits c.ranges.w.fits
