-- `captures::put_end` meets its contract.
-- Assumes nothing.
use native.Mathlib.Omega.{arith}
use Rattle.texts.proofs.Writing.{done, more}
use Rattle.captures.proofs.Lines.{end_written}
use Rattle.captures.proofs.put_end.Goals as goal

pub returns : goal.returns
returns c =
    let a = c.args in
    let g = c.well_formed in
    end_written a.c (omega (arith, g)) (omega (arith, g)) (omega (arith, g)) _ _ c.requires
    (more _ _ _ _ _ c.word.ensures (more _ _ _ _ _ c.decimal.ensures (more _ _ _ _ _ c.word-2.ensures (more _ _ _ _ _ c.decimal-2.ensures (more _ _ _ _ _ c.word-3.ensures (more _ _ _ _ _ c.decimal-3.ensures (more _ _ _ _ _ c.word-4.ensures (done _))))))))
