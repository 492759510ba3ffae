-- `captures::put_number` meets its contract.
-- Assumes nothing.
use native.Mathlib.Omega.{arith}
use Rattle.texts.proofs.Writing.{done, more}
use Rattle.captures.proofs.Lines.{number-written}
use Rattle.captures.proofs.put_number.Goals as goal

pub returns : goal.returns
returns c =
    let a = c.args in
    let f = c.ranges in
    number-written _ _ a.index a.number (omega (arith, f.index)) (omega (arith, f.number)) c.requires
    (more _ _ _ _ _ c.decimal.ensures (more _ _ _ _ _ c.word.ensures (more _ _ _ _ _ c.decimal-2.ensures (more _ _ _ _ _ c.word-2.ensures (done _)))))
