-- `captures::put_bad` meets its contract.
-- Assumes nothing.
use native.Mathlib.Omega.{arith}
use Rattle.texts.proofs.Writing.{done, more}
use Rattle.captures.proofs.Lines.{bad-written}
use Rattle.captures.proofs.put_bad.Goals as goal

pub returns : goal.returns
returns c =
    let a = c.args in
    bad-written a.out.now a.index a.t (omega (arith, c.ranges.index)) (omega arith) _ c.put_source.ensures _ c.requires
    (more _ _ _ _ _ c.word.ensures (done _))
