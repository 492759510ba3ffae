-- `captures::put_source` meets its contract.
-- Assumes nothing.
use native.Mathlib.Omega.{arith}
use Rattle.texts.proofs.Writing.{done, more}
use Rattle.captures.proofs.Lines.{source-written}
use Rattle.captures.proofs.put_source.Goals as goal

pub returns : goal.returns
returns c =
    let a = c.args in
    source-written _ _ a.t a.index (omega (arith, c.ranges.index)) (omega arith) c.requires
    (more _ _ _ _ _ c.decimal.ensures (more _ _ _ _ _ c.word.ensures (more _ _ _ _ _ c.decimal-2.ensures (done _))))
