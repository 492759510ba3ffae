-- `captures::put_size` meets its contract.
-- Assumes nothing.
use native.Mathlib.Omega.{arith}
use Rattle.texts.proofs.Writing.{done, more}
use Rattle.captures.proofs.Lines.{size-written}
use Rattle.captures.proofs.put_size.Goals as goal

pub returns : goal.returns
returns c =
    let a = c.args in
    size-written _ _ a.t a.size (omega arith) c.requires.1 c.requires.0
    (more _ _ _ _ _ c.word.ensures (more _ _ _ _ _ c.decimal.ensures (more _ _ _ _ _ c.word-2.ensures (more _ _ _ _ _ c.decimal-2.ensures (done _)))))
