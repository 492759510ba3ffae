-- `inputs::read_behind` meets its contract.
-- Assumes nothing.
use Rattle.std.proofs.Common.{arith, subst}
use Rattle.std.specs.Io.KnownBytes.{Consumes}
use Rattle.inputs.proofs.Known.{part_behind}
use Rattle.inputs.proofs.read_behind.Goals as goal

pub returns-in-Ok-clause-taken : goal.returns-in-Ok-clause-taken
returns-in-Ok-clause-taken g c =
    let a = c.args in
    subst (Consumes (g.R.Read.remaining a.reader.now) (g.R.Read.remaining c.read.new.self))
    (part_behind a.input.now c.read.new.buf _ a.first c.in-Ok.more (omega (arith, c.if-input-first.false)) c.in-Ok.ensures.bound.0) c.in-Ok.ensures.bytes.0
