-- `inputs::printing::run` meets its contract: after each turn what was written, and then the text of the rest and of what follows, is the whole
-- text.
-- Assumes nothing.
use Rattle.std.proofs.Common.{◌≡◌, ◌≤◌, length, take}
use Rattle.inputs.specs.Parts.{Between}
use Rattle.inputs.proofs.printing.run.Given as goal

abbrev pub invariant-turns : goal.invariant-turns
invariant-turns g l =
    (length l.input ≡ 65538) × (l.size ≤ 65538)
    × Between g.P.Printer.whole l.initial.printer l.read l.written l.last l.printer (take l.size l.input) (g.R.Read.remaining l.initial.from)
    (g.R.Read.remaining l.from) (g.W.Write.contents l.initial.to) (g.W.Write.contents l.to)
