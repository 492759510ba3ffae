-- `inputs::printing::answer` meets its contract.
-- Assumes nothing.
use Rattle.std.proofs.Common.{take, arith, length-take-le}
use Rattle.inputs.proofs.Moving.{rest_first}
use Rattle.inputs.proofs.Turns.{turn}
use Rattle.inputs.proofs.printing.answer.Goals as goal

pub returns : goal.returns
unfolding turn
returns g c =
    let a = c.args in
    let p = c.answer-printed in
    let f = c.to_front-kept in
    let os = take a.size a.input.now in
    let inside = length-take-le a.size a.input.now c.requires in (
      turn g.P.Printer.whole a.printer.now _ os a.last p.result _ f.result _ p.ensures f.ensures.0 (rest_first os p.result.taken f.result _ _ f.ensures.0 f.ensures.1),
      c.in_ok-put.ensures,
      λ t k. p.ensures.takes_full t (omega (arith, f.ensures.0, k, p.ensures.takes)),
    )
