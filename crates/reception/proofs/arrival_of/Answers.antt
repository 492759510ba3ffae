-- `reception::arrival_of` meets its contract.
-- Assumes nothing.
use mathlib.Core.Path.{sym, ◌∙◌}
use Rattle.std.proofs.lemmas.Result.{err_from_is_err_and}
use Rattle.reception.proofs.Arriving.{arrival_refused, arrival_good}
use Rattle.reception.proofs.arrival_of.Goals as goal

pub returns-in_err-d : goal.returns-in_err-d
returns-in_err-d c =
    let p = err_from_is_err_and c.from_residual.result c.from_residual.ensures.1 in
    rw (p.1, p.2) (arrival_refused c.args.datagram.now _ (sym c.read.ensures ∙ c.in_err-d.was))

pub returns : goal.returns
returns c = arrival_good c.args.datagram.now _ (sym c.read.ensures ∙ c.in_ok-d.was) c.from.result c.from.ensures
