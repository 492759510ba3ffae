-- `inputs::fill` meets its contract.
-- Assumes nothing.
use Rattle.std.proofs.Common.{◌∙◌, arith}
use Rattle.std.proofs.lemmas.Result.{err_from_is_err_and}
use Rattle.inputs.proofs.Known.{consumes_behind}
use Rattle.inputs.proofs.fill.Goals as goal

pub returns-in_err-more-clause-taken : goal.returns-in_err-more-clause-taken
returns-in_err-more-clause-taken g c =
    let p = err_from_is_err_and c.from_residual.result c.from_residual.ensures.1 in
    let l = c.loop-size in
    let m = c.in_err-more in
    rw (p.1, p.2) (consumes_behind _ _ _ l.octets l.size m.field-0.0.size _ m.ensures.behind l.invariant.2 m.ensures.taken)

pub loop-size-preserved : goal.loop-size-preserved
loop-size-preserved g c =
    let l = c.loop-size in
    let r = c.read_behind in
    let m = c.in_ok-more in (
      omega (arith, m.ensures.behind.inside l.invariant.0, r.auto.input),
      r.auto.input ∙ l.invariant.1,
      consumes_behind _ _ _ l.octets l.size m.more _ m.ensures.behind l.invariant.2 m.ensures.taken,
    )
