-- `replay::run` meets its contract.
-- Assumes nothing.
use Rattle.std.proofs.lemmas.Result.{IfOk-weaker, on_ok_weaker}
use Rattle.inputs.specs.Inputs.{behind_own}
use Rattle.inputs.specs.declared.printing.Ended.{Ended}
use Rattle.inputs.proofs.Turns.{as_text}
use Rattle.inputs.proofs.Known.{written_as}
use Rattle.replay.specs.Reports.{report_of}
use Rattle.replay.specs.declared.Reporter.{Reporter}
use Rattle.replay.proofs.Turning.{whole, fresh, reported_whole}
use Rattle.replay.proofs.run.Goals as goal

pub returns-clause-counted : goal.returns-clause-counted
returns-clause-counted g c =
    let a = c.args in
    let all = reported_whole a.own.now c.start.result c.start.ensures (λ j. (c.type_inv.own j).fits) in
    IfOk-weaker c.run_behind.result _ _ (λ (x : Ended). as_text {S = Reporter} (behind_own whole a.own.now) (fresh c.start.result) report_of a.own.now
    x.read x.written (λ os o. all os (λ _. o))) c.run_behind.ensures.counted

pub returns-clause-known : goal.returns-clause-known
returns-clause-known g c =
    let a = c.args in
    let all = reported_whole a.own.now c.start.result c.start.ensures (λ j. (c.type_inv.own j).fits) in
    on_ok_weaker c.run_behind.result (written_as {S = Reporter} whole (fresh c.start.result) a.own.now (g.R.Read.remaining a.from.now)
    (g.W.Write.contents a.to.now) (g.W.Write.contents c.run_behind.new.to) report_of a.own.now all) c.run_behind.ensures.known
