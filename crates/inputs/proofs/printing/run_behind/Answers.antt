-- `inputs::printing::run_behind` meets its contract.
-- Assumes nothing.
use Rattle.std.proofs.Common.{[], refl, ap, length, arith}
use Rattle.std.proofs.lemmas.Result.{IfOk-weaker, on_ok_weaker}
use Rattle.foundation.proofs.OctetLists.{octets-zeros}
use Rattle.inputs.specs.Inputs.{behind_own}
use Rattle.inputs.specs.declared.printing.Ended.{Ended}
use Rattle.inputs.proofs.Turns.{as_text}
use Rattle.inputs.proofs.Known.{behind_short, behind_whole, written_short, written_whole}
use Rattle.inputs.proofs.printing.run_behind.Goals as goal

pub returns-then-own-lt-ADDRESS-clause-counted : goal.returns-then-own-lt-ADDRESS-clause-counted
returns-then-own-lt-ADDRESS-clause-counted g c =
    let a = c.args in
    let short = behind_short g.P.Printer.whole a.printer.now a.own.now c.if-own-lt-ADDRESS.true [] in
    record {
      read = [];
      written = behind_own g.P.Printer.whole a.own.now a.printer.now [];
      octets-read = octets-zeros 0;
      as_many = refl;
      so_long = omega (arith, c.in_ok-end.ensures.0, ap length short);
      whole = refl;
    }

pub returns-then-own-lt-ADDRESS-clause-known : goal.returns-then-own-lt-ADDRESS-clause-known
returns-then-own-lt-ADDRESS-clause-known g c =
    let a = c.args in
    written_short g.P.Printer.whole a.printer.now a.own.now (g.R.Read.remaining a.from.now) (g.W.Write.contents a.to.now) (g.W.Write.contents c.close.new.to)
    c.if-own-lt-ADDRESS.true c.in_ok-end.ensures.1

pub returns-clause-counted : goal.returns-clause-counted
returns-clause-counted g c =
    let a = c.args in
    IfOk-weaker c.run.result _ _ (λ (x : Ended). as_text g.P.Printer.whole a.printer.now (behind_own g.P.Printer.whole a.own.now) a.printer.now x.read x.written
    (λ os _. behind_whole g.P.Printer.whole a.printer.now a.own.now c.if-own-lt-ADDRESS.false os)) c.run.ensures.counted

pub returns-clause-known : goal.returns-clause-known
returns-clause-known g c =
    let a = c.args in
    on_ok_weaker c.run.result (written_whole g.P.Printer.whole a.printer.now a.own.now (g.R.Read.remaining a.from.now) (g.W.Write.contents a.to.now)
    (g.W.Write.contents c.run.new.to) c.if-own-lt-ADDRESS.false) c.run.ensures.known
