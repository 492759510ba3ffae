-- `close` of `replay::Reporter` meets its contract.
-- Assumes nothing.
use Rattle.std.proofs.Common.{sym, arith}
use Rattle.logs.specs.Log.{state_of}
use Rattle.replay.proofs.Turning.{report_none}
use Rattle.replay.proofs.ReporterPrinter.close.Goals as goal

pub returns : goal.returns
returns c = let s = c.args.self.now in (omega arith, sym (report_none (state_of s.receiver s.store)))
