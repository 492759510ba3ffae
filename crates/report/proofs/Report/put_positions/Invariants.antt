-- `put_positions` counts nothing, and forgets nothing that could not be written.
-- Assumes nothing.
use Rattle.report.specs.Counted.{SameCounts}
use Rattle.report.proofs.Report.put_positions.Given as goal

abbrev pub invariant-loop-i : goal.invariant-loop-i
invariant-loop-i g l = SameCounts l.initial.self.tally l.self.tally
