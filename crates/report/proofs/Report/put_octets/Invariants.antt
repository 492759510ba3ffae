-- `put_octets` counts nothing, and forgets nothing that could not be written.
-- Assumes nothing.
use Rattle.report.specs.Counted.{SameCounts}
use Rattle.report.proofs.Report.put_octets.Given as goal

abbrev pub invariant-loop-octet : goal.invariant-loop-octet
invariant-loop-octet g l = SameCounts l.initial.self.tally l.self.tally
