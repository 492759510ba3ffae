-- `all_where` stores no more places than it has looked at, so they fit.
-- Assumes nothing.
use Rattle.std.proofs.Common.{◌≤◌}
use Rattle.vectors.proofs.block_fields.all_where.Given as goal

abbrev pub invariant-loop-p : goal.invariant-loop-p
invariant-loop-p g l = l.n ≤ l.p
