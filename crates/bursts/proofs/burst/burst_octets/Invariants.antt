-- `bursts::burst::burst_octets` meets its contract: the first j octets are filled.
-- Assumes nothing.
use Prim.Native.Nat.{◌*◌, ◌-◌, ◌≤◌}
use Rattle.foundation.specs.Bits.{value_of}
use Rattle.foundation.proofs.Filling.{Filled}
use Rattle.bursts.specs.Bursts.{burst_bits}
use Rattle.bursts.proofs.burst.burst_octets.Given as goal

abbrev pub invariant-loop-j : goal.invariant-loop-j
invariant-loop-j l = (l.j ≤ 33) × Filled 33 (λ k. value_of (burst_bits l.f l.slot l.sync) (8 * k) 8) l.j l.b

abbrev pub decreases-loop-j : goal.decreases-loop-j
decreases-loop-j l = 33 - l.j
