-- `bursts::burst::burst_octets` meets its contract: the first j octets are filled.
-- Assumes nothing.
use Prim.Native.Nat.{◌*◌}
use native.Mathlib.Omega.{arith}
use lib.Dec.{lit≤}
use Rattle.foundation.specs.Bits.{value_of, octets}
use Rattle.foundation.proofs.Filling.{filled-start, filled_done}
use Rattle.bursts.specs.Bursts.{burst_bits}
use Rattle.bursts.proofs.burst.burst_octets.Goals as goal

pub loop-j-init : goal.loop-j-init
loop-j-init c =
    let a = c.args in
    (lit≤ tt, filled-start 33 (λ k. value_of (burst_bits a.f.now a.slot a.sync) (8 * k) 8) 0 (λ i h. absurd (omega arith)))

pub returns : goal.returns
unfolding octets
returns c =
    let a = c.args in
    let l = c.loop-j in
    filled_done 33 (λ k. value_of (burst_bits a.f.now a.slot a.sync) (8 * k) 8) l.j l.b (λ i h k. absurd (omega arith)) l.invariant.1
