-- `polynomials::shifts` meets its contract: after each number of turns the register is r times that power of x.
-- Assumes nothing.
use mathlib.Core.Path.{refl, ap, ◌∙◌}
use Prim.Native.Nat.{ℕ, ◌+◌, ◌^◌}
use Rattle.foundation.specs.Bits.{zeros}
use Rattle.polynomials.specs.Remainder.{divide}
use Rattle.polynomials.proofs.Check.{times_times}
use Rattle.polynomials.proofs.shifts.Goals as goal

pub loop-init : goal.loop-init
unfolding divide
loop-init c = refl

pub loop-preserved : goal.loop-preserved
loop-preserved c =
    let a = c.args in
    let t = c.loop in
    c.shift-s.ensures ∙ ap (λ (x : ℕ). divide 32 (2 ^ 32 + a.g) x zeros 1) t.invariant ∙ times_times 32 (2 ^ 32 + a.g) a.r t.counter 1
