-- `folds::block::halved` meets its contract.
-- Assumes nothing.
use mathlib.Core.Path.{◌≡◌, refl}
use Prim.Native.Nat.{◌*◌, ◌%◌, ◌^◌, ◌≤◌}
use native.Mathlib.Omega.{arith}
use lib.Pow.{pow_mono}
use Rattle.folds.specs.Folds.{block_halved}
use Rattle.folds.proofs.block.halved.Goals as goal

pub returns : goal.returns
unfolding block_halved
returns g c =
    let k = g.row.K in
    let small : 2 ^ (9 * k) ≤ 2 ^ 36 = pow_mono {i = 9 * k} {j = 36} (omega arith) in
    let one : 1 * 2 ^ (9 * k) % 2 ^ 64 ≡ 2 ^ (9 * k) = omega arith in
    rw one refl
