-- `folds::header::halved` meets its contract.
-- Assumes nothing.
use mathlib.Core.Path.{◌≡◌, refl}
use Prim.Native.Nat.{◌*◌, ◌%◌, ◌^◌, ◌≤◌}
use native.Mathlib.Omega.{arith}
use lib.Pow.{pow_mono}
use Rattle.folds.specs.Folds.{header_halved}
use Rattle.folds.proofs.header.halved.Goals as goal

pub returns : goal.returns
unfolding header_halved
returns g c =
    let k = g.row.K in
    let small : 2 ^ (16 * k) ≤ 2 ^ 32 = pow_mono {i = 16 * k} {j = 32} (omega arith) in
    let one : 1 * 2 ^ (16 * k) % 2 ^ 64 ≡ 2 ^ (16 * k) = omega arith in
    rw one refl
