-- `codes::block_field::coded_row` meets its contract.
-- Assumes nothing.
use mathlib.Core.Path.{◌≡◌, sym, ap, ◌∙◌}
use Prim.Native.Nat.{ℕ, ◌*◌, ◌/◌, ◌%◌, ◌^◌, ◌<◌}
use native.Mathlib.Nat.{div-one, mod-eq_of_lt}
use native.Mathlib.Omega.{arith}
use Rattle.foundation.specs.Bits.{digits}
use Rattle.codes.specs.Hamming.{syndrome}
use Rattle.codes.proofs.FieldWriting.{row_coded}
use Rattle.codes.proofs.block_field.coded_row.Goals as goal

pub returns : goal.returns
returns c =
    let x = c.args.x in
    let s = c.lane_remainders.result in
    let small : x * 2 ^ 4 < 2 ^ 16 = omega arith in
    let row : x * 2 ^ 4 / 2 ^ 0 % 2 ^ 16 ≡ x * 2 ^ 4 = ap (λ (w : ℕ). w % 2 ^ 16) (div-one (x * 2 ^ 4)) ∙ mod-eq_of_lt small in
    let first : s / 2 ^ 0 % 16 ≡ s % 16 = ap (λ (w : ℕ). w % 16) (div-one s) in
    row_coded x c.requires (s % 16) (sym first ∙ c.lane_remainders.ensures 0 (omega arith) ∙ ap (λ (w : ℕ). syndrome (digits 15 w) 15) row)
