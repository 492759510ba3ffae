-- `codes::block_field::correct_row` meets its contract.
-- Assumes nothing.
use mathlib.Core.Path.{sym, subst}
use Prim.Native.Nat.{ℕ, ◌<◌}
use native.Mathlib.Omega.{arith}
use Rattle.foundation.specs.Bits.{digits}
use Rattle.foundation.proofs.Runs.{digits_bits}
use Rattle.codes.proofs.HammingWords.{syndrome-lt}
use Rattle.codes.proofs.RowWords.{row_fixed}
use Rattle.codes.proofs.block_field.correct_row.Goals as goal

pub overflow_mul-k : goal.overflow_mul-k
overflow_mul-k c = let l : c.args.s < 16 = subst (λ (x : ℕ). x < 16) (sym c.requires) (syndrome-lt (digits 15 c.args.w) (digits_bits 15 c.args.w) 15) in omega arith

pub overflow_shr-k : goal.overflow_shr-k
overflow_shr-k c = let l : c.args.s < 16 = subst (λ (x : ℕ). x < 16) (sym c.requires) (syndrome-lt (digits 15 c.args.w) (digits_bits 15 c.args.w) 15) in omega arith

pub returns : goal.returns
returns c = row_fixed c.args.w c.args.s c.requires
