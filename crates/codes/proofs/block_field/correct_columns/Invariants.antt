-- `codes::block_field::correct_columns` meets its contract: the rows before the present one are put right, and the four words hold the columns'
-- remainders times x^(3 + r), so that 1 names row r.
-- Assumes nothing.
use mathlib.Core.Path.{◌≡◌}
use Prim.Native.Nat.{ℕ, ◌+◌}
use Rattle.foundation.specs.Bits.{bit}
use Rattle.codes.specs.Hamming.{corrected}
use Rattle.codes.specs.Words.{column, Sliced}
use Rattle.codes.proofs.Slices.{remainders, times_x}
use Rattle.foundation.proofs.Replaced.{Replaced}
use Rattle.codes.proofs.block_field.correct_columns.Given as goal

abbrev pub invariant-loop-w : goal.invariant-loop-w
invariant-loop-w l =
    Replaced (λ r v. (k : ℕ) → bit k v ≡ corrected 13 (column l.fn.m k) r) l.w-index l.fn.m l.w-items
    × Sliced (λ k. times_x (3 + l.w-index) (remainders l.fn.m 13 k)) l.a l.b l.c l.d
