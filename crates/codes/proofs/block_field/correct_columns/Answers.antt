-- `codes::block_field::correct_columns` meets its contract: the rows before the present one are put right, and the four words hold the columns'
-- remainders times x^(3 + r), so that 1 names row r.
-- Assumes nothing.
use mathlib.Core.Path.{◌≡◌, ap, subst, ◌∙◌}
use Prim.Native.Nat.{ℕ, ◌+◌, ◌<◌}
use native.Mathlib.Omega.{arith}
use lib.Bits.{bit_xor}
use lib.ListN.{get_or, length}
use Rattle.foundation.specs.Bits.{bit}
use Rattle.codes.specs.Hamming.{corrected}
use Rattle.codes.specs.Words.{column, Sliced}
use Rattle.codes.proofs.Slices.{remainders, times_x, ones, sliced_cube, sliced_times, row_right}
use Rattle.foundation.proofs.Replaced.{replaced_none, replaced_more}
use Rattle.codes.proofs.block_field.correct_columns.Goals as goal

pub loop-w-init : goal.loop-w-init
loop-w-init c =
    let m = c.args.m in
    let s = c.column_remainders-s.result in (
      replaced_none (λ r v. (k : ℕ) → bit k v ≡ corrected 13 (column m k) r) m,
      sliced_cube (remainders m 13) s.a s.b s.c s.d c.column_remainders-s.ensures,
    )

pub loop-w-preserved : goal.loop-w-preserved
loop-w-preserved c =
    let l = c.loop-w in
    let m = c.args.m in
    let r : ℕ = l.w-index in
    let turn : r < 13 = omega arith in
    let wide : r < length m = omega arith in
    let next : 3 + r + 1 ≡ 3 + (r + 1) = omega arith in
    let right : (k : ℕ) → bit k (bit_xor (get_or l.w-items r 0) (ones l.a l.b l.c l.d)) ≡ corrected 13 (column m k) r =
    λ k. ap (λ (x : ℕ). bit k (bit_xor x (ones l.a l.b l.c l.d))) (l.invariant.0.left r (omega arith)) ∙ row_right m r l.a l.b l.c l.d turn l.invariant.1 k in (
      replaced_more (λ r v. (k : ℕ) → bit k v ≡ corrected 13 (column m k) r) r (bit_xor (get_or l.w-items r 0) (ones l.a l.b l.c l.d)) m l.w-items wide right l.invariant.0,
      subst (λ (n : ℕ). Sliced (λ k. times_x n (remainders m 13 k)) l.d (bit_xor l.a l.d) l.b l.c) next (sliced_times (remainders m 13) (3 + r) l.a l.b l.c l.d l.invariant.1),
    )

pub returns : goal.returns
returns c = λ r h k. c.loop-w.invariant.0.done r (omega arith) k
