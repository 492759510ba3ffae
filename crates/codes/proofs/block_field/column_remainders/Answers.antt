-- `codes::block_field::column_remainders` meets its contract: the four words hold the remainders of the first bits of every column.
-- Assumes nothing.
use mathlib.Core.Path.{subst}
use Prim.Native.Nat.{ℕ}
use native.Mathlib.Omega.{arith}
use Rattle.codes.specs.Words.{Sliced}
use Rattle.codes.proofs.Slices.{remainders, sliced_none, sliced_more}
use Rattle.codes.proofs.block_field.column_remainders.Goals as goal

pub loop-w-init : goal.loop-w-init
loop-w-init c = sliced_none c.args.m

pub loop-w-preserved : goal.loop-w-preserved
loop-w-preserved c =
    let l = c.loop-w in
    sliced_more c.args.m l.w-index l.a l.b l.c l.d l.invariant

pub returns : goal.returns
returns c =
    let l = c.loop-w in
    subst (λ (n : ℕ). Sliced (remainders c.args.m n) l.a l.b l.c l.d) (omega arith) l.invariant
