-- `bursts::burst::word_across` meets its contract.
-- Assumes nothing.
use native.Mathlib.Omega.{arith}
use Prim.Native.Nat.{◌+◌}
use Rattle.bursts.proofs.Reading.{across}
use Rattle.bursts.proofs.burst.word_across.Goals as goal

pub returns : goal.returns
returns c = let a = c.args in across a.b.now a.k c.word_at-word.result c.at-next.result c.word_at-word.ensures c.at-next.ensures (omega (arith, c.type_inv.b (a.k + 8)))
