-- `replays::put_refusal` meets its contract.
-- Assumes nothing.
use native.Mathlib.Omega.{arith}
use Rattle.texts.proofs.Writing.{done, more}
use Rattle.replays.proofs.Text.{refusal_written}
use Rattle.replays.proofs.put_refusal.Goals as goal

pub returns : goal.returns
returns c = refusal_written c.args.out.now _ c.requires c.args.number (omega (arith, c.ranges.number)) (more _ _ _ _ _ c.decimal.ensures (more _ _ _ _ _ c.word.ensures (done _)))
