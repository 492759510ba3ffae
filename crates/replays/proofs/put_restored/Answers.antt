-- `replays::put_restored` meets its contract.
-- Assumes nothing.
use Rattle.texts.proofs.Writing.{done, more}
use Rattle.replays.proofs.Text.{restored-written}
use Rattle.replays.proofs.put_restored.Goals as goal

pub returns : goal.returns
returns c =
    restored-written c.args.out.now _ c.requires.0 c.args.form.now c.requires.1
    (more _ _ _ _ _ c.word.ensures (more _ _ _ _ _ c.octets.ensures (more _ _ _ _ _ c.word-2.ensures (done _))))
