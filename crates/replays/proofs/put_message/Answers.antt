-- `replays::put_message` meets its contract.
-- Assumes nothing.
use Rattle.texts.proofs.Writing.{done, more}
use Rattle.replays.proofs.Text.{message-written}
use Rattle.replays.proofs.put_message.Goals as goal

pub returns : goal.returns
returns c =
    message-written c.args.out.now _ c.requires.0 c.args.message.now c.requires.1
    (more _ _ _ _ _ c.word.ensures (more _ _ _ _ _ c.decimal.ensures (more _ _ _ _ _ c.word-2.ensures (more _ _ _ _ _ c.octets.ensures (more _ _ _ _ _ c.word-3.ensures (done _))))))
