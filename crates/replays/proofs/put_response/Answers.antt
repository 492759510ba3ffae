-- `replays::put_response` meets its contract.
-- Assumes nothing.
use Rattle.texts.proofs.Writing.{done, more}
use Rattle.replays.proofs.Text.{response-written}
use Rattle.replays.proofs.put_response.Goals as goal

pub returns : goal.returns
returns c =
    response-written c.args.out.now _ c.requires.0 c.args.octets.now c.requires.1 c.shorter-header.result c.shorter-header.ensures
    (more _ _ _ _ _ c.word.ensures (more _ _ _ _ _ c.octets.ensures (more _ _ _ _ _ c.word-2.ensures (more _ _ _ _ _ c.octets-2.ensures (more _ _ _ _ _ c.word-3.ensures (done _))))))
