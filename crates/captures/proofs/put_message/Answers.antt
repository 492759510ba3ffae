-- `captures::put_message` meets its contract.
-- Assumes nothing.
use native.Mathlib.Omega.{arith}
use Rattle.texts.proofs.Writing.{done, more}
use Rattle.captures.proofs.Lines.{message-written, room-behind}
use Rattle.captures.proofs.put_message.Goals as goal

pub put_size-requires : goal.put_size-requires
put_size-requires c =
    let a = c.args in
    (room-behind a.out.now a.index a.t (omega (arith, c.ranges.index)) (omega arith) _ c.put_source.ensures 8 (omega (arith, c.requires.0)), c.requires.1)

pub returns : goal.returns
returns c =
    let a = c.args in
    let g = c.well_formed in
    message-written a.out.now a.index a.t (omega (arith, c.ranges.index)) (omega (arith, g)) _ c.put_source.ensures _
    a.message.now (omega (arith, g)) c.requires.1 c.requires.0 _ c.put_size.ensures
    (more _ _ _ _ _ c.word.ensures (more _ _ _ _ _ c.octets.ensures (more _ _ _ _ _ c.word-2.ensures (done _))))
