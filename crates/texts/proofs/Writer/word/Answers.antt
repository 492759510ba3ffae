-- `texts::Writer::word` meets its contract.
-- Assumes nothing.
use mathlib.Core.Path.{refl}
use native.Mathlib.Omega.{arith}
use Rattle.texts.proofs.Writing.{end_of_room, no_room}
use Rattle.texts.proofs.Writer.word.Goals as goal

pub returns-then-word-room : goal.returns-then-word-room
returns-then-word-room c =
    let w = c.args.self.now in
    record {
      same_memory = refl;
      text = c.put.ensures;
      end = end_of_room w.text.now w.end c.args.word.now (omega (arith, c.room.ensures, c.if-word-room.true));
    }

pub returns-else-word-room : goal.returns-else-word-room
returns-else-word-room c =
    let w = c.args.self.now in
    let none = no_room w.text.now w.end c.args.word.now (omega (arith, c.room.ensures, c.if-word-room.false)) in
    record { same_memory = refl; text = none.0; end = none.1 }
