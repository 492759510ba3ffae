-- `replays::put_contents` meets its contract.
-- Assumes nothing.
use native.Mathlib.Omega.{arith}
use Rattle.logs.specs.Numbers.{code_number}
use Rattle.replays.specs.Text.{line_text}
use Rattle.replays.specs.Parts.{code_text}
use Rattle.replays.proofs.Text.{word_written}
use Rattle.replays.proofs.put_contents.Goals as goal

pub returns-in-Opened : goal.returns-in-Opened
unfolding code_number code_text line_text
returns-in-Opened c = rw c.in-Opened.is (word_written c.args.out.now _ c.requires.0 _ (omega arith) c.word.ensures)

pub returns-in-Repeat : goal.returns-in-Repeat
unfolding code_number code_text line_text
returns-in-Repeat c = rw c.in-Repeat.is (word_written c.args.out.now _ c.requires.0 _ (omega arith) c.word-in-Repeat.ensures)

pub returns-in-Stored : goal.returns-in-Stored
unfolding code_number code_text line_text
returns-in-Stored c = rw c.in-Stored.is (word_written c.args.out.now _ c.requires.0 _ (omega arith) c.word-in-Stored.ensures)

pub returns-in-Bad : goal.returns-in-Bad
unfolding code_number code_text line_text
returns-in-Bad c = rw c.in-Bad.is (word_written c.args.out.now _ c.requires.0 _ (omega arith) c.word-in-Bad.ensures)
