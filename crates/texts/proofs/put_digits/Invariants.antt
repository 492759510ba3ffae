-- `texts::put_digits` meets its contract.
-- Assumes nothing.
use Rattle.texts.proofs.Writing.{Spelled}
use Rattle.texts.proofs.put_digits.Given as goal

abbrev pub invariant-loop-i : goal.invariant-loop-i
invariant-loop-i l = Spelled l.initial.text l.at l.octets l.i l.text
