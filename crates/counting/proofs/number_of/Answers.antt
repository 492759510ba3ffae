-- `counting::number_of` meets its contract.
-- Assumes nothing.
use Rattle.transactions.specs.Answers.{number_of}
use Rattle.receiver.specs.Events as event
use Rattle.reception.specs.Reception.{said}
use Rattle.counting.specs.Counts.{answer_number}
use Rattle.counting.proofs.Counting.{no_number_by}
use Rattle.counting.proofs.number_of.Goals as goal

pub returns-in-Ok-clause-number : goal.returns-in-Ok-clause-number
returns-in-Ok-clause-number g c = rw c.in-Ok.is (no_number_by g.E.Numbered.number c.in-Ok.field-0)

pub returns-in-Err-clause-number : goal.returns-in-Err-clause-number
unfolding answer_number said event.said number_of
returns-in-Err-clause-number g c = rw c.in-Err.is c.number.ensures

pub returns-in-Err-clause-before_any : goal.returns-in-Err-clause-before_any
unfolding answer_number said number_of
returns-in-Err-clause-before_any g c = rw c.in-Err.is c.number.ensures
