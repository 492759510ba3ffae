-- `captures::put_line` meets its contract.
-- Assumes nothing.
use mathlib.Core.Path.{ap, subst, ◌∙◌}
use Prim.Native.Nat.{ℕ}
use Rattle.texts.specs.Parts.{AtMost}
use Rattle.receiver.specs.Events as event
use Rattle.reception.specs.Reception.{Confirmed, said}
use Rattle.counting.specs.Counts.{answer_number}
use Rattle.counting.proofs.Counting.{told_refusal}
use Rattle.captures.specs.Lines.{number_line, line_room}
use Rattle.captures.specs.Parts.{listed_line}
use Rattle.captures.proofs.Lines.{number-said}
use Rattle.captures.proofs.put_line.Goals as goal

pub returns-in-Numbers : goal.returns-in-Numbers
unfolding line_room listed_line said
returns-in-Numbers c =
    let a = c.args in
    let number = c.number_of.ensures.number ∙ ap (λ (x : event.Answer). answer_number (Confirmed x)) (told_refusal a.a)
    ∙ number-said (Confirmed (event.told a.a)) a.store.now in
    rw c.in-Numbers.is (subst (λ (n : ℕ). AtMost 25 (number_line a.index n) a.out.now c.put_number.new.out) number c.put_number.ensures)
