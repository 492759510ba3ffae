-- `captures::answer` meets its contract.
-- Assumes nothing.
use mathlib.Core.Path.{◌≡◌, ap, ◌∙◌}
use Rattle.receiver.specs.Events as event
use Rattle.reception.specs.Reception.{Confirmed, received_told}
use Rattle.counting.specs.Counts.{counted}
use Rattle.counting.proofs.Counting.{told_refusal}
use Rattle.captures.proofs.Runs.{step_of, stepped, not_stepped, answered-step}
use Rattle.captures.proofs.answer.Goals.{in-Ok, in-Err}
use Rattle.captures.proofs.answer.Goals as goal

pub returns : goal.returns
returns c =
    let a = c.args in
    let o = c.on_datagram.ensures in
    let given = c.on_datagram.result in
    let told =
    elim c.match-on_datagram.branch as (λ x. event.step_told c.match-on_datagram.step ≡ step_of (received_told given a.g.receiver)) [
      | in-Ok w ↦ stepped given a.g.receiver _ _ w.in-Ok.is w.step-is
      | in-Err w ↦ not_stepped given a.g.receiver _ _ _ w.in-Err.is w.step-is w.refused-step.ensures
    ]
    in
    let counts = c.counted.ensures.counts ∙ ap (λ (x : event.Answer). counted a.g.counts (Confirmed x)) (told_refusal c.match-on_datagram.step.answer) in
    answered-step a.listing a.g a.store.now a.datagram.now (event.step_told c.match-on_datagram.step) _ _ _ _ (told ∙ ap step_of o.0) o.1 counts c.put_line.ensures
