-- `logs::recording::record_header` meets its contract.
-- Assumes nothing.
use mathlib.Core.Path.{ap, ◌∙◌}
use Rattle.receiver.specs.Events.{Step, said}
use Rattle.history.specs.Run.{after_event, answer_to}
use Rattle.logs.specs.Log.{answer, line_in, line_of, after_record}
use Rattle.logs.proofs.recording.record_header.Goals as goal

pub returns : goal.returns
unfolding after_record after_event line_of answer_to
returns c = let store = c.args.store.now in
    let e = c.on_header-step.ensures.0 in
    (ap (λ (s : Step). s.receiver) e, c.put_answer.ensures ∙ ap (λ (s : Step). line_in (answer (said s.answer store))) e)
