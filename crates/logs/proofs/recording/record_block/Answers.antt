-- `logs::recording::record_block` meets its contract.
-- Assumes nothing.
use mathlib.Core.Path.{ap, ap₂, ◌∙◌}
use mathlib.Core.List.{List}
use Prim.Native.Nat.{ℕ}
use Rattle.receiver.specs.Events.{Step, said}
use Rattle.history.specs.Run.{after_event, answer_to}
use Rattle.logs.specs.Log.{answer, line_in, line_of, after_record}
use Rattle.logs.proofs.recording.record_block.Goals as goal

pub returns : goal.returns
unfolding after_record after_event line_of answer_to
returns c = let e = c.on_block-step.ensures in (
  ap (λ (s : Step). s.receiver) e.0,
  e.1,
  c.put_answer.ensures ∙ ap₂ (λ (s : Step) (store : List ℕ). line_in (answer (said s.answer store))) e.0 e.1,
)
