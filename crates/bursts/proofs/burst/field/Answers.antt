-- `bursts::burst::field` meets its contract.
-- Assumes nothing.
use mathlib.Core.Path.{ap, ◌∙◌}
use mathlib.Core.List.{[]}
use native.Mathlib.Omega.{arith}
use Rattle.foundation.specs.Refusals.{refusal, outcome}
use Rattle.codes.specs.Field.{read_field, field_given}
use Rattle.codes.proofs.FieldWords.{read-size}
use Rattle.bursts.proofs.Numbers.{field-size, field-read}
use Rattle.bursts.proofs.burst.field.Goals as goal

pub returns-then-burst-eq33 : goal.returns-then-burst-eq33
returns-then-burst-eq33 c =
    c.read.ensures ∙ ap field_given (ap read_field c.field_octets.ensures ∙ field-read c.args.burst.now c.if-burst-eq33.true)

pub returns-else-burst-eq33 : goal.returns-else-burst-eq33
unfolding field_given outcome refusal
returns-else-burst-eq33 c =
    ap field_given (read-size [] (λ e. omega arith) ∙ field-size c.args.burst.now c.if-burst-eq33.false)
