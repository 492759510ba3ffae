-- `receiver::event::heard` meets its contract.
-- Assumes nothing.
use mathlib.Core.Path.{◌∙◌}
use Rattle.foundation.specs.Refusals.{refusal_number}
use Rattle.receiver.proofs.Arriving.{by_repeat, by_short, by_opened}
use Rattle.receiver.proofs.event.heard.Goals as goal

pub returns-then-is_repeat : goal.returns-then-is_repeat
returns-then-is_repeat c =
    let a = c.args in
    by_repeat a.rx a.t a.full _ c.is_repeat.ensures c.if-is_repeat.true

pub returns-then-not-full : goal.returns-then-not-full
unfolding refusal_number
returns-then-not-full c =
    let a = c.args in
    c.refused.ensures ∙ by_short a.rx a.t a.full _ c.is_repeat.ensures c.if-is_repeat.false c.if-not-full.true

pub returns : goal.returns
returns c =
    let a = c.args in
    rw c.none.ensures (by_opened a.rx a.t a.full _ c.is_repeat.ensures c.if-is_repeat.false c.if-not-full.false)
