-- `capi::events::kirruskabe_fresh` meets its contract.
-- Assumes nothing.
use mathlib.Core.Path.{ap, ◌∙◌}
use Rattle.foundation.specs.Refusals.{number_given}
use Rattle.foundation.proofs.Refusals.{number_back}
use Rattle.forms.proofs.Small.{fresh_small}
use Rattle.capi.proofs.events.kirruskabe_fresh.Goals as goal

pub returns : goal.returns
returns c =
    let a = c.args in
    let f = c.fresh_form.ensures in
    (c.number_of.ensures ∙ ap number_given f.0 ∙ number_back _ tt (fresh_small _ a.form.now), rw (← c.from.ensures.0, ← c.from.ensures.1) f.1)
