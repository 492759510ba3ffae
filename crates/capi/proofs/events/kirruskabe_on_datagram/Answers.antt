-- `capi::events::kirruskabe_on_datagram` meets its contract.
-- Assumes nothing.
use mathlib.Core.Path.{ap, ◌∙◌}
use Rattle.foundation.specs.Refusals.{number_given}
use Rattle.foundation.proofs.Refusals.{number_back}
use Rattle.forms.specs.Forms.{a_datagram}
use Rattle.forms.proofs.Small.{event_small}
use Rattle.capi.proofs.events.kirruskabe_on_datagram.Goals as goal

pub returns : goal.returns
returns c =
    let a = c.args in
    let f = c.on_datagram.ensures in
    record {
      returned = c.number_of.ensures ∙ ap number_given f.0 ∙ number_back _ tt (event_small a.form.now a.line.now (a_datagram a.datagram.now));
      form_after_lem = rw (← c.from.ensures.0, ← c.from.ensures.1) f.1;
      line_after_is = f.2;
    }
