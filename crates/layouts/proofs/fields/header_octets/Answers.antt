-- `layouts::fields::header_octets` meets its contract.
-- Assumes nothing.
use mathlib.Core.Path.{sym, ap, ◌∙◌}
use Rattle.layouts.specs.Layouts.{header_octets}
use Rattle.layouts.proofs.fields.header_octets.Goals as goal

pub returns-in-Response : goal.returns-in-Response
unfolding header_octets
returns-in-Response c = c.field_octets.ensures ∙ ap header_octets (sym c.in-Response.is)

pub returns-in-Unconfirmed : goal.returns-in-Unconfirmed
unfolding header_octets
returns-in-Unconfirmed c = c.field_octets-in-Unconfirmed.ensures ∙ ap header_octets (sym c.in-Unconfirmed.is)

pub returns-in-Confirmed : goal.returns-in-Confirmed
unfolding header_octets
returns-in-Confirmed c = c.field_octets-in-Confirmed.ensures ∙ ap header_octets (sym c.in-Confirmed.is)
