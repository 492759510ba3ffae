-- `forms::take_form` meets its contract.
-- Assumes nothing.
use Rattle.forms.proofs.FormStates.{fresh_taken}
use Rattle.forms.proofs.take_form.Goals as goal

pub returns : goal.returns
returns c =
    let a = c.args in
    let own = c.address_at in
    let fresh = c.idle-fresh in
    let r = c.restore in
    fresh_taken a.form.now own.result own.ensures fresh.result fresh.ensures a.store.now c.requires r.result _ r.ensures.0 r.ensures.1
