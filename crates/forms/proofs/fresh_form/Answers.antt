-- `forms::fresh_form` meets its contract.
-- Assumes nothing.
use mathlib.Core.Path.{ap, ◌∙◌}
use Prim.Native.Nat.{ℕ}
use Rattle.std.proofs.lemmas.Result.{err_from_is_err_and}
use Rattle.foundation.specs.Refusals.{outcome}
use Rattle.forms.proofs.FormRuns.{form_claim}
use Rattle.forms.proofs.FreshForms.{fresh_other_size, fresh_refused, fresh_made}
use Rattle.forms.proofs.fresh_form.Goals as goal

pub returns-then-form-ne-FORM : goal.returns-then-form-ne-FORM
returns-then-form-ne-FORM c = let a = c.args in
    let p = fresh_other_size a.own a.stamp.high a.stamp.low a.form.now c.if-form-ne-FORM.true in
    (p.0, p.1, form_claim a.own a.stamp.high a.stamp.low)

pub returns-in_err-rx : goal.returns-in_err-rx
returns-in_err-rx c = let a = c.args in
    let p = fresh_refused a.own a.stamp.high a.stamp.low a.form.now c.if-form-ne-FORM.false _ c.in_err-rx.ensures in
    let q = err_from_is_err_and c.from_residual.result c.from_residual.ensures.1 in
    rw (q.1, q.2) (p.0, p.1, form_claim a.own a.stamp.high a.stamp.low)

pub returns : goal.returns
returns c = let a = c.args in
    let p = fresh_made a.own a.stamp.high a.stamp.low a.form.now c.if-form-ne-FORM.false _ c.in_ok-rx.ensures in
    let r = c.save.ensures in
    (r.0 ∙ ap (λ (n : ℕ). outcome n tt) p.0, r.1 ∙ p.1, form_claim a.own a.stamp.high a.stamp.low)
