-- `forms::act_on` meets its contract.
-- Assumes nothing.
use mathlib.Core.Path.{◌≡◌, sym, ◌∙◌}
use Prim.Native.Nat.{◌*◌}
use native.Mathlib.Omega.{arith}
use lib.ListN.{length}
use borrow.Author.Rules.{rules}
use Rattle.foundation.proofs.Copying.{put_all}
use Rattle.foundation.proofs.Refusals.{err_number}
use Rattle.logs.specs.Numbers.{code_number}
use Rattle.logs.specs.Log.{record_of, state_of, line_size}
use Rattle.stored.specs.Stored.{stored_block}
use Rattle.logs.proofs.OneRecord.{taken_tells}
use Rattle.forms.proofs.Refusals.{not_both, ok_value}
use Rattle.forms.proofs.FormEvents.{happens, acted_refused, acted_taken, saved_number, saved_after, length-blank}
use Rattle.forms.proofs.act_on.Goals as goal

pub returns-in_err-next : goal.returns-in_err-next
returns-in_err-next c =
    let a = c.args in
    let (m, small, kind) = c.requires in
    let t = taken_tells a.rx a.store.now (record_of a.kind a.octets.now) _ m.good m.room length-blank in
    absurd (not_both _ _ _ c.in_err-next.ensures.0 t.0)

pub returns-then-answer-number : goal.returns-then-answer-number
unfolding code_number
returns-then-answer-number c =
    let a = c.args in
    let (m, small, kind) = c.requires in
    let r = record_of a.kind a.octets.now in
    let h = happens a.kind a.octets.now kind (λ i. (c.type_inv.octets i).fits) in
    let t = taken_tells a.rx a.store.now r _ m.good m.room length-blank in
    let p = acted_refused (state_of a.rx a.store.now) a.stamp.high a.stamp.low a.form.now a.line.now _ r h (c.in_ok-next.ensures.2 ∙ sym t.2) (c.if-answer-number.true ∙ c.number.ensures.gives) in
    (c.given.ensures ∙ p.0, p.1, p.2)

pub returns-in_err-save : goal.returns-in_err-save
returns-in_err-save c =
    let a = c.args in
    let (m, small, kind) = c.requires in
    let size : length a.form.now ≡ 2 * stored_block = search (rules, c.well_formed) in
    let r = record_of a.kind a.octets.now in
    let h = happens a.kind a.octets.now kind (λ i. (c.type_inv.octets i).fits) in
    let t = taken_tells a.rx a.store.now r _ m.good m.room length-blank in
    let e = c.in_ok-next.ensures in
    let n = saved_number a.rx a.store.now m small r h a.form.now size _ _ (ok_value _ _ (e.0 ∙ sym t.0)) (e.1 ∙ sym t.1) in
    absurd (err_number _ tt _ (sym c.in_err-save.ensures.0) n)

pub returns : goal.returns
unfolding code_number
returns c =
    let a = c.args in
    let (m, small, kind) = c.requires in
    let size : length a.form.now ≡ 2 * stored_block = search (rules, c.well_formed) in
    let room : length a.line.now ≡ line_size = search (rules, c.well_formed) in
    let r = record_of a.kind a.octets.now in
    let h = happens a.kind a.octets.now kind (λ i. (c.type_inv.octets i).fits) in
    let t = taken_tells a.rx a.store.now r _ m.good m.room length-blank in
    let e = c.in_ok-next.ensures in
    let p = acted_taken (state_of a.rx a.store.now) a.stamp.high a.stamp.low a.form.now a.line.now _ r h (e.2 ∙ sym t.2) (λ z. c.if-answer-number.false (z ∙ sym c.number.ensures.gives)) in
    let f = saved_after a.rx a.store.now m small r h a.stamp.high a.stamp.low a.form.now size _ _ (ok_value _ _ (e.0 ∙ sym t.0)) (e.1 ∙ sym t.1) in
    (p.0, c.in_ok-save.ensures.1 ∙ f ∙ p.1, c.put.ensures ∙ put_all a.line.now _ (omega (arith, room)) ∙ p.2)
