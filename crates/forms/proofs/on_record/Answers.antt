-- `forms::on_record` meets its contract.
-- Assumes nothing.
use mathlib.Core.Path.{sym, ◌∙◌}
use Prim.Native.Nat.{ℕ, ◌<◌}
use lib.ListN.{get_or}
use borrow.Author.Rules.{rules}
use Rattle.std.proofs.lemmas.Result.{err_from_is_err_and}
use Rattle.foundation.proofs.Refusals.{ok_zero}
use Rattle.logs.specs.Log.{record_of}
use Rattle.forms.proofs.FormStates.{number_is, form_taken, state_is, state_savable, state_flags}
use Rattle.forms.proofs.FormEvents.{other_line, other_form, size_found, form_refused, found_refused, answer-left}
use Rattle.forms.proofs.on_record.Goals as goal

pub returns-in_default : goal.returns-in_default
returns-in_default c = λ a e f.
    let g = c.args in
    other_line g.form.now g.stamp.high g.stamp.low g.line.now a c.in_default.ensures.cases

pub returns-in_default-as_mut_array : goal.returns-in_default-as_mut_array
returns-in_default-as_mut_array c = λ a e f.
    let g = c.args in
    let line = c.in-Some.ensures.cases in
    rw line.same (other_form g.form.now g.stamp.high g.stamp.low g.line.now a line.long c.in_default-as_mut_array.ensures.cases)

pub returns-then-is_size : goal.returns-then-is_size
returns-then-is_size c = λ a e f.
    let g = c.args in
    let line = c.in-Some.ensures.cases in
    let form = c.in-Some-as_mut_array.ensures.cases in
    rw (line.same, form.same) (size_found g.form.now g.stamp.high g.stamp.low g.line.now a line.long form.long g.found e (c.is_size.ensures.0 c.if-is_size.true))

pub returns-in_err-rx : goal.returns-in_err-rx
returns-in_err-rx c = λ a e f.
    let g = c.args in
    let line = c.in-Some.ensures.cases in
    let form = c.in-Some-as_mut_array.ensures.cases in
    let t = rw form.same at c.in_err-rx.ensures in
    let q = err_from_is_err_and c.from_residual.result c.from_residual.ensures.1 in
    rw (q.1, q.2, line.same, form.same) (form_refused g.form.now g.stamp.high g.stamp.low g.line.now a line.long form.long g.found e (c.is_size.ensures.1 c.if-is_size.false) _
    (number_is g.form.now _ t.1 _ t.0))

pub returns-in_err-found : goal.returns-in_err-found
returns-in_err-found c = λ a e f.
    let g = c.args in
    let line = c.in-Some.ensures.cases in
    let form = c.in-Some-as_mut_array.ensures.cases in
    let t = rw form.same at c.in_ok-rx.ensures in
    let q = err_from_is_err_and c.from_residual-in_err-found.result c.from_residual-in_err-found.ensures.1 in
    rw (q.1, q.2, line.same, form.same) (found_refused g.form.now g.stamp.high g.stamp.low g.line.now a line.long form.long g.found e (c.is_size.ensures.1 c.if-is_size.false)
    (form_taken g.form.now _ t.1 _ t.0) _ c.in_err-found.was)

pub act_on-requires : goal.act_on-requires
act_on-requires c =
    let f = c.in-Some-as_mut_array.form.now in
    let small : (i : ℕ) → get_or c.args.form.now i 0 < 256 = λ i. search rules in
    let t = c.in_ok-rx.ensures in (
      state_savable f _ t.1 _ t.0,
      state_flags f _ t.1 _ t.0 (rw c.in-Some-as_mut_array.ensures.cases.same small),
      c.requires c.in_ok-found.was,
    )

pub returns : goal.returns
returns c = λ a e f.
    let g = c.args in
    let line = c.in-Some.ensures.cases in
    let form = c.in-Some-as_mut_array.ensures.cases in
    let t = rw form.same at c.in_ok-rx.ensures in
    let none = ok_zero _ tt tt (sym e ∙ c.in_ok-found.was) in
    answer-left g.form.now g.stamp.high g.stamp.low g.line.now a line.long form.long (form_taken g.form.now _ t.1 _ t.0) none
    _ (state_is g.form.now _ t.1 _ t.0) (record_of g.kind g.octets.now) f _ _ _ (rw (form.same, line.same) at c.act_on.ensures)
