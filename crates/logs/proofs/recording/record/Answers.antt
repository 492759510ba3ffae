-- `logs::recording::record` meets its contract.
-- Assumes nothing.
use mathlib.Core.Path.{◌≡◌, sym, ap, ◌∙◌}
use Rattle.std.specs.Prelude.{Ok}
use Rattle.logs.specs.Log.{record_of}
use Rattle.logs.specs.Parts.{record_by}
use Rattle.logs.specs.declared.numbers.Kind.{Kind}
use Rattle.logs.proofs.OneRecord.{by_kind, bad-receiver, bad-store, bad-line, taken_tells}
use Rattle.logs.proofs.recording.record.Goals as goal

pub returns-then-not-is_good : goal.returns-then-not-is_good
returns-then-not-is_good c =
    let a = c.args in
    bad-receiver a.rx a.store.now _ a.line.now (sym c.is_good.ensures ∙ c.if-not-is_good.true)

pub returns-in_default : goal.returns-in_default
returns-in_default c =
    let a = c.args in
    bad-store a.rx a.store.now _ a.line.now (sym c.is_good.ensures ∙ c.if-not-is_good.false) c.in_default.ensures.cases

pub returns-in_default-as_mut_array : goal.returns-in_default-as_mut_array
returns-in_default-as_mut_array c =
    let a = c.args in
    let s = c.in-Some.ensures.cases in
    rw s.same (bad-line a.rx a.store.now _ a.line.now (sym c.is_good.ensures ∙ c.if-not-is_good.false) s.long c.in_default-as_mut_array.ensures.cases)

pub returns : goal.returns
returns c =
    let a = c.args in
    let os = a.octets.now in
    let s = c.in-Some.ensures.cases in
    let good = sym c.is_good.ensures ∙ c.if-not-is_good.false in
    let same : record_by c.from.result os ≡ record_of a.kind os = ap (λ (k : Kind). record_by k os) c.from.ensures ∙ by_kind a.kind os in
    let t = taken_tells a.rx a.store.now (record_by c.from.result os) a.line.now good s.long c.in-Some-as_mut_array.ensures.cases.long in
    let e = rw s.same at c.record_kind.ensures in
    rw (sym same) (ap Ok e.0 ∙ t.0, e.1 ∙ t.1, e.2 ∙ t.2, t.3)
