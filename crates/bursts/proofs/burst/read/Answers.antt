-- `bursts::burst::read` meets its contract.
-- Assumes nothing.
use mathlib.Core.Path.{◌≡◌, sym, ap, ◌∙◌}
use mathlib.Core.Bool.{false, true}
use Prim.Native.Nat.{◌%◌}
use native.Mathlib.Omega.{arith}
use Rattle.std.proofs.lemmas.Result.{err_from_is_err_and}
use Rattle.foundation.specs.Refusals.{refusal, outcome}
use Rattle.codes.specs.SlotWord.{Data}
use Rattle.codes.proofs.SlotReading.{given_data}
use Rattle.bursts.specs.Bursts.{kind_of, known, burst_slot, burst_given}
use Rattle.bursts.proofs.Variants.{known_by}
use Rattle.bursts.proofs.Numbers.{number_type, read-refused, slot_refused, slot_sized, field_refused, field_good}
use Rattle.bursts.proofs.burst.read.Goals as goal

pub returns-in_err-slot : goal.returns-in_err-slot
returns-in_err-slot c =
    let p = err_from_is_err_and c.from_residual.result c.from_residual.ensures.1 in
    rw (p.1, p.2) (slot_refused c.args.burst.now _ (sym c.slot_type.ensures ∙ c.in_err-slot.was))

pub returns-then-eq : goal.returns-then-eq
unfolding burst_given outcome refusal
returns-then-eq c =
    let b = c.args.burst.now in
    let d = c.in_ok-slot.slot in
    let s : burst_slot b ≡ Data d = given_data (burst_slot b) d (sym c.slot_type.ensures ∙ c.in_ok-slot.was) in
    ap burst_given (read-refused b 5 (λ e. omega arith)
    (number_type b d (slot_sized b d s) s (known_by (d % 16) c.from.result true c.from.ensures (sym c.eq.ensures ∙ c.if-eq.true))))

pub returns-in_err-info : goal.returns-in_err-info
returns-in_err-info c =
    let b = c.args.burst.now in
    let d = c.in_ok-slot.slot in
    let s : burst_slot b ≡ Data d = given_data (burst_slot b) d (sym c.slot_type.ensures ∙ c.in_ok-slot.was) in
    let p = err_from_is_err_and c.from_residual-in_err-info.result c.from_residual-in_err-info.ensures.1 in
    let k : known (kind_of (d % 16)) ≡ true = known_by (d % 16) c.from.result false c.from.ensures (sym c.eq.ensures ∙ c.if-eq.false) in
    rw (p.1, p.2) (field_refused b d (slot_sized b d s) s k _ (sym c.field.ensures ∙ c.in_err-info.was))

pub returns : goal.returns
returns c =
    let b = c.args.burst.now in
    let d = c.in_ok-slot.slot in
    let s : burst_slot b ≡ Data d = given_data (burst_slot b) d (sym c.slot_type.ensures ∙ c.in_ok-slot.was) in
    let k : known (kind_of (d % 16)) ≡ true = known_by (d % 16) c.from.result false c.from.ensures (sym c.eq.ensures ∙ c.if-eq.false) in
    field_good b d (slot_sized b d s) s k _ (sym c.field.ensures ∙ c.in_ok-info.was)
