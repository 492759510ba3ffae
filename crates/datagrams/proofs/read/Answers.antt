-- `datagrams::read` meets its contract.
-- Assumes nothing.
use Rattle.std.proofs.Common.{ℕ, List, true, false, sym, ap, ◌∙◌, arith}
use Rattle.std.proofs.lemmas.Result.{err_from_is_err_and}
use Rattle.foundation.specs.Refusals.{refusal, outcome}
use Rattle.codes.specs.SlotWord.{slot_given}
use Rattle.codes.specs.Field.{field_given}
use Rattle.codes.proofs.SlotReading.{given_data}
use Rattle.bursts.specs.Bursts.{burst_slot, burst_field}
use Rattle.bursts.proofs.Variants.{known_by}
use Rattle.datagrams.specs.Datagrams.{burst_of, refused_datagram, datagram_given}
use Rattle.datagrams.proofs.DatagramNumbers.{Slotted, Kinded, burst-part, number_size, number-prefix, number-frame, number_differs, number_other, read-refused, slot_refused, field_refused, field_good}
use Rattle.datagrams.proofs.read.Goals.{then-datatype-slot-via-then-datatype-slot, then-datatype-slot-via-else-datatype-slot+then-eq}
use Rattle.datagrams.proofs.read.Goals as goal

pub returns-then-datagram-ne53 : goal.returns-then-datagram-ne53
unfolding datagram_given outcome refusal refused_datagram
returns-then-datagram-ne53 c =
    let d = c.args.datagram.now in
    ap datagram_given (read-refused d 1 (λ e. omega arith) (number_size d c.if-datagram-ne53.true))

pub returns-then-not-has_prefix : goal.returns-then-not-has_prefix
unfolding datagram_given outcome refusal refused_datagram
returns-then-not-has_prefix c =
    let d = c.args.datagram.now in
    ap datagram_given (read-refused d 2 (λ e. omega arith) (number-prefix d c.if-datagram-ne53.false (sym c.has_prefix.ensures ∙ c.if-not-has_prefix.true)))

pub returns-then-datagram-ne2 : goal.returns-then-datagram-ne2
unfolding datagram_given outcome refusal refused_datagram
returns-then-datagram-ne2 c =
    let d = c.args.datagram.now in
    ap datagram_given (read-refused d 3 (λ e. omega arith)
    (number-frame d c.if-datagram-ne53.false (sym c.has_prefix.ensures ∙ c.if-not-has_prefix.false) c.if-datagram-ne2.true))

pub returns-in_err-slot : goal.returns-in_err-slot
returns-in_err-slot c =
    let d = c.args.datagram.now in
    let h = c.if-datagram-ne53.false in
    let p = err_from_is_err_and c.from_residual.result c.from_residual.ensures.1 in
    rw (p.1, p.2) (slot_refused d h (sym c.has_prefix.ensures ∙ c.if-not-has_prefix.false) c.if-datagram-ne2.false _
    (ap (λ (b : List ℕ). slot_given (burst_slot b)) (sym (burst-part d h)) ∙ sym c.slot_type.ensures ∙ c.in_err-slot.was))

pub returns-then-datatype-slot : goal.returns-then-datatype-slot
unfolding datagram_given outcome refusal refused_datagram
returns-then-datatype-slot c =
    let d = c.args.datagram.now in
    let h = c.if-datagram-ne53.false in
    let p = sym c.has_prefix.ensures ∙ c.if-not-has_prefix.false in
    let s = given_data (burst_slot (burst_of d)) c.in_ok-slot.slot (ap (λ (b : List ℕ). slot_given (burst_slot b)) (sym (burst-part d h)) ∙ sym c.slot_type.ensures ∙ c.in_ok-slot.was) in
    let slotted : Slotted d c.in_ok-slot.slot = record { size = h; letters = p; frame = c.if-datagram-ne2.false; slot = s } in
    elim c.then-datatype-slot.branch [
      | then-datatype-slot-via-then-datatype-slot w ↦
          ap datagram_given (read-refused d 5 (λ e. omega arith) (number_differs d c.in_ok-slot.slot slotted w.if-datatype-slot.true))
      | then-datatype-slot-via-else-datatype-slot+then-eq w ↦
          ap datagram_given (read-refused d 5 (λ e. omega arith)
          (number_other d c.in_ok-slot.slot slotted w.if-datatype-slot.false (known_by _ w.from.result true w.from.ensures (sym w.eq.ensures ∙ w.if-eq.true))))
    ]

pub returns-in_err-info : goal.returns-in_err-info
returns-in_err-info c =
    let d = c.args.datagram.now in
    let h = c.if-datagram-ne53.false in
    let p = sym c.has_prefix.ensures ∙ c.if-not-has_prefix.false in
    let s = given_data (burst_slot (burst_of d)) c.in_ok-slot.slot (ap (λ (b : List ℕ). slot_given (burst_slot b)) (sym (burst-part d h)) ∙ sym c.slot_type.ensures ∙ c.in_ok-slot.was) in
    let slotted : Slotted d c.in_ok-slot.slot = record { size = h; letters = p; frame = c.if-datagram-ne2.false; slot = s } in
    let kinded : Kinded d c.in_ok-slot.slot =
    record { slotted = slotted; same = c.if-datatype-slot.false; kind = known_by _ c.from.result false c.from.ensures (sym c.eq.ensures ∙ c.if-eq.false) }
    in
    let q = err_from_is_err_and c.from_residual-in_err-info.result c.from_residual-in_err-info.ensures.1 in
    rw (q.1, q.2) (field_refused d c.in_ok-slot.slot kinded _
    (ap (λ (b : List ℕ). field_given (burst_field b)) (sym (burst-part d h)) ∙ sym c.field.ensures ∙ c.in_err-info.was))

pub returns : goal.returns
returns c =
    let d = c.args.datagram.now in
    let h = c.if-datagram-ne53.false in
    let p = sym c.has_prefix.ensures ∙ c.if-not-has_prefix.false in
    let s = given_data (burst_slot (burst_of d)) c.in_ok-slot.slot (ap (λ (b : List ℕ). slot_given (burst_slot b)) (sym (burst-part d h)) ∙ sym c.slot_type.ensures ∙ c.in_ok-slot.was) in
    let slotted : Slotted d c.in_ok-slot.slot = record { size = h; letters = p; frame = c.if-datagram-ne2.false; slot = s } in
    let kinded : Kinded d c.in_ok-slot.slot =
    record { slotted = slotted; same = c.if-datatype-slot.false; kind = known_by _ c.from.result false c.from.ensures (sym c.eq.ensures ∙ c.if-eq.false) }
    in
    field_good d c.in_ok-slot.slot kinded c.labels_of.result c.labels_of.ensures _
    (ap (λ (b : List ℕ). field_given (burst_field b)) (sym (burst-part d h)) ∙ sym c.field.ensures ∙ c.in_ok-info.was)
