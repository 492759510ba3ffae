-- `stored::saving::save` meets its contract.
-- Assumes nothing.
use mathlib.Core.Path.{◌≡◌, sym, ap, ◌∙◌}
use Prim.Native.Nat.{ℕ}
use Rattle.foundation.specs.Refusals.{outcome, refusal}
use native.Mathlib.Omega.{arith}
use lib.ListN.{length}
use lib.Seq.{length-take-le}
use Rattle.transactions.specs.Flags.{flag_octet_count}
use Rattle.receiver_state.specs.Receiver.{store_size}
use Rattle.stored.specs.Stored.{first_part}
use Rattle.stored.proofs.Claims.{claims}
use Rattle.stored.proofs.ReadingBack.{head1, zeros}
use Rattle.stored.proofs.Numbers.{is_usable, not_good, other_store, other_form, save_refused, save_taken}
use Rattle.stored.proofs.SaveLaw.{written}
use borrow.Author.Rules.{rules}
use Rattle.stored.proofs.saving.save.Goals as goal
use Rattle.stored.proofs.saving.save.Goals.{then-not-is_good-via-then-not-is_good, then-not-is_good-via-else-not-is_good+then-form-ne-FORM}

pub returns-in_default : goal.returns-in_default
unfolding outcome refusal
returns-in_default c =
    let x = c.args in
    let p = save_refused x.rx x.store.now x.form.now x.stamp.high x.stamp.low (other_store x.rx _ _ c.in_default.ensures.cases) in
    (ap (λ (n : ℕ). outcome n tt) p.0, p.1, claims.restores x.rx x.store.now x.stamp.high x.stamp.low)

pub returns-then-not-is_good : goal.returns-then-not-is_good
unfolding outcome refusal
returns-then-not-is_good c =
    let x = c.args in
    let good = sym c.is_good.ensures in
    let p = save_refused x.rx x.store.now x.form.now x.stamp.high x.stamp.low (elim c.then-not-is_good.branch [
      | then-not-is_good-via-then-not-is_good w ↦ not_good x.rx _ _ (good ∙ w.if-not-is_good.true)
      | then-not-is_good-via-else-not-is_good+then-form-ne-FORM w ↦ other_form x.rx _ _ w.if-form-ne-FORM.true
    ]) in
    (ap (λ (n : ℕ). outcome n tt) p.0, p.1, claims.restores x.rx x.store.now x.stamp.high x.stamp.low)

pub slice_bounds-put-end-2 : goal.slice_bounds-put-end-2
slice_bounds-put-end-2 c =
    let l : length c.held_store-held.result ≡ store_size = search rules in
    sym (length-take-le first_part c.held_store-held.result (omega arith))

pub check_at-requires : goal.check_at-requires
check_at-requires c =
    omega (arith, c.if-form-ne-FORM.false)

pub check_at-requires-2 : goal.check_at-requires-2
check_at-requires-2 c =
    omega (arith, c.if-form-ne-FORM.false)

pub returns : goal.returns
unfolding head1 zeros outcome
returns c =
    let x = c.args in
    let eight : length x.rx.flags.octets ≡ flag_octet_count = search (rules, c.well_formed) in
    let u = is_usable x.rx _ _ (sym c.is_good.ensures ∙ c.if-not-is_good.false) c.in-Some.ensures.cases.long c.if-form-ne-FORM.false in
    let held = rw c.in-Some.ensures.cases.same at c.held_store-held.ensures in
    let p = save_taken x.rx x.store.now x.form.now x.stamp.high x.stamp.low u in
    let w = written x.rx x.store.now x.stamp.high x.stamp.low eight _ _ c.head-first.ensures held x.form.now c.put.new.to c.put-2.new.to c.check_at.new.to c.put-3.new.to c.put-4.new.to c.put-5.new.to c.check_at-2.new.to
    c.if-form-ne-FORM.false c.put.ensures c.put-2.ensures c.check_at.ensures c.put-3.ensures c.put-4.ensures c.put-5.ensures c.check_at-2.ensures in
    (ap (λ (n : ℕ). outcome n tt) p.0, w ∙ p.1, claims.restores x.rx x.store.now x.stamp.high x.stamp.low)
