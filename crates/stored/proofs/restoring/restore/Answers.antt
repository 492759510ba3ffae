-- `stored::restoring::restore` meets its contract.
-- Assumes nothing.
use mathlib.Core.Path.{refl, sym, ◌∙◌}
use native.Mathlib.Omega.{arith}
use Rattle.foundation.specs.Refusals.{outcome, refusal}
use Rattle.foundation.proofs.Refusals.{ok_zero}
use Rattle.foundation.proofs.Copying.{put_all}
use Rattle.stored.proofs.Claims.{claims}
use Rattle.stored.proofs.Numbers.{is_usable, not_good, other_store, other_form, usable_sizes, refused_1, number_read, restored-err, restored-taken}
use Rattle.std.proofs.lemmas.Result.{err_from_is_err_and}
use Rattle.stored.proofs.restoring.restore.Goals as goal
use Rattle.stored.proofs.restoring.restore.Goals.{then-not-is_good-via-then-not-is_good, then-not-is_good-via-else-not-is_good+then-store-ne-STORE}

pub returns-in_default : goal.returns-in_default
unfolding outcome refusal
returns-in_default c =
    let x = c.args in
    let p = refused_1 x.rx x.form.now x.store.now (other_form x.rx _ _ c.in_default.ensures) in
    (p.0, p.1, claims.saves_back x.rx x.form.now x.store.now (λ i. omega (arith, c.type_inv.form i)))

pub returns-then-not-is_good : goal.returns-then-not-is_good
unfolding outcome refusal
returns-then-not-is_good c =
    let x = c.args in
    let good = sym c.is_good.ensures in
    let p = refused_1 x.rx x.form.now x.store.now (elim c.then-not-is_good.branch [
      | then-not-is_good-via-then-not-is_good w ↦ not_good x.rx _ _ (good ∙ w.if-not-is_good.true)
      | then-not-is_good-via-else-not-is_good+then-store-ne-STORE w ↦ other_store x.rx _ _ w.if-store-ne-STORE.true
    ]) in
    (p.0, p.1, claims.saves_back x.rx x.form.now x.store.now (λ i. omega (arith, c.type_inv.form i)))

pub returns-in_err-check_blocks : goal.returns-in_err-check_blocks
returns-in_err-check_blocks c =
    let x = c.args in
    let b = c.in-Some.ensures in
    let u = is_usable x.rx _ _ (sym c.is_good.ensures ∙ c.if-not-is_good.false) c.if-store-ne-STORE.false b.0 in
    let n = number_read x.rx x.form.now x.store.now u _ _ _ _ b.1 b.2 c.receiver_in-receiver.ensures c.store_in-octets.ensures _ refl in
    let p = restored-err x.rx x.form.now x.store.now _ n _ (sym c.in_err-check_blocks.ensures) in
    let q = err_from_is_err_and c.from_residual.result c.from_residual.ensures.1 in
    rw (q.1, q.2) (p.0, p.1, claims.saves_back x.rx x.form.now x.store.now (λ i. omega (arith, c.type_inv.form i)))

pub returns : goal.returns
returns c =
    let x = c.args in
    let b = c.in-Some.ensures in
    let u = is_usable x.rx _ _ (sym c.is_good.ensures ∙ c.if-not-is_good.false) c.if-store-ne-STORE.false b.0 in
    let n = number_read x.rx x.form.now x.store.now u _ _ _ _ b.1 b.2 c.receiver_in-receiver.ensures c.store_in-octets.ensures _ refl in
    let z = ok_zero _ tt tt (sym c.in_ok-check_blocks.ensures) in
    let p = restored-taken x.rx x.form.now x.store.now u _ _ _ _ b.1 b.2 c.receiver_in-receiver.ensures c.store_in-octets.ensures (sym n ∙ z) in
    (p.0, c.put.ensures ∙ put_all x.store.now _ (omega (arith, (usable_sizes _ _ _ u).0)) ∙ p.1, claims.saves_back x.rx x.form.now x.store.now (λ i. omega (arith, c.type_inv.form i)))
