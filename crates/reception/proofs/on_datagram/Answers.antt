-- `reception::on_datagram` meets its contract.
-- Assumes nothing.
use mathlib.Core.Path.{sym, ◌∙◌}
use Rattle.std.proofs.lemmas.Result.{err_from_is_err_and}
use Rattle.foundation.specs.Refusals.{refusal_number}
use Rattle.reception.specs.Reception.{Refused, with_answer}
use Rattle.reception.proofs.Arriving.{Led, not_good, store_not_good, not_taken, header-taken, block-taken, other_refused}
use Rattle.reception.proofs.on_datagram.Goals.{then-not-is_good-via-then-not-is_good, then-not-is_good-via-else-not-is_good+then-store-ne-STORE}
use Rattle.reception.proofs.on_datagram.Goals as goal

pub returns-then-not-is_good : goal.returns-then-not-is_good
unfolding refusal_number
returns-then-not-is_good c =
    let a = c.args in
    elim c.then-not-is_good.branch as (λ x. Led a.rx a.store.now a.datagram.now (with_answer a.rx (Refused 1)) a.store.now) [
      | then-not-is_good-via-then-not-is_good w ↦ not_good a.rx a.store.now a.datagram.now (sym c.is_good.ensures ∙ w.if-not-is_good.true)
      | then-not-is_good-via-else-not-is_good+then-store-ne-STORE w ↦
          store_not_good a.rx a.store.now a.datagram.now (sym c.is_good.ensures ∙ w.if-not-is_good.false) w.if-store-ne-STORE.true
    ]

pub returns-in_err-a : goal.returns-in_err-a
returns-in_err-a c =
    let a = c.args in
    let good = sym c.is_good.ensures ∙ c.if-not-is_good.false in
    let p = err_from_is_err_and c.from_residual.result c.from_residual.ensures.1 in
    rw (p.1, p.2) (not_taken a.rx a.store.now a.datagram.now good c.if-store-ne-STORE.false _ (sym c.arrival_of.ensures ∙ c.in_err-a.was))

pub returns-in-Header : goal.returns-in-Header
returns-in-Header c =
    let a = c.args in
    let good = sym c.is_good.ensures ∙ c.if-not-is_good.false in
    header-taken a.rx a.store.now a.datagram.now good c.if-store-ne-STORE.false _ (sym c.arrival_of.ensures ∙ c.in_ok-a.was) c.in-Header.is _ c.on_header.ensures.0

pub returns-in-Block : goal.returns-in-Block
returns-in-Block c =
    let a = c.args in
    let good = sym c.is_good.ensures ∙ c.if-not-is_good.false in
    block-taken a.rx a.store.now a.datagram.now good c.if-store-ne-STORE.false _ (sym c.arrival_of.ensures ∙ c.in_ok-a.was) c.in-Block.is _ _ c.on_block.ensures.0 c.on_block.ensures.1

pub returns-in-Other : goal.returns-in-Other
unfolding refusal_number
returns-in-Other c =
    let a = c.args in
    let good = sym c.is_good.ensures ∙ c.if-not-is_good.false in
    other_refused a.rx a.store.now a.datagram.now good c.if-store-ne-STORE.false _ (sym c.arrival_of.ensures ∙ c.in_ok-a.was) c.in-Other.is
