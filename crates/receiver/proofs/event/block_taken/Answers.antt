-- `receiver::event::block_taken` meets its contract.
-- Assumes nothing.
use mathlib.Core.Path.{◌≡◌, sym, ◌∙◌}
use mathlib.Core.Bool.{true}
use Rattle.std.proofs.lemmas.Result.{err_from_is_err_and}
use Rattle.receiver_state.specs.Receiver.{receiver_good}
use Rattle.receiver.proofs.BlockNumbers.{receiver-refused, store-refused, read-refused, phase-refused, serial-refused, octets-refused, free_taken, same_taken, block_fits}
use Rattle.receiver.proofs.event.block_taken.Goals as goal
use Rattle.receiver.proofs.event.block_taken.Goals.{then-not-is_good-via-then-not-is_good, then-not-is_good-via-else-not-is_good+then-store-ne-STORE, else-is_set-via-then-is_set+else-not-same_block, else-is_set-via-else-is_set}

pub returns-then-not-is_good : goal.returns-then-not-is_good
returns-then-not-is_good c =
    let a = c.args in
    elim c.then-not-is_good.branch [
      | then-not-is_good-via-then-not-is_good w ↦ receiver-refused a.rx a.store.now a.octets.now (sym c.is_good.ensures ∙ w.if-not-is_good.true)
      | then-not-is_good-via-else-not-is_good+then-store-ne-STORE w ↦
          store-refused a.rx a.store.now a.octets.now (sym c.is_good.ensures ∙ w.if-not-is_good.false) w.if-store-ne-STORE.true
    ]

pub returns-in_err-block : goal.returns-in_err-block
returns-in_err-block c =
    let p = err_from_is_err_and c.from_residual.result c.from_residual.ensures.1 in
    let a = c.args in
    let good : receiver_good a.rx ≡ true = sym c.is_good.ensures ∙ c.if-not-is_good.false in
    rw (p.1, p.2) (read-refused a.rx a.store.now a.octets.now good c.if-store-ne-STORE.false _ (sym c.read.ensures ∙ c.in_err-block.was))

pub returns-then-rx-ne1 : goal.returns-then-rx-ne1
returns-then-rx-ne1 c =
    let a = c.args in
    let good : receiver_good a.rx ≡ true = sym c.is_good.ensures ∙ c.if-not-is_good.false in
    phase-refused a.rx a.store.now a.octets.now good c.if-store-ne-STORE.false c.in_ok-block.block (sym c.read.ensures ∙ c.in_ok-block.was) c.if-rx-ne1.true

pub returns-then-rx-block : goal.returns-then-rx-block
returns-then-rx-block c =
    let a = c.args in
    let good : receiver_good a.rx ≡ true = sym c.is_good.ensures ∙ c.if-not-is_good.false in
    serial-refused a.rx a.store.now a.octets.now good c.if-store-ne-STORE.false c.in_ok-block.block (sym c.read.ensures ∙ c.in_ok-block.was) c.if-rx-ne1.false
    c.if-rx-block.true

pub same_block-requires : goal.same_block-requires
same_block-requires c =
    let a = c.args in
    let good : receiver_good a.rx ≡ true = sym c.is_good.ensures ∙ c.if-not-is_good.false in
    block_fits a.rx good c.if-rx-ne1.false a.store.now c.in_ok-block.block.serial c.if-store-ne-STORE.false c.if-rx-block.false

pub returns-then-not-same_block : goal.returns-then-not-same_block
returns-then-not-same_block c =
    let a = c.args in
    let good : receiver_good a.rx ≡ true = sym c.is_good.ensures ∙ c.if-not-is_good.false in
    octets-refused a.rx a.store.now a.octets.now good c.if-store-ne-STORE.false c.in_ok-block.block (sym c.read.ensures ∙ c.in_ok-block.was) c.if-rx-ne1.false
    c.if-rx-block.false (sym c.is_set.ensures ∙ c.if-is_set.true) (sym c.same_block.ensures ∙ c.if-not-same_block.true)

pub returns : goal.returns
returns c =
    let a = c.args in
    let x = c.in_ok-block.block in
    let good : receiver_good a.rx ≡ true = sym c.is_good.ensures ∙ c.if-not-is_good.false in
    let read = sym c.read.ensures ∙ c.in_ok-block.was in
    elim c.else-is_set.branch [
      | else-is_set-via-then-is_set+else-not-same_block w ↦
          same_taken a.rx a.store.now a.octets.now good c.if-store-ne-STORE.false x read c.if-rx-ne1.false c.if-rx-block.false
          (sym c.is_set.ensures ∙ w.if-is_set.true) (sym w.same_block.ensures ∙ w.if-not-same_block.false)
      | else-is_set-via-else-is_set w ↦
          free_taken a.rx a.store.now a.octets.now good c.if-store-ne-STORE.false x read c.if-rx-ne1.false c.if-rx-block.false (sym c.is_set.ensures ∙ w.if-is_set.false)
    ]
