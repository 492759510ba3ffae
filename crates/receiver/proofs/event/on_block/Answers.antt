-- `receiver::event::on_block` meets its contract.
-- Assumes nothing.
use mathlib.Core.Path.{sym, ap, ◌∙◌}
use native.Mathlib.Omega.{arith}
use Rattle.receiver.specs.Events.{BlockLeft}
use Rattle.receiver.proofs.BlockNumbers.{taken_of, open_fields, block_fits}
use Rattle.receiver.proofs.OnBlock.{none, serial_is, left-refused, left-repeat, left_new}
use Rattle.receiver.proofs.Claims.{block_promise}
use Rattle.receiver.proofs.event.on_block.Goals as goal

pub returns-in-Err : goal.returns-in-Err
returns-in-Err c =
    let a = c.args in
    let e = left-refused a.rx a.store.now a.octets.now _ (sym c.block_taken.ensures ∙ c.in-Err.is) in
    block_promise a.rx a.store.now a.octets.now _ _ (c.refused.ensures ∙ ap (λ (l : BlockLeft). l.step) e) (ap (λ (l : BlockLeft). l.store) e)

pub returns-then-is_set : goal.returns-then-is_set
returns-then-is_set c =
    let a = c.args in
    let e = left-repeat a.rx a.store.now a.octets.now _ (sym c.block_taken.ensures ∙ c.in-Ok.is) (sym c.is_set.ensures ∙ c.if-is_set.true) in
    block_promise a.rx a.store.now a.octets.now _ _ (ap (λ (l : BlockLeft). l.step) e) (ap (λ (l : BlockLeft). l.store) e)

pub put_block-requires : goal.put_block-requires
put_block-requires c =
    let a = c.args in
    let x = c.in-Ok.block in
    let e = sym c.block_taken.ensures ∙ c.in-Ok.is in
    let t = taken_of a.rx a.store.now a.octets.now (none a.rx a.store.now a.octets.now x e) in
    block_fits a.rx t.good t.opened a.store.now x.serial t.size (omega (arith, t.below, serial_is a.rx a.store.now a.octets.now x e))

pub taken_block-requires : goal.taken_block-requires
taken_block-requires c =
    let a = c.args in
    let x = c.in-Ok.block in
    let e = sym c.block_taken.ensures ∙ c.in-Ok.is in
    let t = taken_of a.rx a.store.now a.octets.now (none a.rx a.store.now a.octets.now x e) in
    (open_fields a.rx t.good t.opened, c.put_block.auto.store ∙ t.size)

pub returns : goal.returns
returns c =
    let a = c.args in
    let e = left_new a.rx a.store.now a.octets.now _ (sym c.block_taken.ensures ∙ c.in-Ok.is) (sym c.is_set.ensures ∙ c.if-is_set.false) in
    let put = c.put_block.ensures in
    let step = rw (c.with.ensures, put) at c.taken_block.ensures in
    block_promise a.rx a.store.now a.octets.now _ _ (step ∙ ap (λ (l : BlockLeft). l.step) e) (put ∙ ap (λ (l : BlockLeft). l.store) e)
