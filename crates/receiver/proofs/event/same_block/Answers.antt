-- `receiver::event::same_block` meets its contract.
-- Assumes nothing.
use mathlib.Core.Path.{◌≡◌, ap, ◌∙◌}
use Prim.Native.Nat.{ℕ, ◌+◌, ◌*◌, ◌-◌}
use native.Mathlib.Omega.{arith}
use lib.Dec.{eqb}
use lib.ListN.{length, take, drop}
use lib.Pointwise.{pointwise}
use borrow.Author.Rules.{rules}
use Rattle.receiver_state.specs.Receiver.{block_at}
use Rattle.receiver.proofs.StoreBlocks.{slices_same}
use Rattle.receiver.proofs.event.same_block.Goals as goal

pub returns : goal.returns
unfolding block_at
returns c =
    let a = c.args in
    let ten : length a.octets ≡ 10 = search rules in
    let size : 10 * a.n + 10 - 10 * a.n ≡ 10 = omega arith in
    c.eq.ensures ∙ ap (λ (k : ℕ). pointwise eqb (take k (drop (10 * a.n) a.store.now)) a.octets) size
    ∙ slices_same a.store.now a.n a.octets c.requires ten
