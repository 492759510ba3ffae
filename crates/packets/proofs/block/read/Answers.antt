-- `packets::block::read` meets its contract.
-- Assumes nothing.
use mathlib.Core.Path.{sym, ap, ◌∙◌}
use native.Mathlib.Omega.{arith}
use Prim.Native.Nat.{◌/◌}
use lib.ListN.{get_or}
use Rattle.foundation.specs.Refusals.{refusal, outcome}
use Rattle.packets.specs.Blocks.{block_given}
use Rattle.packets.proofs.BlockReading.{size-refused, check-refused, accepted}
use Rattle.packets.proofs.block.read.Goals as goal

pub returns-then-octets-ne12 : goal.returns-then-octets-ne12
unfolding block_given outcome refusal
returns-then-octets-ne12 c = ap block_given (size-refused c.args.octets.now c.if-octets-ne12.true)

pub returns-then-not-block_good : goal.returns-then-not-block_good
unfolding block_given outcome refusal
returns-then-not-block_good c = ap block_given (check-refused c.args.octets.now (omega arith) (sym c.block_good.ensures ∙ c.if-not-block_good.true))

pub returns : goal.returns
unfolding block_given outcome
returns c =
    let b = c.args.octets.now in
    let e = c.data_of.ensures in
    ap block_given
    ((λ i. record { number = 0; serial = get_or b 0 0 / 2; octets = e i })
    ∙ accepted b (omega arith) (sym c.block_good.ensures ∙ c.if-not-block_good.false))
