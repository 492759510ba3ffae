-- `packets::block::write` meets its contract.
-- Assumes nothing.
-- what is given, and that it reads back
use mathlib.Core.Path.{sym, ap, subst, ◌∙◌}
use native.Mathlib.Omega.{arith}
use Rattle.foundation.specs.Refusals.{refusal, outcome}
use Rattle.packets.specs.Blocks.{BlockOctets, block_octets_given}
use Rattle.packets.specs.BlockClaims.{BlockReadsBack}
use Rattle.packets.proofs.BlockClaims.{claims}
use Rattle.packets.proofs.BlockWriting.{size-refused, serial-refused, written}
use Rattle.packets.proofs.block.write.Goals as goal

pub returns-then-octets-ne10 : goal.returns-then-octets-ne10
unfolding block_octets_given outcome refusal
returns-then-octets-ne10 c =
    let a = c.args in
    (ap block_octets_given (size-refused a.serial a.octets.now c.if-octets-ne10.true), claims.reads_back _ _, tt)

pub returns-then-serial-ge128 : goal.returns-then-serial-ge128
unfolding block_octets_given outcome refusal
returns-then-serial-ge128 c =
    let a = c.args in
    (ap block_octets_given (serial-refused a.serial a.octets.now (omega arith) (omega arith)), claims.reads_back _ _, tt)

pub returns : goal.returns
unfolding block_octets_given outcome
returns c =
    let a = c.args in
    let e = c.octets_of.ensures in
    let is = (λ i. record { number = 0; octets = e i }) ∙ written a.serial a.octets.now (omega arith) (omega arith) in
    let back = claims.reads_back a.serial a.octets.now in
    (ap block_octets_given is, back, subst (λ (w : BlockOctets). BlockReadsBack a.serial a.octets.now w) (sym is) back)
