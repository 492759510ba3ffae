-- `packets::block::octets_of` meets its contract.
-- Assumes nothing.
use mathlib.Core.Path.{◌≡◌, ap, ◌∙◌}
use Prim.Native.Nat.{◌/◌}
use native.Mathlib.Omega.{arith}
use lib.ListN.{get_or}
use Rattle.foundation.proofs.OctetWords.{two_octets}
use Rattle.checks.proofs.BlockChecks.{block_check-lt}
use Rattle.packets.proofs.BlockWriting.{whole}
use Rattle.packets.proofs.block.octets_of.Goals as goal

pub overflow_add-os : goal.overflow_add-os
overflow_add-os c =
    let high : get_or c.to_be_bytes.result 0 0 ≡ c.block.result / 256 = ap (λ l. get_or l 0 0) (two_octets _ c.block.result c.block.type_inv c.to_be_bytes.ensures) in
    omega (arith, high, c.block.ensures.0, block_check-lt c.args.serial c.args.octets.now)

pub returns : goal.returns
returns c =
    let a = c in
    let two = two_octets _ c.block.result c.block.type_inv c.to_be_bytes.ensures in
    rw two at c.put.ensures ∙ whole a.args.serial a.args.octets.now a.requires.1 _ c.block.ensures.0
