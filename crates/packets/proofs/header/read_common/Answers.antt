-- `packets::header::read_common` meets its contract.
-- Assumes nothing.
use Rattle.packets.proofs.HeaderReading.{common_is}
use Rattle.packets.proofs.header.read_common.Goals as goal

pub returns : goal.returns
returns c =
    common_is c.args.h.now _ _ _ _ _
    (λ i. (c.type_inv.h i).fits) c.at-first.ensures
    c.at-second.ensures c.at-ninth.ensures c.address_at.ensures c.address_at-2.ensures
