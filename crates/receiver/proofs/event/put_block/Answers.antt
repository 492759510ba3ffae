-- `receiver::event::put_block` meets its contract.
-- Assumes nothing.
use mathlib.Core.Path.{◌≡◌, ◌∙◌}
use lib.ListN.{length}
use borrow.Author.Rules.{rules}
use Rattle.receiver.proofs.StoreBlocks.{put-block}
use Rattle.receiver.proofs.event.put_block.Goals as goal

pub returns : goal.returns
returns c =
    let ten : length c.args.octets ≡ 10 = search rules in
    c.put.ensures ∙ put-block c.args.store.now c.args.n c.args.octets c.requires ten
