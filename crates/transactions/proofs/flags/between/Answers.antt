-- `transactions::flags::between` meets its contract.
-- Assumes nothing.
use Rattle.transactions.proofs.FlagWords.{between_is}
use Rattle.transactions.proofs.flags.between.Goals as goal

pub returns : goal.returns
returns c = let a = c.args in between_is a.from a.to a.j _ _ c.below-2.ensures c.below.ensures
