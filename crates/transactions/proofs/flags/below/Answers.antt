-- `transactions::flags::below` meets its contract.
-- Assumes nothing.
use Rattle.transactions.proofs.FlagWords.{below_none, below_all, below_some}
use Rattle.transactions.proofs.flags.below.Goals as goal

pub returns-then-n-j : goal.returns-then-n-j
returns-then-n-j c = below_none c.args.n c.args.j c.if-n-j.true

pub returns-then-k-ge64 : goal.returns-then-k-ge64
returns-then-k-ge64 c = below_all c.args.n c.args.j c.if-k-ge64.true

pub returns : goal.returns
returns c = below_some c.args.n c.args.j c.if-k-ge64.false
