-- `captures::put_delivery` meets its contract.
-- Assumes nothing.
use Rattle.std.proofs.Common.{rules}
use Rattle.receiver.specs.Events.{said}
use Rattle.captures.specs.Lines.{delivery_line}
use Rattle.captures.proofs.Lines.{no_line}
use Rattle.captures.proofs.put_delivery.Goals as goal

pub returns-in-Ok-Opened : goal.returns-in-Ok-Opened
unfolding delivery_line said
returns-in-Ok-Opened c = no_line 1302 _ c.args.out.now (search rules)

pub returns-in-Ok-Repeat : goal.returns-in-Ok-Repeat
unfolding delivery_line said
returns-in-Ok-Repeat c = no_line 1302 _ c.args.out.now (search rules)

pub returns-in-Ok-Stored : goal.returns-in-Ok-Stored
unfolding delivery_line said
returns-in-Ok-Stored c = no_line 1302 _ c.args.out.now (search rules)

pub returns-in-Err : goal.returns-in-Err
unfolding delivery_line said
returns-in-Err c = no_line 1302 _ c.args.out.now (search rules)
