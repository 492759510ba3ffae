-- `bursts::burst::field_across` meets its contract.
-- Assumes nothing.
use Rattle.bursts.proofs.Reading.{field_across}
use Rattle.bursts.proofs.burst.field_across.Goals as goal

pub returns : goal.returns
returns c = field_across c.args.b.now c.word_at-before.result c.word_at-behind.result c.word_at-before.ensures c.word_at-behind.ensures
