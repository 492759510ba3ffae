-- `bursts::burst::field_octets` meets its contract.
-- Assumes nothing.
use mathlib.Core.Path.{◌∙◌}
use Rattle.bursts.specs.Bursts.{field_of}
use Rattle.bursts.proofs.Reading.{field_words_lem}
use Rattle.bursts.proofs.burst.field_octets.Goals as goal

pub returns : goal.returns
unfolding field_of
returns c =
    c.field_of.ensures
    ∙ field_words_lem c.args.b.now c.word_at-x.result c.field_across-y.result c.word_across-z.result c.word_across-last.result c.word_at-x.ensures c.field_across-y.ensures
    c.word_across-z.ensures c.word_across-last.ensures
