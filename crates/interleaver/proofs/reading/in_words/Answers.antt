-- `interleaver::reading::in_words` meets its contract.
-- Assumes nothing.
use mathlib.Core.Path.{◌∙◌}
use native.Mathlib.Omega.{arith}
use lib.ListN.{get_or}
use Rattle.foundation.proofs.OctetWords.{whole_word}
use Rattle.interleaver.specs.Reading.{field_words}
use Rattle.interleaver.proofs.reading.in_words.Goals as goal

pub returns-then-field-lt25 : goal.returns-then-field-lt25
unfolding field_words
returns-then-field-lt25 c =
    let a = c.word_at.ensures in
    let b = c.word_at-then-field-lt25.ensures in
    let d = c.word_at-then-field-lt25-2.ensures in
    let e = c.at.ensures in
    λ i. record { a = a i; b = b i; c = d i; d = e i }

pub returns : goal.returns
unfolding field_words
returns c =
    let os = c.args.field.now in
    let a = c.whole_word.ensures ∙ whole_word os 0 (omega arith) in
    let b = c.whole_word-2.ensures ∙ whole_word os 8 (omega arith) in
    let d = c.whole_word-3.ensures ∙ whole_word os 16 (omega arith) in
    λ i. record { a = a i; b = b i; c = d i; d = get_or os 24 0 }
