-- `interleaver::reading::rows` meets its contract.
-- Assumes nothing.
use mathlib.Core.Path.{ap, ap₂, ◌∙◌}
use Prim.Native.Nat.{ℕ}
use native.Mathlib.Omega.{arith}
use Rattle.interleaver.specs.Lanes.{turned_square}
use Rattle.interleaver.specs.Reading.{grouped, cut_words}
use Rattle.interleaver.proofs.Undone.{cut_square, rows-read}
use Rattle.interleaver.proofs.reading.rows.Goals as goal

pub returns : goal.returns
returns c =
    c.cut.ensures
    ∙ ap₂ (λ (w x : ℕ). cut_words w x c.group-3.result c.group-4.result) c.group.ensures c.group-2.ensures
    ∙ ap₂ (λ (y z : ℕ). cut_words (grouped c.turned-y.result.a) (grouped c.turned-y.result.b) y z) c.group-3.ensures c.group-4.ensures
    ∙ ap cut_square (c.turned-y.ensures ∙ ap turned_square c.runs.ensures)
    ∙ rows-read c.args.field.now (omega (arith, c.type_inv.field 24)) c.in_words.result c.in_words.ensures
