-- `codes::block_field::read` meets its contract.
-- Assumes nothing.
use mathlib.Core.Path.{◌≡◌, sym, ap, subst, ◌∙◌}
use mathlib.Core.List.{List}
use Prim.Native.Nat.{ℕ}
use native.Mathlib.Omega.{arith}
use Rattle.foundation.specs.Refusals.{refusal, outcome}
use Rattle.codes.specs.Field.{read_field, field_given}
use Rattle.codes.specs.Words.{cell, matrix_read, Codewords, ColumnsRight}
use Rattle.codes.proofs.FieldWords.{field_rows, rows_same, cell-read, cell_clean, rows-good, matrix_read_lem, columns-bad, refused-read, read-size}
use Rattle.codes.proofs.block_field.read.Goals as goal

pub returns-then-field-ne25 : goal.returns-then-field-ne25
unfolding field_given outcome refusal
returns-then-field-ne25 c = ap field_given (read-size c.args.field.now c.if-field-ne25.true)

pub returns-then-is_clean : goal.returns-then-is_clean
returns-then-is_clean c =
    let f = c.args.field.now in
    let is = c.rows-m.ensures ∙ rows_same f in
    let clean = subst Codewords is (c.is_clean.ensures c.if-is_clean.true) in
    c.read_matrix.ensures ∙ ap field_given (subst (λ (m : List ℕ). matrix_read (cell m) ≡ read_field f) (sym is) (matrix_read_lem f (field_rows f) (cell_clean f clean) c.if-field-ne25.false))

pub returns-then-not-columns_good : goal.returns-then-not-columns_good
unfolding field_given outcome refusal
returns-then-not-columns_good c =
    let f = c.args.field.now in
    let is = c.rows-m.ensures ∙ rows_same f in
    let m = c.correct_rows-corrected.result in
    let columns = subst (λ (l : List ℕ). ColumnsRight l c.correct_columns.result) is c.correct_columns.ensures in
    let rows = rows-good f c.correct_columns.result m columns c.correct_rows-corrected.ensures in
    ap field_given
    (refused-read m 6 (columns-bad m rows (sym c.columns_good.ensures ∙ c.if-not-columns_good.true)) (λ e. omega arith)
    ∙ matrix_read_lem f m (cell-read f c.correct_columns.result m columns c.correct_rows-corrected.ensures) c.if-field-ne25.false)

pub read_matrix-requires-2 : goal.read_matrix-requires-2
read_matrix-requires-2 c =
    let f = c.args.field.now in
    let is = c.rows-m.ensures ∙ rows_same f in
    let columns = subst (λ (l : List ℕ). ColumnsRight l c.correct_columns.result) is c.correct_columns.ensures in
    record { rows = rows-good f c.correct_columns.result c.correct_rows-corrected.result columns c.correct_rows-corrected.ensures; columns = sym c.columns_good.ensures ∙ c.if-not-columns_good.false }

pub returns : goal.returns
returns c =
    let f = c.args.field.now in
    let is = c.rows-m.ensures ∙ rows_same f in
    let columns = subst (λ (l : List ℕ). ColumnsRight l c.correct_columns.result) is c.correct_columns.ensures in
    c.read_matrix-2.ensures ∙ ap field_given (matrix_read_lem f c.correct_rows-corrected.result (cell-read f c.correct_columns.result c.correct_rows-corrected.result columns c.correct_rows-corrected.ensures) c.if-field-ne25.false)
