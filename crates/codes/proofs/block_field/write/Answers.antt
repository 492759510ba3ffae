-- `codes::block_field::write` meets its contract.
-- Assumes nothing.
use mathlib.Core.Path.{sym, subst, ◌∙◌}
use mathlib.Core.List.{List}
use Prim.Native.Nat.{ℕ}
use mir.Syntax.{w8}
use borrow.Author.Rules.{rules, elem_Fits}
use Rattle.codes.specs.Claims.{FieldComesBack}
use Rattle.codes.proofs.Claims.{claims}
use Rattle.codes.proofs.FieldWriting.{field-written}
use Rattle.codes.proofs.block_field.write.Goals as goal

pub returns : goal.returns
returns c =
    let m = c.matrix in
    let info = c.args.info in
    let is = c.octets.ensures ∙ field-written m.result info m.ensures in
    (is, subst (λ (f : List ℕ). FieldComesBack info f) (sym is) (claims.block_fields.comes_back info (search (rules, c.well_formed)) (λ j. (elem_Fits w8 w8 info _ j c.well_formed.0.1.1 tt).fits)))
