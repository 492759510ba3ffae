-- `capi::coding::kirruskabe_write_field` meets its contract.
-- Assumes nothing.
use mathlib.Core.Path.{refl, ap, ◌∙◌}
use mathlib.Core.List.{List, []}
use Prim.Native.Nat.{ℕ}
use Rattle.codes.specs.Field.{written_field}
use Rattle.layouts.specs.Lent.{answer_of}
use Rattle.layouts.proofs.Giving.{gives_as, refused_with_1}
use Rattle.capi.specs.Answers.{field_written}
use Rattle.capi.proofs.Behind.{behind-none, past_size, short, behind_as}
use Rattle.capi.proofs.coding.kirruskabe_write_field.Goals as goal

pub returns-in_default : goal.returns-in_default
unfolding field_written
returns-in_default c = let a = c.args in refused_with_1 25 _ a.out.now (short 0 a.info.now 12 [] c.in_default.ensures.cases)

pub returns : goal.returns
unfolding field_written answer_of
returns c =
    let os = c.args.info.now in
    let info = c.in-Some.ensures.cases in
    behind_as 0 0 (written_field os) _ (past_size 0 os 12 [] info.long ∙ behind-none 0)
    (gives_as refl (ap (λ (x : List ℕ). (0, x)) (c.write.ensures.0 ∙ ap written_field info.same)) c.give_result.ensures)
