-- `messages::response::read_beside` meets its contract.
-- Assumes nothing.
use mathlib.Core.Path.{refl, sym, ap, ◌∙◌}
use native.Mathlib.Omega.{arith}
use Rattle.std.specs.Prelude.{Ok}
use Rattle.foundation.specs.Refusals.{refusal, outcome}
use Rattle.messages.specs.Responses.{fields_given}
use Rattle.messages.specs.Parts.{answer_with, fields_with}
use Rattle.messages.proofs.ResponseParts.{beside_alone, beside_size, beside_check, beside_flags}
use Rattle.messages.proofs.response.read_beside.Goals as goal

pub returns-then-class-ne-SACK : goal.returns-then-class-ne-SACK
unfolding fields_given outcome answer_with fields_with
returns-then-class-ne-SACK c =
    let a = c.args in
    ap Ok c.fields_with.ensures ∙ ap fields_given (beside_alone a.c a.class a.kind a.status a.block.now _ refl c.if-class-ne-SACK.true)

pub returns-then-block-ne12 : goal.returns-then-block-ne12
unfolding fields_given outcome refusal
returns-then-block-ne12 c =
    let a = c.args in
    ap fields_given (beside_size a.c a.class a.kind a.status a.block.now (omega arith) c.if-block-ne12.true)

pub returns-then-not-message_good : goal.returns-then-not-message_good
unfolding fields_given outcome refusal
returns-then-not-message_good c =
    let a = c.args in
    ap fields_given
    (beside_check a.c a.class a.kind a.status a.block.now (omega arith) (omega arith) (sym c.message_good.ensures ∙ c.if-not-message_good.true))

pub returns : goal.returns
unfolding fields_given outcome answer_with fields_with
returns c =
    let a = c.args in
    ap Ok c.fields_with-2.ensures
    ∙ ap fields_given
    (beside_flags a.c a.class a.kind a.status a.block.now (omega arith) _ _ refl c.flags_of.ensures (omega arith)
    (sym c.message_good.ensures ∙ c.if-not-message_good.false))
