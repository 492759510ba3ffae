-- `codes::block_field::read_matrix` meets its contract.
-- Assumes nothing.
use mathlib.Core.Path.{refl, ap}
use native.Mathlib.Omega.{arith}
use Rattle.foundation.specs.Refusals.{refusal, outcome}
use Rattle.codes.specs.Field.{field_given}
use Rattle.codes.proofs.FieldWords.{reserved_some, reserved-zero, refused-read, good-read}
use Rattle.codes.proofs.block_field.read_matrix.Goals as goal

pub returns-then-m-ne0 : goal.returns-then-m-ne0
unfolding field_given outcome refusal
returns-then-m-ne0 c = ap field_given (refused-read c.args.m 7 (reserved_some c.args.m c.requires.rows c.requires.columns c.if-m-ne0.true) (λ e. omega arith))

pub returns : goal.returns
unfolding field_given outcome
returns c =
    let m = c.args.m in
    ap field_given (good-read m 0 (reserved-zero m c.requires.rows c.requires.columns c.if-m-ne0.false) refl c.info_octets.result c.info_octets.ensures)
