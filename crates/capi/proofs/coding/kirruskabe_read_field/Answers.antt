-- `capi::coding::kirruskabe_read_field` meets its contract.
-- Assumes nothing.
use Rattle.codes.specs.Field.{read_field, field_given}
use Rattle.layouts.proofs.Giving.{by_outcome}
use Rattle.capi.specs.Answers.{field_read}
use Rattle.capi.proofs.BurstNumbers.{field_few}
use Rattle.capi.proofs.coding.kirruskabe_read_field.Goals as goal

pub returns : goal.returns
unfolding field_read field_given
returns c =
    let f = read_field c.args.field.now in
    by_outcome f.number f.info c.read.ensures (field_few c.args.field.now) c.give_result.ensures
