-- `capi::coding::kirruskabe_read_slot_type` meets its contract.
-- Assumes nothing.
use mathlib.Core.List.{[], ◌∷◌}
use Rattle.codes.specs.SlotWord.{read_slot_type, slot_number, slot_data, slot_given}
use Rattle.layouts.proofs.Giving.{by_outcome}
use Rattle.capi.specs.Answers.{slot_read}
use Rattle.capi.proofs.BurstNumbers.{slot_few}
use Rattle.capi.proofs.Making.{made_of}
use Rattle.capi.proofs.coding.kirruskabe_read_slot_type.Goals as goal

pub returns : goal.returns
unfolding slot_read slot_given
returns c =
    let s = read_slot_type c.args.word in
    by_outcome (slot_number s) (slot_data s ∷ []) (made_of _ (slot_number s) (slot_data s) _ c.read.ensures c.map.ensures.cases (λ y p. p))
    (slot_few s) c.give_result.ensures
