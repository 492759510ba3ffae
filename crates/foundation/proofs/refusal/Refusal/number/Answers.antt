-- `foundation::refusal::Refusal::number` meets its contract.
-- Assumes nothing.
use mathlib.Core.Path.{◌≡◌, refl}
use Prim.Native.Nat.{◌+◌}
use Rattle.foundation.specs.Refusals.{refusal_number}
use Rattle.foundation.specs.declared.refusal.Refusal.{Refusal}
use Rattle.foundation.specs.declared.refusal.Refusal.TheVariants.{Size, Prefix, FrameType, SlotType, DataType, Uncorrectable, Reserved, HeaderCheck, Format, NotForUs, BlockCount, NoTransaction, BlockCheck, Serial, OtherOctets, Unwritable, StoredCheck, StoredLayout, OtherAddress}
use Rattle.foundation.proofs.refusal.Refusal.number.Goals as goal

as_number : (r : Refusal) → denote.Enum.Declared.tag_of Rattle.foundation.specs.contracts.refusal.Refusal.the_type r + 1 ≡ refusal_number r
unfolding refusal_number
as_number Size = refl
as_number Prefix = refl
as_number FrameType = refl
as_number SlotType = refl
as_number DataType = refl
as_number Uncorrectable = refl
as_number Reserved = refl
as_number HeaderCheck = refl
as_number Format = refl
as_number NotForUs = refl
as_number BlockCount = refl
as_number NoTransaction = refl
as_number BlockCheck = refl
as_number Serial = refl
as_number OtherOctets = refl
as_number Unwritable = refl
as_number StoredCheck = refl
as_number StoredLayout = refl
as_number OtherAddress = refl

pub returns : goal.returns
returns c = as_number c.args.self
