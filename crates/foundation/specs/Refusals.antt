-- The numbers of document 01's table, and what is given in their place: an answer where the number is 0, else the refusal.
-- Assumes nothing.
use Rattle.std.specs.Prelude.{Result, Ok, Err, List, [], ◌∷◌, ℕ, zero, suc, ◌-◌, leb, ◌&&◌, if◌then◌else◌, get_or}
use Rattle.foundation.specs.declared.refusal.NotInTable.{NotInTable}
use Rattle.foundation.specs.declared.refusal.Refusal.{Refusal}
use Rattle.foundation.specs.declared.refusal.Refusal.TheVariants.{Size, Prefix, FrameType, SlotType, DataType, Uncorrectable, Reserved, HeaderCheck, Format, NotForUs, BlockCount, NoTransaction, BlockCheck, Serial, OtherOctets, Unwritable, StoredCheck, StoredLayout, OtherAddress}

-- the number of a refusal
unfoldable pub refusal_number : Refusal → ℕ
refusal_number Size = 1
refusal_number Prefix = 2
refusal_number FrameType = 3
refusal_number SlotType = 4
refusal_number DataType = 5
refusal_number Uncorrectable = 6
refusal_number Reserved = 7
refusal_number HeaderCheck = 8
refusal_number Format = 9
refusal_number NotForUs = 10
refusal_number BlockCount = 11
refusal_number NoTransaction = 12
refusal_number BlockCheck = 13
refusal_number Serial = 14
refusal_number OtherOctets = 15
refusal_number Unwritable = 16
refusal_number StoredCheck = 17
refusal_number StoredLayout = 18
refusal_number OtherAddress = 19

-- the refusals in the order of the table, and that of a number from 1 on
abbrev pub table : List Refusal
table =
    Size ∷ Prefix ∷ FrameType ∷ SlotType ∷ DataType ∷ Uncorrectable ∷ Reserved ∷
    HeaderCheck ∷ Format ∷ NotForUs ∷ BlockCount ∷ NoTransaction ∷ BlockCheck ∷
    Serial ∷ OtherOctets ∷ Unwritable ∷ StoredCheck ∷ StoredLayout ∷ OtherAddress ∷ []

unfoldable pub refusal : ℕ → Refusal
refusal n = get_or table (n - 1) OtherAddress

-- the refusal of a number, where the table has the number
unfoldable pub numbered : ℕ → Result Refusal NotInTable
numbered n = if leb 1 n && leb n 19 then Ok (refusal n) else Err (record { 0 = n })

-- what is given for a number and an answer
unfoldable pub outcome : {A : Type 0} → ℕ → A → Result A Refusal
outcome zero a = Ok a
outcome (suc n) a = Err (refusal (suc n))

-- the number of what is given, 0 for an answer
unfoldable pub number_given : {A : Type 0} → Result A Refusal → ℕ
number_given (Ok a) = 0
number_given (Err r) = refusal_number r
