-- What a reader of demand 2 wants of bursts, and when each number of document 01's table is given.
-- Assumes nothing.
use Rattle.std.specs.Prelude.{◌≡◌, true, false, List, ◌≢◌, ◌⊎◌, ◌↔◌, ℕ, ◌+◌, ◌*◌, ◌%◌, ◌≤◌, ◌<◌, length, get_or}
use Rattle.codes.specs.SlotWord.{slot_word, distance}
use Rattle.codes.specs.Field.{written_field, field_number, Correctable}
use Rattle.bursts.specs.Bursts.{kind_of, known, slot_bits, field_of, read_burst, written_burst, write_burst}
use Rattle.bursts.specs.declared.burst.Sync.{Sync}

-- the slot type of b is at most three bits from the codeword of d
abbrev pub Near : List ℕ → ℕ → Type 0
Near b d = (d < 256) × (distance (slot_bits b) (slot_word d) ≤ 3)

-- the size of a burst, and no codeword near
abbrev pub Untyped : List ℕ → Type 0
Untyped b = (length b ≡ 33) × ((d : ℕ) → Near b d → ⊥)

-- a codeword near, whose data type is neither 6 nor 7
abbrev pub OtherType : List ℕ → Type 0
OtherType b = (length b ≡ 33) × (d : ℕ) × Near b d × (known (kind_of (d % 16)) ≡ false)

-- a codeword near with data type 6 or 7, and a block field of number n
abbrev pub FieldGives : ℕ → List ℕ → Type 0
FieldGives n b = (length b ≡ 33) × (d : ℕ) × Near b d × (known (kind_of (d % 16)) ≡ true) × (field_number (field_of b) ≡ n)

-- when reading gives which number
pub data BurstRow (b : List ℕ) : ℕ → Type 0 where
  burst-size : length b ≢ 33 → BurstRow b 1
  slot_type_lem : Untyped b → BurstRow b 4
  data_type : OtherType b → BurstRow b 5
  field-good : FieldGives 0 b → BurstRow b 0
  field_code : FieldGives 6 b → BurstRow b 6
  field-reserved : FieldGives 7 b → BurstRow b 7

-- the burst `sent`, with at most three wrong slot-type bits and a block field in which at most one of the 15 columns holds more than one
-- wrong bit, comes back with this colour code, data type and information
abbrev pub BurstComesBack : ℕ → ℕ → List ℕ → List ℕ → Type 0
BurstComesBack colour type info sent =
    (b : List ℕ) → length b ≡ 33 → distance (slot_bits b) (slot_bits sent) ≤ 3 → Correctable (field_of sent) (field_of b)
    → read_burst b ≡ record { number = 0; colour = colour; datatype = type; info = info }

pub record BurstClaims : Type 0 where
  -- what is written reads back
  pub reads_back : (colour type : ℕ) (info : List ℕ) (sync : Sync) → colour < 16 → known (kind_of type) ≡ true → length info ≡ 12
      → ((j : ℕ) → get_or info j 0 < 256)
      → read_burst (written_burst colour type info sync) ≡ record { number = 0; colour = colour; datatype = type; info = info }
  -- its slot type and its block field are the codes' words
  pub slot : (colour type : ℕ) (info : List ℕ) (sync : Sync) → colour < 16 → type < 16
      → slot_bits (written_burst colour type info sync) ≡ slot_word (16 * colour + type)
  pub field : (colour type : ℕ) (info : List ℕ) (sync : Sync) → field_of (written_burst colour type info sync) ≡ written_field info
  -- it comes back also with wrong bits
  pub comes_back : (colour type : ℕ) (info : List ℕ) (sync : Sync) → colour < 16 → known (kind_of type) ≡ true → length info ≡ 12
      → ((j : ℕ) → get_or info j 0 < 256) → BurstComesBack colour type info (written_burst colour type info sync)
  -- each number of reading is given exactly if its row is true, and there are no others
  pub numbers : (b : List ℕ) (n : ℕ) → ((read_burst b).number ≡ n) ↔ BurstRow b n
  -- the writer gives the octets, or 16 exactly if the colour code has more than four bits or the data type is neither 6 nor 7
  pub writes : (colour type : ℕ) (info : List ℕ) (sync : Sync) → colour < 16 → known (kind_of type) ≡ true
      → write_burst colour type info sync ≡ record { number = 0; octets = written_burst colour type info sync }
  pub sixteen : (colour type : ℕ) (info : List ℕ) (sync : Sync)
      → ((write_burst colour type info sync).number ≡ 16) ↔ ((16 ≤ colour) ⊎ (known (kind_of type) ≡ false))
