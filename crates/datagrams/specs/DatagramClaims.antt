-- What a reader of demand 2 wants of datagrams, and when each number of document 01's table is given.
-- Assumes nothing.
use Rattle.std.specs.Prelude.{◌≡◌, ℕ, ◌%◌, ◌^◌, ◌<◌, ◌≤◌, true, false, ◌≢◌, ◌⊎◌, ◌↔◌, List, length, take, slice_index}
use Rattle.codes.specs.SlotWord.{distance}
use Rattle.codes.specs.Field.{field_number, Correctable}
use Rattle.bursts.specs.Bursts.{kind_of, known, slot_bits, field_of, written_burst}
use Rattle.bursts.specs.BurstClaims.{Near}
use Rattle.datagrams.specs.Datagrams.{prefix, next_sequence, frame_of, named_type, burst_of, datagram_number, read_datagram, label_octets, written_datagram, write_datagram}
use Rattle.bursts.specs.declared.burst.Sync.{Sync}
use Rattle.datagrams.specs.declared.Labels.{Labels}

-- each label within its width
pub record Fits (l : Labels) : Type 0 where
  pub sequence : l.sequence < 256
  pub source : l.source.0 < 2 ^ 24
  pub target : l.target.0 < 2 ^ 24
  pub repeater : l.repeater.0 < 2 ^ 32
  pub timeslot : l.timeslot < 2
  pub call : l.call < 2
  pub stream : l.stream < 2 ^ 32

-- the size of a datagram, and another prefix
abbrev pub Unprefixed : List ℕ → Type 0
Unprefixed d = (length d ≡ 53) × (take 4 d ≢ prefix)

-- size and prefix of a datagram, and another frame type
abbrev pub OtherFrame : List ℕ → Type 0
OtherFrame d = (length d ≡ 53) × (take 4 d ≡ prefix) × (frame_of d ≢ 2)

-- size, prefix and frame type are good
abbrev pub Framed : List ℕ → Type 0
Framed d = (length d ≡ 53) × (take 4 d ≡ prefix) × (frame_of d ≡ 2)

-- and no codeword is near the slot type
abbrev pub NoSlotType : List ℕ → Type 0
NoSlotType d = Framed d × ((s : ℕ) → Near (burst_of d) s → ⊥)

-- a codeword is near whose data type is not the datagram's, or the datagram's is neither 6 nor 7
abbrev pub WrongType : List ℕ → Type 0
WrongType d = Framed d × (s : ℕ) × Near (burst_of d) s × ((named_type d ≢ s % 16) ⊎ (known (kind_of (named_type d)) ≡ false))

-- a codeword is near with the datagram's data type, 6 or 7, and the block field has number n
abbrev pub FieldOf : ℕ → List ℕ → Type 0
FieldOf n d =
    Framed d × (s : ℕ) × Near (burst_of d) s × (named_type d ≡ s % 16) × (known (kind_of (named_type d)) ≡ true)
    × (field_number (field_of (burst_of d)) ≡ n)

-- a field that the writer has no room for
abbrev pub Outside : Labels → ℕ → ℕ → Type 0
Outside l colour type =
    (2 ^ 24 ≤ l.source.0) ⊎ (2 ^ 24 ≤ l.target.0) ⊎ (2 ≤ l.timeslot) ⊎ (2 ≤ l.call) ⊎ (16 ≤ colour) ⊎ (known (kind_of type) ≡ false)

-- the datagram `sent`, with its first 20 octets as they are, at most three wrong slot-type bits and a block field in which at most one of the
-- 15 columns holds more than one wrong bit, comes back with these labels, colour code, data type and information
abbrev pub DatagramComesBack : Labels → ℕ → ℕ → List ℕ → List ℕ → Type 0
DatagramComesBack l colour type info sent =
    (d : List ℕ) → length d ≡ 53 → take 20 d ≡ take 20 sent → distance (slot_bits (burst_of d)) (slot_bits (burst_of sent)) ≤ 3
    → Correctable (field_of (burst_of sent)) (field_of (burst_of d))
    → read_datagram d ≡ record { number = 0; labels = l; colour = colour; datatype = type; info = info }

pub record DatagramClaims : Type 0 where
  -- the sequence counter goes from 255 to 0
  pub wraps : next_sequence 255 ≡ 0
  -- what is written reads back
  pub reads_back : (l : Labels) (colour type : ℕ) (info : List ℕ) (sync : Sync) → Fits l → colour < 16 → known (kind_of type) ≡ true
      → length info ≡ 12 → ((j : ℕ) → slice_index info j < 256)
      → read_datagram (written_datagram l colour type info sync) ≡ record { number = 0; labels = l; colour = colour; datatype = type; info = info }
  -- its first 20 octets are the labels' and the data type's, and the burst's stand behind them
  pub first : (l : Labels) (colour type : ℕ) (info : List ℕ) (sync : Sync) → take 20 (written_datagram l colour type info sync) ≡ label_octets l type
  pub burst : (l : Labels) (colour type : ℕ) (info : List ℕ) (sync : Sync)
      → burst_of (written_datagram l colour type info sync) ≡ written_burst colour type info sync
  -- it comes back also with wrong bits
  pub comes_back : (l : Labels) (colour type : ℕ) (info : List ℕ) (sync : Sync) → Fits l → colour < 16 → known (kind_of type) ≡ true
      → length info ≡ 12 → ((j : ℕ) → slice_index info j < 256) → DatagramComesBack l colour type info (written_datagram l colour type info sync)
  -- each number of reading is given exactly if its row is true, and there are no others
  pub numbered : (d : List ℕ) → (read_datagram d).number ≡ datagram_number d
  pub zero : (d : List ℕ) → ((read_datagram d).number ≡ 0) ↔ FieldOf 0 d
  pub one : (d : List ℕ) → ((read_datagram d).number ≡ 1) ↔ (length d ≢ 53)
  pub two : (d : List ℕ) → ((read_datagram d).number ≡ 2) ↔ Unprefixed d
  pub three : (d : List ℕ) → ((read_datagram d).number ≡ 3) ↔ OtherFrame d
  pub four : (d : List ℕ) → ((read_datagram d).number ≡ 4) ↔ NoSlotType d
  pub five : (d : List ℕ) → ((read_datagram d).number ≡ 5) ↔ WrongType d
  pub six : (d : List ℕ) → ((read_datagram d).number ≡ 6) ↔ FieldOf 6 d
  pub seven : (d : List ℕ) → ((read_datagram d).number ≡ 7) ↔ FieldOf 7 d
  pub no_other : (d : List ℕ) → (read_datagram d).number ≤ 7
  -- the writer gives the octets, or 16 exactly if a field is outside its width or the data type is neither 6 nor 7
  pub writes : (l : Labels) (colour type : ℕ) (info : List ℕ) (sync : Sync) → Fits l → colour < 16 → known (kind_of type) ≡ true
      → write_datagram l colour type info sync ≡ record { number = 0; octets = written_datagram l colour type info sync }
  pub sixteen : (l : Labels) (colour type : ℕ) (info : List ℕ) (sync : Sync)
      → ((write_datagram l colour type info sync).number ≡ 16) ↔ Outside l colour type
