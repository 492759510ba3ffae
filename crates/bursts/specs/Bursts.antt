-- A burst: 264 bits in 33 octets, the first bit highest in octet 0. Bits 0-97 and 166-263 are the block field, 98-107 and 156-165 the
-- slot type, 108-155 the sync.
-- Assumes nothing.
use Rattle.std.specs.Prelude.{Bool, Result, true, false, cond, List, [], ◌∷◌, ℕ, ◌+◌, ◌*◌, ◌/◌, ◌%◌, eqb, ltb, length, replicate}
use Rattle.foundation.specs.Bits.{digits, octet_bit, followed, value_of, octets}
use Rattle.foundation.specs.Order.{first_failed}
use Rattle.foundation.specs.Refusals.{outcome}
use Rattle.foundation.specs.declared.refusal.Refusal.{Refusal}
use Rattle.codes.specs.SlotWord.{SlotType, TooWide, slot_word, read_slot_type, slot_number, slot_data}
use Rattle.codes.specs.Field.{BlockField, written_field, read_field}
use Rattle.bursts.specs.declared.burst.Burst.{Burst}
use Rattle.bursts.specs.declared.burst.Kind.{Kind}
use Rattle.bursts.specs.declared.burst.Kind.TheVariants.{Header, Block, Other}
use Rattle.bursts.specs.declared.burst.Sync.{Sync}
use Rattle.bursts.specs.declared.burst.Sync.TheVariants.{Base, Mobile}

-- data type 6 is a header, 7 a block
unfoldable pub kind_of : ℕ → Kind
kind_of t = cond (eqb t 6) Header (cond (eqb t 7) Block Other)

unfoldable pub known : Kind → Bool
known Header = true
known Block = true
known Other = false

-- ---- reading

-- the 20 bits of the slot type
unfoldable pub slot_bits : List ℕ → ℕ
slot_bits b = value_of (followed 10 (λ p. octet_bit b (98 + p)) (λ p. octet_bit b (156 + p))) 0 20

-- the block field in 25 octets
unfoldable pub field_of : List ℕ → List ℕ
field_of b = octets 25 (followed 98 (octet_bit b) (λ p. octet_bit b (166 + p)))

-- the slot type of a burst, and what its block field reads as; octets of another size have neither
unfoldable pub burst_slot : List ℕ → SlotType
burst_slot b = cond (eqb (length b) 33) (read_slot_type (slot_bits b)) TooWide

unfoldable pub burst_field : List ℕ → BlockField
burst_field b = read_field (cond (eqb (length b) 33) (field_of b) [])

-- colour code and data type
abbrev pub colour_of : List ℕ → ℕ
colour_of b = slot_data (burst_slot b) / 16

abbrev pub type_of : List ℕ → ℕ
type_of b = slot_data (burst_slot b) % 16

-- the order of checks: size, slot type, data type, and the block field's
unfoldable pub burst_number : List ℕ → ℕ
burst_number b =
    first_failed ((eqb (length b) 33, 1) ∷ (eqb (slot_number (burst_slot b)) 0, 4) ∷ (known (kind_of (type_of b)), 5)
    ∷ (eqb (burst_field b).number 0, (burst_field b).number) ∷ [])

-- what a burst reads as; zeros beside the number of a refusal
pub record BurstRead : Type 0 where
  pub number : ℕ
  pub colour : ℕ
  pub datatype : ℕ
  pub info : List ℕ

abbrev pub refused_burst : ℕ → BurstRead
refused_burst n = record { number = n; colour = 0; datatype = 0; info = replicate 12 0 }

unfoldable pub read_burst : List ℕ → BurstRead
read_burst b =
    cond (eqb (burst_number b) 0) (record { number = 0; colour = colour_of b; datatype = type_of b; info = (burst_field b).info }) (refused_burst (burst_number b))

-- what reading gives: the contents where the number is 0, else the refusal
unfoldable pub burst_given : BurstRead → Result Burst Refusal
burst_given b = outcome b.number (record { colour = b.colour; datatype = b.datatype; info = b.info })

-- ---- writing

unfoldable pub sync_word : Sync → ℕ
sync_word Base = 0xDFF57D75DF5D
sync_word Mobile = 0xD5D7F77FD757

-- 98 bits of the block field, 10 of the slot type, the sync, 10 of the slot type, 98 of the block field
unfoldable pub burst_bits : List ℕ → ℕ → ℕ → ℕ → ℕ
burst_bits field slot sync =
    followed 98 (octet_bit field) (followed 10 (digits 20 slot) (followed 48 (digits 48 sync)
    (followed 10 (λ p. digits 20 slot (10 + p)) (λ p. octet_bit field (98 + p)))))

-- the 33 octets of a burst
unfoldable pub written_burst : ℕ → ℕ → List ℕ → Sync → List ℕ
written_burst colour type info sync = octets 33 (burst_bits (written_field info) (slot_word (16 * colour + type)) (sync_word sync))

-- the writer's tests: a colour code of four bits, data type 6 or 7
unfoldable pub burst_part_tests : ℕ → ℕ → List (Bool × ℕ)
burst_part_tests colour type = (ltb colour 16, 16) ∷ (known (kind_of type), 16) ∷ []

-- what the writer answers; zeros beside the number of a refusal
pub record BurstOctets : Type 0 where
  pub number : ℕ
  pub octets : List ℕ

unfoldable pub write_burst : ℕ → ℕ → List ℕ → Sync → BurstOctets
write_burst colour type info sync = record {
  number = first_failed (burst_part_tests colour type);
  octets = cond (eqb (first_failed (burst_part_tests colour type)) 0) (written_burst colour type info sync) (replicate 33 0);
}

-- what the writer gives: the octets where the number is 0, else the refusal
unfoldable pub burst_octets_given : BurstOctets → Result (List ℕ) Refusal
burst_octets_given w = outcome w.number w.octets
