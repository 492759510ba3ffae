-- A datagram: 53 octets. The four letters DMRD, sequence counter (1), source (3), target (3), repeater (4), one octet of timeslot (top
-- bit), call type, frame type (2 bits) and data type (4 bits), then stream (4) and burst (33). Numbers are most significant octet first.
-- Assumes nothing.
use Rattle.std.specs.Prelude.{Result, ℕ, ◌+◌, ◌*◌, ◌/◌, ◌%◌, ◌^◌, Bool, cond, List, [], ◌∷◌, ◌++◌, length, drop, replicate, ◌==◌, nat_eq, nat_lt, slice_index}
use Rattle.addresses.specs.Octets.{address_at, three_octets, four_octets, number_at}
use Rattle.foundation.specs.Order.{every, first_failed}
use Rattle.foundation.specs.Refusals.{outcome}
use Rattle.foundation.specs.declared.refusal.Refusal.{Refusal}
use Rattle.codes.specs.SlotWord.{slot_number}
use Rattle.bursts.specs.Bursts.{kind_of, known, burst_slot, burst_field, colour_of, type_of, written_burst, burst_part_tests}
use Rattle.bursts.specs.declared.burst.Sync.{Sync}
use Rattle.datagrams.specs.declared.Datagram.{Datagram}
use Rattle.datagrams.specs.declared.Labels.{Labels}

-- DMRD
abbrev pub prefix : List ℕ
prefix = 0x44 ∷ 0x4D ∷ 0x52 ∷ 0x44 ∷ []

-- the sequence counter goes from 255 to 0
unfoldable pub next_sequence : ℕ → ℕ
next_sequence n = (n + 1) % 256

-- ---- reading

-- frame type and data type in octet 15
abbrev pub frame_of : List ℕ → ℕ
frame_of d = slice_index d 15 / 16 % 4

abbrev pub named_type : List ℕ → ℕ
named_type d = slice_index d 15 % 16

abbrev pub burst_of : List ℕ → List ℕ
burst_of d = drop 20 d

-- the first four octets are the letters
unfoldable pub prefixed : List ℕ → Bool
prefixed d = every 4 (λ i. nat_eq (slice_index d i) (slice_index prefix i))

-- the order of checks: size, prefix, frame type, slot type, data type, and the block field's
unfoldable pub datagram_number : List ℕ → ℕ
datagram_number d =
    first_failed (((length d == 53), 1) ∷ (prefixed d, 2) ∷ ((frame_of d == 2), 3) ∷ ((slot_number (burst_slot (burst_of d)) == 0), 4)
    ∷ ((named_type d == type_of (burst_of d)), 5) ∷ (known (kind_of (named_type d)), 5)
    ∷ (((burst_field (burst_of d)).number == 0), (burst_field (burst_of d)).number) ∷ [])

-- what stands before the burst, but for the data type
unfoldable pub labels_of : List ℕ → Labels
labels_of d = record {
  sequence = slice_index d 4;
  source = address_at d 5;
  target = address_at d 8;
  repeater = record { 0 = number_at d 11 };
  timeslot = slice_index d 15 / 128;
  call = slice_index d 15 / 64 % 2;
  stream = number_at d 16;
}

unfoldable pub no_labels : Labels
no_labels =
    record { sequence = 0; source = record { 0 = 0 }; target = record { 0 = 0 }; repeater = record { 0 = 0 }; timeslot = 0; call = 0; stream = 0 }

-- what is read; zeros beside the number of a refusal
pub record DatagramRead : Type 0 where
  pub number : ℕ
  pub labels : Labels
  pub colour : ℕ
  pub datatype : ℕ
  pub info : List ℕ

unfoldable pub refused_datagram : ℕ → DatagramRead
refused_datagram n = record { number = n; labels = no_labels; colour = 0; datatype = 0; info = replicate 12 0 }

unfoldable pub read_datagram : List ℕ → DatagramRead
read_datagram d =
    cond (datagram_number d == 0)
    (record { number = 0; labels = labels_of d; colour = colour_of (burst_of d); datatype = named_type d; info = (burst_field (burst_of d)).info })
    (refused_datagram (datagram_number d))

-- what reading gives: the contents where the number is 0, else the refusal
unfoldable pub datagram_given : DatagramRead → Result Datagram Refusal
datagram_given d = outcome d.number (record { labels = d.labels; colour = d.colour; datatype = d.datatype; info = d.info })

-- ---- writing

-- the 20 octets before the burst: frame type 2
unfoldable pub label_octets : Labels → ℕ → List ℕ
label_octets l type =
    prefix ++ l.sequence ∷ three_octets l.source.0 ++ three_octets l.target.0 ++ four_octets l.repeater.0
    ++ (128 * l.timeslot + 64 * l.call + 32 + type) ∷ four_octets l.stream

-- one data type for both places
unfoldable pub written_datagram : Labels → ℕ → ℕ → List ℕ → Sync → List ℕ
written_datagram l colour type info sync = label_octets l type ++ written_burst colour type info sync

-- each field within its width
unfoldable pub label_tests : Labels → List (Bool × ℕ)
label_tests l =
    (nat_lt l.source.0 (2 ^ 24), 16) ∷ (nat_lt l.target.0 (2 ^ 24), 16) ∷ (nat_lt l.timeslot 2, 16) ∷ (nat_lt l.call 2, 16) ∷ []

unfoldable pub write_number : Labels → ℕ → ℕ → ℕ
write_number l colour type = first_failed (label_tests l ++ burst_part_tests colour type)

-- what the writer answers; zeros beside the number of a refusal
pub record DatagramOctets : Type 0 where
  pub number : ℕ
  pub octets : List ℕ

unfoldable pub write_datagram : Labels → ℕ → ℕ → List ℕ → Sync → DatagramOctets
write_datagram l colour type info sync = record {
  number = write_number l colour type;
  octets = cond (write_number l colour type == 0) (written_datagram l colour type info sync) (replicate 53 0);
}

-- what the writer gives: the octets where the number is 0, else the refusal
unfoldable pub datagram_octets_given : DatagramOctets → Result (List ℕ) Refusal
datagram_octets_given w = outcome w.number w.octets
