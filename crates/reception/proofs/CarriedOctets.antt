-- What a datagram carries are octets.
-- Assumes nothing.
use mathlib.Core.List.{List}
use Prim.Native.Nat.{ℕ, zero, suc, ◌+◌, ◌*◌, ◌/◌, ◌%◌, ◌<◌}
use lib.Dec.{eqb}
use Rattle.foundation.specs.Bits.{Bits, value_of, tabulate, octets}
use Rattle.foundation.proofs.Runs.{value_lt}
use Rattle.foundation.proofs.Tests.{either}
use Rattle.codes.specs.Field.{received, columns_corrected, rows_corrected, corrected_field, info_bit, info_octets, field_number, read_field}
use Rattle.codes.proofs.HammingWords.{corrected_bits}
use Rattle.codes.proofs.FieldReading.{received_bits}
use Rattle.bursts.specs.Bursts.{burst_field}
use Rattle.datagrams.specs.Datagrams.{datagram_number, refused_datagram, read_datagram}
use Rattle.packets.proofs.Octets.{Octets, octets_cons, octets-zeros}
use Rattle.reception.specs.Reception.{arrival_of}

tabulate-octets : (n : ℕ) (f : ℕ → ℕ) → ((i : ℕ) → f i < 256) → Octets (tabulate n f)
tabulate-octets zero f h = octets-zeros 0
tabulate-octets (suc n) f h = octets_cons (f 0) (tabulate n (λ k. f (suc k))) (h 0) (tabulate-octets n (λ k. f (suc k)) (λ k. h (suc k)))

corrected-field_bits : (f : List ℕ) (r : ℕ) → Bits (corrected_field f r)
unfolding corrected_field rows_corrected columns_corrected
corrected-field_bits f r =
    corrected_bits 15 (columns_corrected (received f) r) (λ c. corrected_bits 13 (λ i. received f i c) (λ i. received_bits f i c) r)

field-octets : (f : List ℕ) → Octets (read_field f).info
unfolding read_field info_octets octets info_bit
field-octets f =
    either (eqb (field_number f) 0)
    (λ t. rw t (tabulate-octets 12 (λ j. value_of (info_bit (corrected_field f)) (8 * j) 8)
    (λ j. value_lt (info_bit (corrected_field f)) (λ i. corrected-field_bits f ((i + 3) / 11) ((i + 3) % 11)) (8 * j) 8)))
    (λ t. rw t (octets-zeros 12))

pub carried_octets : (d : List ℕ) → Octets (arrival_of d).octets
unfolding arrival_of read_datagram refused_datagram burst_field
carried_octets d = either (eqb (datagram_number d) 0) (λ t. rw t (field-octets _)) (λ t. rw t (octets-zeros 12))
