-- The numbers of slot types, block fields, bursts and datagrams are those of refusals.
-- Assumes nothing.
use mathlib.Core.Path.{refl}
use mathlib.Core.Bool.{Bool, true, false, cond}
use mathlib.Core.List.{List}
use Prim.Native.Nat.{ℕ, ◌<◌}
use native.Mathlib.Omega.{arith}
use lib.Dec.{eqb, lit<, ltb}
use lib.ListN.{length}
use Rattle.foundation.specs.Order.{first_failed}
use Rattle.codes.specs.SlotWord.{SlotType as Slot, Data, NoCodeword, TooWide, slot_number}
use Rattle.codes.specs.Field.{corrected_field, rows_good, columns_good, reserved_clear, matrix_tests, field_number, read_field}
use Rattle.bursts.specs.Bursts.{kind_of, known, read_burst, burst_part_tests, write_burst}
use Rattle.bursts.specs.BurstClaims.{BurstRow, burst-size, slot_type_lem, data_type, field-good, field_code, field-reserved}
use Rattle.bursts.specs.declared.burst.Sync.{Sync}
use Rattle.bursts.proofs.BurstClaims.{bursts}
use Rattle.datagrams.specs.Datagrams.{read_datagram, write_datagram}
use Rattle.datagrams.specs.DatagramParts.{labels_fit}
use Rattle.datagrams.specs.declared.Labels.{Labels}
use Rattle.datagrams.proofs.DatagramClaims.{datagrams}
use Rattle.datagrams.proofs.DatagramWriting.{number-written}

pub slot_few : (s : Slot) → slot_number s < 20
unfolding slot_number
slot_few (Data d) = lit< tt
slot_few NoCodeword = lit< tt
slot_few TooWide = lit< tt

pub field_few : (f : List ℕ) → (read_field f).number < 20
unfolding read_field field_number first_failed matrix_tests
field_few f = go (eqb (length f) 25) (rows_good m) (columns_good m) (reserved_clear m)
  where
    m : ℕ → ℕ → ℕ
    m = corrected_field f

    go : (a b c d : Bool) → cond a (cond b (cond c (cond d 0 7) 6) 6) 1 < 20
    go true true true true = lit< tt
    go true true true false = lit< tt
    go true true false d = lit< tt
    go true false c d = lit< tt
    go false b c d = lit< tt

pub burst_few : (b : List ℕ) → (read_burst b).number < 20
burst_few b = go (read_burst b).number ((bursts.numbers b (read_burst b).number).0 refl)
  where
    go : (n : ℕ) → BurstRow b n → n < 20
    go _ (burst-size h) = lit< tt
    go _ (slot_type_lem h) = lit< tt
    go _ (data_type h) = lit< tt
    go _ (field-good h) = lit< tt
    go _ (field_code h) = lit< tt
    go _ (field-reserved h) = lit< tt

pub datagram_few : (d : List ℕ) → (read_datagram d).number < 20
datagram_few d = omega (arith, datagrams.no_other d)

parts_few : (colour type : ℕ) → first_failed (burst_part_tests colour type) < 20
unfolding burst_part_tests first_failed
parts_few colour type = go (ltb colour 16) (known (kind_of type))
  where
    go : (a b : Bool) → cond a (cond b 0 16) 16 < 20
    go true true = lit< tt
    go true false = lit< tt
    go false b = lit< tt

pub burst_written_few : (colour type : ℕ) (info : List ℕ) (sync : Sync) → (write_burst colour type info sync).number < 20
unfolding write_burst
burst_written_few colour type info sync = parts_few colour type

pub datagram_written_few : (l : Labels) (colour type : ℕ) (info : List ℕ) (sync : Sync) → (write_datagram l colour type info sync).number < 20
unfolding write_datagram
datagram_written_few l colour type info sync = rw (number-written l colour type) (go (labels_fit l))
  where
    go : (b : Bool) → cond b (first_failed (burst_part_tests colour type)) 16 < 20
    go true = parts_few colour type
    go false = lit< tt
