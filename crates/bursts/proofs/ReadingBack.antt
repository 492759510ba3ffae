-- What is written reads back: slot type and block field of a burst are those it was written with. So does a burst with wrong bits in both
-- that the codes put right.
-- Assumes nothing.
use mathlib.Core.Path.{◌≡◌, sym, ap, ap₂, subst, ◌∙◌}
use mathlib.Core.Bool.{true}
use mathlib.Core.List.{List}
use Prim.Native.Nat.{ℕ, ◌+◌, ◌*◌, ◌-◌, ◌/◌, ◌%◌, ◌^◌, ◌≤◌, ◌<◌}
use native.Mathlib.Decide.{dec_lt}
use native.Mathlib.Omega.{arith}
use lib.Bits.{xor_self}
use lib.Count.{ones}
use lib.Dec.{lit≤}
use lib.ListN.{get_or, length}
use Rattle.foundation.specs.Bits.{digits, octet_bit, zeros, followed, value_of, octets}
use Rattle.foundation.proofs.Runs.{octet_bit-octets, octets_ext, followed_bits, followed-first, followed_rest, zeros_bits, value_one, value_append, value_whole}
use Rattle.codes.specs.SlotWord.{slot_word, distance}
use Rattle.codes.specs.Field.{plain_at, information, product, plain, sent_bits, sent, written_field, read_field, Correctable}
use Rattle.codes.proofs.SlotWords.{slot_word-lt}
use Rattle.codes.proofs.FieldReading.{information_bits, plain_bits, corrects-field, field_back}
use Rattle.codes.proofs.Product.{product_bits}
use Rattle.bursts.specs.Bursts.{BurstRead, kind_of, known, slot_bits, field_of, read_burst, sync_word, burst_bits, written_burst}
use Rattle.bursts.specs.BurstClaims.{BurstComesBack}
use Rattle.bursts.specs.Parts.{field_run}
use Rattle.bursts.specs.declared.burst.Sync.{Sync}
use Rattle.foundation.proofs.RunParts.{value_octets, octet_bit_past, length-octets}
use Rattle.bursts.proofs.DataTypes.{known-lt}
use Rattle.bursts.proofs.Reading.{slot_halves, field-behind}
use Rattle.bursts.proofs.Writing.{burst_bits_lem, in_field, in_slot, in_slot_end, in_field_end}
use Rattle.bursts.proofs.Numbers.{field-read, near_slot, contents_read}

pub field-length : (b : List ℕ) → length (field_of b) ≡ 25
unfolding field_of
field-length b = length-octets 25 (field_run b)

-- a burst with the block field f, the slot type w and the sync s
module _ (f : List ℕ) (w s : ℕ) where
  b : List ℕ
  b = octets 33 (burst_bits f w s)

  burst-number : (at n : ℕ) → at + n ≤ 264 → value_of (octet_bit b) at n ≡ value_of (burst_bits f w s) at n
  unfolding b
  burst-number at n h = value_octets 33 (burst_bits f w s) (burst_bits_lem f w s) at n h

  pub slot_back : w < 2 ^ 20 → slot_bits (octets 33 (burst_bits f w s)) ≡ w
  unfolding b
  slot_back h =
      slot_halves b
      ∙ ap₂ (λ (x y : ℕ). x * 1024 + y) (burst-number 98 10 (lit≤ tt) ∙ in_slot f w s 98 10 (lit≤ tt) (lit≤ tt))
      (burst-number 156 10 (lit≤ tt) ∙ in_slot_end f w s 156 10 (lit≤ tt) (lit≤ tt))
      ∙ sym (value_append (digits 20 w) 0 10 10) ∙ value_whole 20 w h

  -- bit i of the block field
  field-bit : (i : ℕ) → i < 196 → field_run b i ≡ octet_bit f i
  field-bit i h = go (dec_lt i 98)
    where
      go : Dec (i < 98) → field_run b i ≡ octet_bit f i
      go (yes l) =
          followed-first 98 (octet_bit b) (λ p. octet_bit b (166 + p)) i l ∙ sym (value_one (octet_bit b) i) ∙ burst-number i 1 (omega arith)
          ∙ in_field f w s i 1 (omega arith) ∙ value_one (octet_bit f) i
      go (no l) =
          sym (value_one (field_run b) i) ∙ field-behind b i 1 (omega arith) ∙ burst-number (i + 68) 1 (omega arith)
          ∙ in_field_end f w s (i + 68) 1 (omega arith) ∙ value_one (octet_bit f) (i + 68 - 68) ∙ ap (octet_bit f) place
        where
          place : i + 68 - 68 ≡ i
          place = omega arith

  -- the last four of the field's 200 bits lie past the end of the burst
  field_rest : (i : ℕ) → 196 ≤ i → field_run b i ≡ 0
  unfolding b
  field_rest i h =
      followed_rest 98 (octet_bit b) (λ p. octet_bit b (166 + p)) i (omega arith)
      ∙ octet_bit_past b (166 + (i - 98)) (omega (arith, length-octets 33 (burst_bits f w s)))

  field-same : (u : ℕ → ℕ) → ((i : ℕ) → i < 196 → octet_bit f i ≡ u i) → field_of (octets 33 (burst_bits f w s)) ≡ octets 25 (followed 196 u zeros)
  unfolding field_of b
  field-same u same = octets_ext 25 (field_run b) (followed 196 u zeros) (λ i h. go i (dec_lt i 196))
    where
      go : (i : ℕ) → Dec (i < 196) → field_run b i ≡ followed 196 u zeros i
      go i (yes l) = field-bit i l ∙ same i l ∙ sym (followed-first 196 u zeros i l)
      go i (no l) = let g : 196 ≤ i = omega arith in field_rest i g ∙ sym (followed_rest 196 u zeros i g)

-- the bits of the block field for 12 octets
written-bit : (info : List ℕ) (i : ℕ) → i < 196 → octet_bit (written_field info) i ≡ plain (product (information info)) (plain_at i)
unfolding written_field sent
written-bit info i h =
    octet_bit-octets 25 (sent_bits (plain m)) (followed_bits 196 u zeros (λ p. plain_bits m (product_bits (information info) (information_bits info)) (plain_at p)) zeros_bits) i (omega arith)
    ∙ followed-first 196 u zeros i h
  where
    m : ℕ → ℕ → ℕ
    m = product (information info)

    u : ℕ → ℕ
    u p = plain m (plain_at p)

module _ (colour type : ℕ) (info : List ℕ) (sync : Sync) where
  pub written-length : length (written_burst colour type info sync) ≡ 33
  unfolding written_burst
  written-length = length-octets 33 (burst_bits (written_field info) (slot_word (16 * colour + type)) (sync_word sync))

  pub written-slot : colour < 16 → type < 16 → slot_bits (written_burst colour type info sync) ≡ slot_word (16 * colour + type)
  unfolding written_burst
  written-slot h l = slot_back (written_field info) (slot_word (16 * colour + type)) (sync_word sync) (slot_word-lt (16 * colour + type) (omega arith))

  pub written-field : field_of (written_burst colour type info sync) ≡ written_field info
  unfolding written_burst written_field sent
  written-field =
      field-same (written_field info) (slot_word (16 * colour + type)) (sync_word sync) (λ p. plain (product (information info)) (plain_at p)) (written-bit info)

-- ---- what is read from it, also with wrong bits

module _ (colour type : ℕ) (info : List ℕ) (small : colour < 16) (kind : known (kind_of type) ≡ true) where
  made : ℕ → ℕ → List ℕ → BurstRead
  made c t os = record { number = 0; colour = c; datatype = t; info = os }

  reads : (b : List ℕ) → length b ≡ 33 → distance (slot_bits b) (slot_word (16 * colour + type)) ≤ 3
      → read_field (field_of b) ≡ record { number = 0; info = info } → read_burst b ≡ record { number = 0; colour = colour; datatype = type; info = info }
  unfolding made
  reads b h near field =
      let d : ℕ = 16 * colour + type in
      let is = sym (field-read b h) ∙ field in
      sym (contents_read b d h (near_slot b d h (omega (arith, low), near)) (subst (λ (t : ℕ). known (kind_of t) ≡ true) (sym rest) kind) (ap (λ x. x.number) is))
      ∙ ap (made (d / 16) (d % 16)) (ap (λ x. x.info) is) ∙ ap₂ (λ (c t : ℕ). made c t info) quotient rest
    where
      low : type < 16
      low = known-lt type kind

      quotient : (16 * colour + type) / 16 ≡ colour
      quotient = omega (arith, low)

      rest : (16 * colour + type) % 16 ≡ type
      rest = omega (arith, low)

corrects : (colour type : ℕ) (info b : List ℕ) → colour < 16 → known (kind_of type) ≡ true → length info ≡ 12
    → ((j : ℕ) → get_or info j 0 < 256)
    → length b ≡ 33 → distance (slot_bits b) (slot_word (16 * colour + type)) ≤ 3 → Correctable (written_field info) (field_of b)
    → read_burst b ≡ record { number = 0; colour = colour; datatype = type; info = info }
corrects colour type info b small kind size octet h near few =
    reads colour type info small kind b h near (corrects-field info (field_of b) size octet (field-length b) few)

pub comes_back : (colour type : ℕ) (info : List ℕ) (sync : Sync) → colour < 16 → known (kind_of type) ≡ true → length info ≡ 12
    → ((j : ℕ) → get_or info j 0 < 256) → BurstComesBack colour type info (written_burst colour type info sync)
comes_back colour type info sync small kind size octet b h near few =
    corrects colour type info b small kind size octet h
    (subst (λ (w : ℕ). distance (slot_bits b) w ≤ 3) (written-slot colour type info sync small (known-lt type kind)) near)
    (subst (λ (f : List ℕ). Correctable f (field_of b)) (written-field colour type info sync) few)

pub distance_self : (w : ℕ) → distance w w ≡ 0
unfolding distance ones
distance_self w = ap ones (xor_self w)

pub reads_back : (colour type : ℕ) (info : List ℕ) (sync : Sync) → colour < 16 → known (kind_of type) ≡ true → length info ≡ 12
    → ((j : ℕ) → get_or info j 0 < 256)
    → read_burst (written_burst colour type info sync) ≡ record { number = 0; colour = colour; datatype = type; info = info }
reads_back colour type info sync small kind size octet =
    reads colour type info small kind (written_burst colour type info sync) (written-length colour type info sync)
    (rw (written-slot colour type info sync small (known-lt type kind), distance_self) (omega arith))
    (ap read_field (written-field colour type info sync) ∙ field_back info size octet)
