-- What is written reads back: labels, colour code, data type and information. So does a datagram with wrong bits in its burst that the
-- codes put right.
-- Assumes nothing.
use Rattle.std.proofs.Common.{◌≡◌, ℕ, ◌+◌, ◌*◌, ◌/◌, ◌%◌, ◌<◌, ◌≤◌, true, List, length, get_or, take, sym, refl, ap, ◌∙◌, subst, ap₂, arith, lit<, length-append, length-drop, get_or-take, take_at, drop_at}
use Rattle.addresses.proofs.OctetsBack.{three_back, four_back}
use Rattle.codes.specs.SlotWord.{slot_word, distance}
use Rattle.codes.specs.Field.{written_field, read_field, Correctable}
use Rattle.foundation.proofs.Tests.{all-eq}
use Rattle.codes.proofs.FieldReading.{corrects-field, field_back}
use Rattle.bursts.specs.Bursts.{kind_of, known, slot_bits, field_of, written_burst}
use Rattle.datagrams.specs.Datagrams.{DatagramRead, prefix, prefixed, frame_of, named_type, burst_of, labels_of, read_datagram, label_octets, written_datagram}
use Rattle.datagrams.specs.DatagramClaims.{Fits, DatagramComesBack}
use Rattle.bursts.specs.declared.burst.Sync.{Sync}
use Rattle.datagrams.specs.declared.Labels.{Labels}
use Rattle.bursts.proofs.DataTypes.{known-lt}
use Rattle.bursts.proofs.Numbers.{field-read, near_slot}
use Rattle.bursts.proofs.ReadingBack.{field-length, written-length, written-slot, written-field, distance_self}
use Rattle.datagrams.proofs.DatagramNumbers.{letters-same, contents_read}

-- labels are equal by their numbers
labels-same : (l : Labels) (sequence source target repeater timeslot call stream : ℕ) → sequence ≡ l.sequence → source ≡ l.source.0
    → target ≡ l.target.0 → repeater ≡ l.repeater.0 → timeslot ≡ l.timeslot → call ≡ l.call → stream ≡ l.stream
    → record {
      sequence = sequence;
      source = record { 0 = source };
      target = record { 0 = target };
      repeater = record { 0 = repeater };
      timeslot = timeslot;
      call = call;
      stream = stream;
    } ≡ l
labels-same l sequence source target repeater timeslot call stream q s t r x y m = rw (q, s, t, r, x, y, m)

pub labels_length : (l : Labels) (type : ℕ) → length (label_octets l type) ≡ 20
unfolding label_octets
labels_length l type = refl

-- the 20 octets before the burst of d are those of l and a data type of four bits
module _ (l : Labels) (type : ℕ) (d : List ℕ) (low : type < 16) (same : take 20 d ≡ label_octets l type) where
  octet : (i : ℕ) → i < 20 → get_or d i 0 ≡ get_or (label_octets l type) i 0
  octet i h = sym (get_or-take 20 d i 0 h) ∙ ap (λ (os : List ℕ). get_or os i 0) same

  pub letters_back : prefixed d ≡ true
  unfolding label_octets
  letters_back = letters-same d (λ i h. octet i (omega arith) ∙ all-eq 4 (λ i. get_or (label_octets l type) i 0) (λ i. get_or prefix i 0) tt i h)

  module _ (fits : Fits l) where
    octet_15 : get_or d 15 0 ≡ 128 * l.timeslot + 64 * l.call + 32 + type
    unfolding label_octets
    octet_15 = octet 15 (lit< tt)

    pub frame_back : frame_of d ≡ 2
    frame_back = omega (arith, octet_15, fits.timeslot, fits.call)

    pub type_back : named_type d ≡ type
    type_back = omega (arith, octet_15)

    pub labels_back : labels_of d ≡ l
    unfolding labels_of label_octets
    labels_back =
        labels-same l _ _ _ _ _ _ _ (octet 4 (lit< tt))
        (omega (arith, octet 5 (lit< tt), octet 6 (lit< tt), octet 7 (lit< tt), three_back l.source.0 fits.source))
        (omega (arith, octet 8 (lit< tt), octet 9 (lit< tt), octet 10 (lit< tt), three_back l.target.0 fits.target))
        (omega (arith, octet 11 (lit< tt), octet 12 (lit< tt), octet 13 (lit< tt), octet 14 (lit< tt), four_back l.repeater.0 fits.repeater))
        (omega (arith, octet_15, fits.timeslot, fits.call)) (omega (arith, octet_15, fits.timeslot, fits.call))
        (omega (arith, octet 16 (lit< tt), octet 17 (lit< tt), octet 18 (lit< tt), octet 19 (lit< tt), four_back l.stream fits.stream))

-- ---- what is read, also with wrong bits

module _ (l : Labels) (colour type : ℕ) (info : List ℕ) (fits : Fits l) (small : colour < 16) (kind : known (kind_of type) ≡ true) where
  made : Labels → ℕ → ℕ → List ℕ → DatagramRead
  made x c t os = record { number = 0; labels = x; colour = c; datatype = t; info = os }

  reads : (d : List ℕ) → length d ≡ 53 → take 20 d ≡ label_octets l type → distance (slot_bits (burst_of d)) (slot_word (16 * colour + type)) ≤ 3
      → read_field (field_of (burst_of d)) ≡ record { number = 0; info = info }
      → read_datagram d ≡ record { number = 0; labels = l; colour = colour; datatype = type; info = info }
  unfolding made
  reads d h same near field =
      let is = sym (field-read (burst_of d) size) ∙ field in
      sym (contents_read d (16 * colour + type)
      (record {
        slotted = record {
          size = h;
          letters = letters_back l type d low same;
          frame = frame_back l type d low same fits;
          slot = near_slot (burst_of d) (16 * colour + type) size (omega (arith, low), near);
        };
        same = type_back l type d low same fits ∙ sym rest;
        kind = subst (λ (t : ℕ). known (kind_of t) ≡ true) (sym (type_back l type d low same fits)) kind;
      })
      (ap (λ x. x.number) is))
      ∙ ap₂ (λ (x : Labels) (os : List ℕ). made x ((16 * colour + type) / 16) ((16 * colour + type) % 16) os) (labels_back l type d low same fits) (ap (λ x. x.info) is)
      ∙ ap₂ (λ (c t : ℕ). made l c t info) quotient rest
    where
      low : type < 16
      low = known-lt type kind

      size : length (burst_of d) ≡ 33
      size = omega (arith, length-drop 20 d)

      quotient : (16 * colour + type) / 16 ≡ colour
      quotient = omega (arith, low)

      rest : (16 * colour + type) % 16 ≡ type
      rest = omega (arith, low)

corrects : (l : Labels) (colour type : ℕ) (info d : List ℕ) → Fits l → colour < 16 → known (kind_of type) ≡ true → length info ≡ 12
    → ((j : ℕ) → get_or info j 0 < 256)
    → length d ≡ 53 → take 20 d ≡ label_octets l type → distance (slot_bits (burst_of d)) (slot_word (16 * colour + type)) ≤ 3
    → Correctable (written_field info) (field_of (burst_of d))
    → read_datagram d ≡ record { number = 0; labels = l; colour = colour; datatype = type; info = info }
corrects l colour type info d fits small kind size octets h same near few =
    reads l colour type info fits small kind d h same near (corrects-field info (field_of (burst_of d)) size octets (field-length (burst_of d)) few)

-- what is written: its first 20 octets, and the burst behind them
module _ (l : Labels) (colour type : ℕ) (info : List ℕ) (sync : Sync) where
  head : List ℕ
  head = label_octets l type

  burst : List ℕ
  burst = written_burst colour type info sync

  written-size : length (written_datagram l colour type info sync) ≡ 53
  unfolding written_datagram head burst
  written-size = omega (arith, length-append head burst, labels_length l type, written-length colour type info sync)

  pub written_head : take 20 (written_datagram l colour type info sync) ≡ label_octets l type
  unfolding written_datagram head burst
  written_head = take_at head burst 20 (labels_length l type)

  pub written-burst : burst_of (written_datagram l colour type info sync) ≡ written_burst colour type info sync
  unfolding written_datagram head burst
  written-burst = drop_at head burst 20 (labels_length l type)

  module _ (fits : Fits l) (small : colour < 16) (kind : known (kind_of type) ≡ true) (size : length info ≡ 12)
      (octets : (j : ℕ) → get_or info j 0 < 256) where
    slot : slot_bits (burst_of (written_datagram l colour type info sync)) ≡ slot_word (16 * colour + type)
    slot = ap slot_bits written-burst ∙ written-slot colour type info sync small (known-lt type kind)

    field : field_of (burst_of (written_datagram l colour type info sync)) ≡ written_field info
    field = ap field_of written-burst ∙ written-field colour type info sync

    pub reads_back : read_datagram (written_datagram l colour type info sync) ≡ record { number = 0; labels = l; colour = colour; datatype = type; info = info }
    reads_back =
        reads l colour type info fits small kind (written_datagram l colour type info sync) written-size written_head (rw (slot, distance_self) (omega arith))
        (ap read_field field ∙ field_back info size octets)

    pub comes_back : DatagramComesBack l colour type info (written_datagram l colour type info sync)
    comes_back d h same near few =
        corrects l colour type info d fits small kind size octets h (same ∙ written_head) (subst (λ (w : ℕ). distance (slot_bits (burst_of d)) w ≤ 3) slot near)
        (subst (λ (f : List ℕ). Correctable f (field_of (burst_of d))) field few)
