-- The octets before a burst: no example of document 01 that is marked P depends on the prefix, the frame type and the places of the labels.
-- Assumes nothing.
use Rattle.std.specs.Prelude.{◌≡◌, [], ◌∷◌}
use Rattle.datagrams.specs.Datagrams.{label_octets}
use Rattle.datagrams.specs.declared.Labels.{Labels}

abbrev pub some_labels : Labels
some_labels = record {
  sequence = 255;
  source = record { 0 = 0x1A0B0C };
  target = record { 0 = 0x002104 };
  repeater = record { 0 = 0x01020304 };
  timeslot = 1;
  call = 0;
  stream = 0xCAFE0001;
}

pub record DatagramExamples : Type 0 where
  -- data type 6
  pub labels : label_octets some_labels 6 ≡ 0x44 ∷ 0x4D ∷ 0x52 ∷ 0x44 ∷ 0xFF ∷ 0x1A ∷ 0x0B ∷ 0x0C ∷ 0x00 ∷ 0x21 ∷ 0x04 ∷ 0x01 ∷ 0x02 ∷ 0x03 ∷ 0x04 ∷ 0xA6 ∷ 0xCA ∷ 0xFE ∷ 0x00 ∷ 0x01 ∷ []
