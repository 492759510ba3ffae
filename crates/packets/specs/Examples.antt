-- Headers and a block as they are written: they depend on the mask of headers, the formats and the places of the fields. The octets were
-- computed apart, from document 01's text.
-- Assumes nothing.
use Rattle.std.specs.Prelude.{◌≡◌, [], ◌∷◌, suc, take}
use Rattle.foundation.specs.Bits.{tabulate}
use Rattle.packets.specs.Headers.{written_header}
use Rattle.packets.specs.Blocks.{written_block}
use Rattle.packets.specs.declared.header.Common.{Common}
use Rattle.packets.specs.declared.header.Header.TheVariants.{Response, Unconfirmed, Confirmed}

-- what the header of a message has
abbrev pub some_common : Common
some_common = record {
  group = 0;
  requested = 1;
  pad = 3;
  sap = 4;
  destination = record { 0 = 0x002104 };
  source = record { 0 = 0x1A0B0C };
  full = 1;
  blocks = 2;
}

-- a group, a pad of five bits, other addresses
abbrev pub other_common : Common
other_common = record {
  group = 1;
  requested = 0;
  pad = 21;
  sap = 9;
  destination = record { 0 = 0x1A0B0C };
  source = record { 0 = 0x002104 };
  full = 1;
  blocks = 7;
}

pub record PacketsExamples : Type 0 where
  -- a whole header, N(S) 5 and FSN 1000
  pub confirmed : written_header (Confirmed some_common 0 5 8) ≡ 0x43 ∷ 0x43 ∷ 0x00 ∷ 0x21 ∷ 0x04 ∷ 0x1A ∷ 0x0B ∷ 0x0C ∷ 0x82 ∷ 0x58 ∷ 0xDD ∷ 0xC0 ∷ []
  -- octets 0 to 9 of the other formats
  pub response : take 10 (written_header (Response other_common 2 0 5)) ≡ 0x91 ∷ 0x95 ∷ 0x1A ∷ 0x0B ∷ 0x0C ∷ 0x00 ∷ 0x21 ∷ 0x04 ∷ 0x87 ∷ 0x85 ∷ []
  pub unconfirmed : take 10 (written_header (Unconfirmed other_common 9)) ≡ 0x92 ∷ 0x95 ∷ 0x1A ∷ 0x0B ∷ 0x0C ∷ 0x00 ∷ 0x21 ∷ 0x04 ∷ 0x87 ∷ 0x09 ∷ []
  -- serial 5 and the octets 1 to 10
  pub block : written_block 5 (tabulate 10 suc) ≡ 0x0A ∷ 0x0E ∷ tabulate 10 suc
