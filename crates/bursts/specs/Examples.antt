-- A burst with each sync, and the two data types: no example of document 01 that is marked P depends on these.
-- Assumes nothing.
use Rattle.std.specs.Prelude.{◌≡◌, List, [], ◌∷◌, ℕ, take, drop}
use Rattle.codes.specs.Examples.{idle_info}
use Rattle.bursts.specs.Bursts.{kind_of, written_burst}
use Rattle.bursts.specs.declared.burst.Kind.TheVariants.{Header, Block}
use Rattle.bursts.specs.declared.burst.Sync.TheVariants.{Base, Mobile}

-- the idle message as it is published, with zeros for its slot type
abbrev pub idle_burst : List ℕ
idle_burst =
    0x53 ∷ 0xC2 ∷ 0x5E ∷ 0xAB ∷ 0xA8 ∷ 0x67 ∷ 0x1D ∷ 0xC7 ∷ 0x38 ∷ 0x3B ∷ 0xD9 ∷ 0x36 ∷ 0x00 ∷ 0x0D ∷ 0xFF ∷ 0x57 ∷ 0xD7 ∷ 0x5D ∷ 0xF5 ∷ 0xD0 ∷ 0x03 ∷ 0xF6 ∷ 0xE4 ∷ 0x65 ∷ 0x17 ∷ 0x1B ∷ 0x48 ∷ 0xCA ∷ 0x6D ∷ 0x4F ∷ 0xC6 ∷ 0x10 ∷ 0xB4 ∷ []

pub record BurstExamples : Type 0 where
  pub header : kind_of 6 ≡ Header
  pub block : kind_of 7 ≡ Block
  pub base : written_burst 0 0 idle_info Base ≡ idle_burst
  -- the octets that hold the sync, between four bits of the slot type and four more; computed apart, from document 01's text
  pub mobile : take 7 (drop 13 (written_burst 1 6 idle_info Mobile)) ≡ 0x8D ∷ 0x5D ∷ 0x7F ∷ 0x77 ∷ 0xFD ∷ 0x75 ∷ 0x73 ∷ []
