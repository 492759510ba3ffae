-- What a reader of document 01 wants of blocks.
-- Assumes nothing.
use Rattle.std.specs.Prelude.{◌≡◌, true, false, List, ◌↔◌, ◌≢◌, ℕ, ◌/◌, ◌≤◌, ◌<◌, length, get_or, drop, replicate}
use Rattle.checks.specs.Checks.{block_good}
use Rattle.packets.specs.Blocks.{BlockOctets, read_block, written_block, write_block}

-- an answer of the writer without a number reads back as this serial and these data octets
abbrev pub BlockReadsBack : ℕ → List ℕ → BlockOctets → Type 0
BlockReadsBack serial os r = r.number ≡ 0 → read_block r.octets ≡ record { number = 0; serial = serial; octets = os }

pub record BlockClaims : Type 0 where
  -- a serial below 128 and ten data octets are written
  pub written : (serial : ℕ) (os : List ℕ) → serial < 128 → length os ≡ 10 → write_block serial os ≡ record { number = 0; octets = written_block serial os }
  -- and what is written reads back
  pub reads_back : (serial : ℕ) (os : List ℕ) → BlockReadsBack serial os (write_block serial os)
  -- data of another size is refused with 1, else a wider serial with 16
  pub data_size : (serial : ℕ) (os : List ℕ) → length os ≢ 10 → write_block serial os ≡ record { number = 1; octets = replicate 12 0 }
  pub too_wide : (serial : ℕ) (os : List ℕ) → length os ≡ 10 → 128 ≤ serial → write_block serial os ≡ record { number = 16; octets = replicate 12 0 }
  -- reading gives 1 exactly if the size is not 12
  pub size : (b : List ℕ) → (length b ≢ 12) ↔ ((read_block b).number ≡ 1)
  -- else 13 exactly if the check fails
  pub check : (b : List ℕ) → length b ≡ 12 → (block_good b ≡ false) ↔ ((read_block b).number ≡ 13)
  -- else serial and data
  pub fields : (b : List ℕ) → length b ≡ 12 → block_good b ≡ true → read_block b ≡ record { number = 0; serial = get_or b 0 0 / 2; octets = drop 2 b }
