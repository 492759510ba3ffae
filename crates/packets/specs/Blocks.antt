-- A block: serial (7), check (9), 10 data octets.
-- Assumes nothing.
use Rattle.std.specs.Prelude.{Bool, cond, Result, List, [], ◌∷◌, ℕ, ◌+◌, ◌*◌, ◌/◌, ◌%◌, eqb, ltb, length, get_or, drop, replicate}
use Rattle.foundation.specs.Order.{first_failed}
use Rattle.foundation.specs.Refusals.{outcome}
use Rattle.foundation.specs.declared.refusal.Refusal.{Refusal}
use Rattle.checks.specs.Checks.{block_check, block_good}
use Rattle.packets.specs.declared.block.Block.{Block}

-- what is read: a number, 0 for none, with serial and data octets
pub record BlockRead : Type 0 where
  pub number : ℕ
  pub serial : ℕ
  pub octets : List ℕ

-- what is written: a number, 0 for none, with the octets
pub record BlockOctets : Type 0 where
  pub number : ℕ
  pub octets : List ℕ

-- the order of checks: size, check
unfoldable pub block_tests : List ℕ → List (Bool × ℕ)
block_tests b = (eqb (length b) 12, 1) ∷ (block_good b, 13) ∷ []

unfoldable pub block_number : List ℕ → ℕ
block_number b = first_failed (block_tests b)

-- zeros beside the number of a refusal
abbrev pub refused_block : ℕ → BlockRead
refused_block n = record { number = n; serial = 0; octets = replicate 10 0 }

-- serial and data
unfoldable pub read_block : List ℕ → BlockRead
read_block b =
    cond (eqb (block_number b) 0) (record { number = 0; serial = get_or b 0 0 / 2; octets = drop 2 b }) (refused_block (block_number b))

-- what the reader gives
unfoldable pub block_given : BlockRead → Result Block Refusal
block_given b = outcome b.number (record { serial = b.serial; octets = b.octets })

unfoldable pub written_block : ℕ → List ℕ → List ℕ
written_block serial os = (2 * serial + block_check serial os / 256) ∷ block_check serial os % 256 ∷ os

-- what the writer tests: size, width of the serial
unfoldable pub block_writer_tests : ℕ → List ℕ → List (Bool × ℕ)
block_writer_tests serial os = (eqb (length os) 10, 1) ∷ (ltb serial 128, 16) ∷ []

unfoldable pub write_block : ℕ → List ℕ → BlockOctets
write_block serial os = record {
  number = first_failed (block_writer_tests serial os);
  octets = cond (eqb (first_failed (block_writer_tests serial os)) 0) (written_block serial os) (replicate 12 0);
}

-- what the writer gives
unfoldable pub block_octets_given : BlockOctets → Result (List ℕ) Refusal
block_octets_given w = outcome w.number w.octets
