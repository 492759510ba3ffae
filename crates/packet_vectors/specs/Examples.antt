-- The worked examples of document 01 that are marked P, and others for the constants on which none of these depends, under one claim.
-- Assumes nothing.
use Rattle.std.specs.Prelude.{◌≡◌, Bool, true, false, ◌∷◌, ℕ, replicate}
use Rattle.codes.specs.Examples.{CodesExamples}
use Rattle.checks.specs.Examples.{CheckExamples}
use Rattle.bursts.specs.Examples.{BurstExamples}
use Rattle.packets.specs.Examples.{PacketsExamples}
use Rattle.datagrams.specs.Examples.{DatagramExamples}
use Rattle.stored.specs.Examples.{StoredExamples}
use Rattle.messages.specs.PacketExamples.{MessageExamples}
use Rattle.transactions.specs.Answers.{sack_flags}
use Rattle.transactions.specs.declared.header.Transaction.{Transaction}

pub record PExamples : Type 0 where
  -- slot types, parities, sent positions, the field's ones; the idle message's field
  pub codes : CodesExamples
  -- the checks: of zeros, of octets that are not zeros, published
  pub checks : CheckExamples
  -- syncs, data types
  pub bursts : BurstExamples
  -- prefix, frame type, labels
  pub datagrams : DatagramExamples
  -- mask, formats, fields, a block
  pub packets : PacketsExamples
  -- sizes, octet 9 of the responses; FSN, a SACK's block count
  pub messages : MessageExamples
  -- places, mask 0
  pub stored : StoredExamples
  -- B = 3, only block 1 missing
  pub flags : (t : Transaction) (held : ℕ → Bool) → t.blocks ≡ 3 → held 0 ≡ true → held 1 ≡ false → held 2 ≡ true
      → sack_flags t held ≡ 0xFD ∷ replicate 7 0xFF
