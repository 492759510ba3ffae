-- The claims of bursts hold.
-- Assumes nothing.
use mathlib.Core.Path.{sym}
use Rattle.bursts.specs.BurstClaims.{BurstClaims}
use Rattle.bursts.proofs.Numbers.{write_good}
use Rattle.bursts.proofs.ReadingBack.{written-slot, written-field, reads_back, comes_back}
use Rattle.bursts.proofs.Rows.{numbers, sixteen}

pub bursts : BurstClaims
bursts = record {
  reads_back = reads_back;
  slot = written-slot;
  field = written-field;
  comes_back = comes_back;
  numbers = numbers;
  writes = λ colour type info sync small kind. sym (write_good colour type info sync small kind);
  sixteen = sixteen;
}
