-- `codes::slot_type::distance_to` meets its contract.
-- Assumes nothing.
use mathlib.Core.Path.{ap}
use Prim.Native.Nat.{ℕ}
use lib.Bits.{bit_xor}
use lib.Count.{ones}
use Rattle.codes.specs.SlotWord.{distance}
use Rattle.codes.proofs.slot_type.distance_to.Goals as goal

pub returns : goal.returns
unfolding distance
returns c = ap (λ (n : ℕ). ones (bit_xor c.args.word n)) c.write.ensures.0
