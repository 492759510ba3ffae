-- The worked examples hold, computed.
-- Assumes nothing.
use mathlib.Core.Path.{refl, ap₂}
use mathlib.Core.List.{List}
use Prim.Native.Nat.{ℕ}
use lib.ListN.{take, drop}
use Rattle.foundation.specs.Bits.{followed, octet_bit, value_of, octets}
use Rattle.codes.proofs.Examples.{examples as codes, slot_word_00, slot_word_16}
use Rattle.bursts.specs.Bursts.{kind_of, sync_word, burst_bits, written_burst}
use Rattle.bursts.specs.Examples.{BurstExamples}
use Rattle.bursts.specs.declared.burst.Sync.TheVariants.{Base, Mobile}

pub examples : BurstExamples
unfolding followed octet_bit value_of octets kind_of sync_word burst_bits written_burst
examples = record {
  header = refl;
  block = refl;
  base = ap₂ (λ (f : List ℕ) (s : ℕ). octets 33 (burst_bits f s (sync_word Base))) codes.idle slot_word_00;
  mobile = ap₂ (λ (f : List ℕ) (s : ℕ). take 7 (drop 13 (octets 33 (burst_bits f s (sync_word Mobile))))) codes.idle slot_word_16;
}
