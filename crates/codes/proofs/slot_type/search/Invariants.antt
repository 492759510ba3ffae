-- `codes::slot_type::search` meets its contract: the loop keeps that the answer is that of the codewords below k.
-- Assumes nothing.
use Rattle.codes.proofs.SlotWords.{parities}
use mathlib.Core.Path.{◌≡◌}
use Rattle.codes.specs.SlotWord.{near_below}
use Rattle.codes.proofs.slot_type.search.Given as goal

abbrev pub invariant-loop-k : goal.invariant-loop-k
invariant-loop-k l = (l.parity ≡ parities) × (near_below 256 l.word ≡ near_below l.k l.word)
