-- `checks::message_pairs` meets its contract.
-- Assumes nothing.
use mathlib.Core.Path.{◌≡◌}
use Prim.Native.Nat.{◌+◌, ◌*◌, ◌%◌}
use Rattle.checks.specs.Parts.{message_so_far}
use Rattle.checks.proofs.message_pairs.Given as goal

abbrev pub invariant-loop-word : goal.invariant-loop-word
invariant-loop-word l = l.r ≡ message_so_far l.octets (l.even % 4 + 4 * l.word-index)
