-- `checks::header_words` meets its contract.
-- Assumes nothing.
use Rattle.std.specs.Prelude.{◌≡◌, ◌*◌, ◌-◌, ◌%◌, ◌≤◌, length}
use Rattle.foundation.specs.Bits.{octet_bit}
use Rattle.polynomials.specs.Remainder.{remainder}
use Rattle.folds.specs.Folds.{header_fourth}
use Rattle.checks.proofs.header_words.Given as goal

abbrev pub invariant-loop-i : goal.invariant-loop-i
invariant-loop-i l = (l.i ≤ length l.octets) × ((length l.octets - l.i) % 8 ≡ 0) × (l.w ≡ remainder 64 header_fourth (octet_bit l.octets) (8 * l.i))
