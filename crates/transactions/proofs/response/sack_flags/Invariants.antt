-- `transactions::response::sack_flags` meets its contract. The loop's invariant: j octets are written, and zeros stand behind them.
-- Assumes nothing.
use mathlib.Core.Bool.{cond, true}
use Prim.Native.Nat.{◌*◌}
use lib.Dec.{leb}
use Rattle.foundation.proofs.Filling.{Filled}
use Rattle.transactions.specs.Flags.{flag_octet_count, flagged, weights}
use Rattle.transactions.proofs.response.sack_flags.Given as goal

abbrev pub invariant-loop-j : goal.invariant-loop-j
invariant-loop-j l = Filled flag_octet_count (λ j. weights (λ n. cond (flagged l.flags.octets n) true (leb l.blocks n)) (8 * j) 8) l.j l.octets
