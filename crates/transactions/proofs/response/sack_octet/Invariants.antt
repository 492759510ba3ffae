-- `transactions::response::sack_octet` meets its contract.
-- Assumes nothing.
-- whether a SACK has 1 for block n
use mathlib.Core.Path.{◌≡◌}
use mathlib.Core.Bool.{Bool, cond, true}
use mathlib.Core.List.{List}
use Prim.Native.Nat.{ℕ, ◌*◌}
use lib.Dec.{leb}
use Rattle.transactions.specs.Flags.{flagged, weights}
use Rattle.transactions.proofs.response.sack_octet.Given as goal

abbrev pub is_one : List ℕ → ℕ → ℕ → Bool
is_one flags blocks n = cond (flagged flags n) true (leb blocks n)

abbrev pub invariant-loop-k : goal.invariant-loop-k
invariant-loop-k l = l.octet ≡ weights (is_one l.flags.octets l.blocks) (8 * l.j) l.k
