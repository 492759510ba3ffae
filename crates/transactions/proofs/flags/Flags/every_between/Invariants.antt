-- `transactions::flags::Flags::every_between` meets its contract.
-- Assumes nothing.
-- every block of word j is as wanted
use mathlib.Core.Path.{◌≡◌}
use mathlib.Core.Bool.{Bool, true}
use mathlib.Core.List.{List}
use Prim.Native.Nat.{ℕ, ◌+◌, ◌*◌}
use Rattle.foundation.specs.Order.{every}
use Rattle.transactions.specs.Parts.{as_wanted}
use Rattle.transactions.proofs.flags.Flags.every_between.Given as goal

abbrev pub word-wanted : List ℕ → ℕ → ℕ → Bool → ℕ → Bool
word-wanted flags from to wanted j = every 64 (λ i. as_wanted flags from to wanted (64 * j + i))

abbrev pub invariant-loop-j : goal.invariant-loop-j
invariant-loop-j l = every l.j (word-wanted l.self.octets l.from l.to l.wanted) ≡ true
