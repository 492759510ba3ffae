-- The worked examples hold, computed.
-- Assumes nothing.
use mathlib.Core.Path.{refl, ap}
use mathlib.Core.List.{[], ◌∷◌, ◌++◌}
use Prim.Native.Nat.{ℕ, ◌/◌, ◌%◌}
use lib.ListN.{replicate}
use Rattle.checks.proofs.Examples.{examples as checks}
use Rattle.transactions.specs.Flags.{flagged}
use Rattle.stored.specs.Stored.{with_stored_check, held_octets, head0, body0, body1, stored_form}
use Rattle.stored.specs.Examples.{StoredExamples}

pub examples : StoredExamples
unfolding flagged with_stored_check held_octets head0 body0 body1 stored_form
examples = record {
  start = refl;
  before_check = refl;
  second = refl;
  size = refl;
  mask = ap (λ (c : ℕ). replicate 10 0 ++ (c / 256 ∷ c % 256 ∷ [])) checks.stored;
}
