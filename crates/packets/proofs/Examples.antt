-- The worked examples hold: the checks by those of the checks, all else computed.
-- Assumes nothing.
use mathlib.Core.Path.{refl, ap}
use mathlib.Core.List.{[], ◌∷◌, ◌++◌}
use Prim.Native.Nat.{ℕ, suc, ◌+◌, ◌/◌, ◌%◌}
use Rattle.foundation.specs.Bits.{tabulate}
use Rattle.checks.specs.Examples.{some_header}
use Rattle.checks.proofs.Examples.{examples as checks}
use Rattle.packets.specs.Headers.{header_body, with_check, written_header}
use Rattle.packets.specs.Blocks.{written_block}
use Rattle.packets.specs.Examples.{PacketsExamples}

pub examples : PacketsExamples
unfolding header_body with_check written_header written_block
examples = record {
  confirmed = ap (λ (c : ℕ). some_header ++ (c / 256 ∷ c % 256 ∷ [])) checks.header_data;
  response = refl;
  unconfirmed = refl;
  block = ap (λ (c : ℕ). (10 + c / 256) ∷ c % 256 ∷ tabulate 10 suc) checks.block_data_lem;
}
