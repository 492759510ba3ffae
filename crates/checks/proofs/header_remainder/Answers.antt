-- `checks::header_remainder` meets its contract.
-- Assumes nothing.
use mathlib.Core.Path.{ap, ◌∙◌}
use Prim.Native.Nat.{ℕ, ◌*◌}
use lib.ListN.{length}
use Rattle.foundation.specs.Bits.{digits}
use Rattle.polynomials.specs.Remainder.{check}
use Rattle.folds.proofs.Octets.{header_so_far}
use Rattle.checks.specs.Checks.{header_generator}
use Rattle.checks.proofs.header_remainder.Goals as goal

pub returns : goal.returns
returns c =
    let os = c.args.octets.now in
    c.check_of.ensures ∙ ap (λ (x : ℕ). check 16 header_generator (digits 64 x) 64) c.header_words.ensures ∙ header_so_far os (8 * length os)
