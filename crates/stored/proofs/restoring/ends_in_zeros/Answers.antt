-- `stored::restoring::ends_in_zeros` meets its contract.
-- Assumes nothing.
use mathlib.Core.Path.{◌∙◌}
use native.Mathlib.Omega.{arith}
use Rattle.stored.specs.Stored.{zeros_at, zero_part}
use Rattle.stored.proofs.StoreReading.{zeros-same}
use Rattle.stored.proofs.restoring.ends_in_zeros.Goals as goal

pub returns : goal.returns
returns c = c.eq.ensures ∙ zeros-same c.args.b.now zeros_at zero_part (omega arith)
