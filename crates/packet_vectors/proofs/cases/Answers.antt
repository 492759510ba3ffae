-- `packet_vectors::cases` meets its contract.
-- Assumes nothing.
use native.Mathlib.Omega.{arith}
use Rattle.packet_vectors.proofs.Examples.{examples}
use Rattle.packet_vectors.proofs.cases.Goals as goal

pub returns : goal.returns
returns g c = (omega (arith, c.cases.ensures, c.cases-2.ensures, c.cases-3.ensures), examples)
