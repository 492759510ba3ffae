-- `transactions::response::sack_flags` meets its contract.
-- Assumes nothing.
use native.Mathlib.Omega.{arith}
use Rattle.foundation.proofs.Runs.{tabulated}
use Rattle.transactions.specs.Answers.{sack_flags}
use Rattle.transactions.specs.Flags.{flag_octet_count, flag_octets}
use Rattle.transactions.proofs.response.sack_flags.Goals as goal

pub returns : goal.returns
unfolding sack_flags flag_octets
returns c =
    let l = c.loop-j in
    tabulated flag_octet_count _ l.octets l.invariant.whole (λ i h. l.invariant.done i (omega arith))
