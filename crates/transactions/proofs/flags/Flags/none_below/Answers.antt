-- `transactions::flags::Flags::none_below` meets its contract.
-- Assumes nothing.
use mathlib.Core.Path.{◌∙◌}
use native.Mathlib.Omega.{arith}
use Rattle.transactions.specs.Flags.{flag_count}
use Rattle.transactions.proofs.FlagOctets.{flagged_far}
use Rattle.transactions.proofs.FlagWords.{none_below}
use Rattle.transactions.proofs.flags.Flags.none_below.Goals as goal

pub returns : goal.returns
returns c =
    let a = c.args in
    c.every_between.ensures ∙ none_below a.self.octets flag_count a.n (λ i l. flagged_far a.self.octets i (omega arith) l)
