-- `transactions::flags::Flags::none_from` meets its contract.
-- Assumes nothing.
use mathlib.Core.Path.{◌∙◌}
use Rattle.transactions.specs.Flags.{flag_count}
use Rattle.transactions.proofs.FlagWords.{none_from}
use Rattle.transactions.proofs.flags.Flags.none_from.Goals as goal

pub returns : goal.returns
returns c = let a = c.args in c.every_between.ensures ∙ none_from a.self.octets flag_count a.n
