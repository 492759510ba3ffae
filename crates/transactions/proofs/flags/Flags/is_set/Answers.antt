-- `transactions::flags::Flags::is_set` meets its contract.
-- Assumes nothing.
use mathlib.Core.Path.{refl, sym, ◌∙◌}
use native.Mathlib.Omega.{arith}
use borrow.Author.Tests.{le-ltb}
use Rattle.transactions.specs.Flags.{flag_count, flagged}
use Rattle.transactions.proofs.FlagOctets.{flagged_far}
use Rattle.transactions.proofs.flags.Flags.is_set.Goals as goal

pub returns-then-n-lt-FLAGS : goal.returns-then-n-lt-FLAGS
unfolding flagged
returns-then-n-lt-FLAGS c = refl

pub returns-else-n-lt-FLAGS : goal.returns-else-n-lt-FLAGS
returns-else-n-lt-FLAGS c = let a = c.args in le-ltb a.n flag_count c.if-n-lt-FLAGS.false ∙ sym (flagged_far a.self.octets a.n (omega arith) c.if-n-lt-FLAGS.false)
