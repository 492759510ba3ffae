-- `transactions::flags::Flags::all_below` meets its contract.
-- Assumes nothing.
use mathlib.Core.Path.{sym, ◌∙◌}
use native.Mathlib.Omega.{arith}
use borrow.Author.Tests.{lt-leb}
use Rattle.transactions.specs.Flags.{flag_count, flagged}
use Rattle.foundation.proofs.Every.{every_fails}
use Rattle.transactions.proofs.FlagOctets.{flagged_far}
use Rattle.transactions.proofs.FlagWords.{all-below}
use Rattle.transactions.proofs.flags.Flags.all_below.Goals as goal

pub returns-then-n-le-FLAGS : goal.returns-then-n-le-FLAGS
returns-then-n-le-FLAGS c = let a = c.args in c.every_between.ensures ∙ all-below a.self.octets flag_count a.n c.if-n-le-FLAGS.true

pub returns-else-n-le-FLAGS : goal.returns-else-n-le-FLAGS
returns-else-n-le-FLAGS c =
    let a = c.args in
    lt-leb a.n flag_count c.if-n-le-FLAGS.false
    ∙ sym (every_fails (flagged a.self.octets) a.n flag_count c.if-n-le-FLAGS.false (flagged_far a.self.octets flag_count (omega arith) (omega arith)))
