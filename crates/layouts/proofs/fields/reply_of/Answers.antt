-- `layouts::fields::reply_of` meets its contract.
-- Assumes nothing.
use native.Mathlib.Omega.{arith}
use borrow.Author.Tests.{eq-eqb, ne_eqb}
use Rattle.layouts.specs.Layouts.{reply_of}
use Rattle.layouts.proofs.fields.reply_of.Goals as goal

pub returns-in-0 : goal.returns-in-0
unfolding reply_of
returns-in-0 c = rw (eq-eqb _ 0 c.in-0.is)

pub returns-in-1 : goal.returns-in-1
unfolding reply_of
returns-in-1 c = let n = c.args.reply in rw (ne_eqb n 0 (λ e. omega arith), eq-eqb n 1 c.in-1.is)

pub returns-in_default : goal.returns-in_default
unfolding reply_of
returns-in_default c = let n = c.args.reply in rw (ne_eqb n 0 c.in_default.in_default-own.rest.0.1, ne_eqb n 1 c.in_default.in_default-own.rest.1)
