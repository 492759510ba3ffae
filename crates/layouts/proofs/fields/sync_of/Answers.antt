-- `layouts::fields::sync_of` meets its contract.
-- Assumes nothing.
use borrow.Author.Tests.{eq-eqb, ne_eqb}
use Rattle.layouts.specs.Layouts.{sync_of}
use Rattle.layouts.proofs.fields.sync_of.Goals as goal

pub returns-in-0 : goal.returns-in-0
unfolding sync_of
returns-in-0 c = rw (eq-eqb _ 0 c.in-0.is)

pub returns-in_default : goal.returns-in_default
unfolding sync_of
returns-in_default c = rw (ne_eqb _ 0 c.in_default.in_default-own.rest.1)
