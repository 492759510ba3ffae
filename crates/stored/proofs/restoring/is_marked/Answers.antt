-- `stored::restoring::is_marked` meets its contract.
-- Assumes nothing.
use mathlib.Core.Path.{◌∙◌}
use native.Mathlib.Omega.{arith}
use borrow.Author.Tests.{ne_eqb}
use Rattle.stored.proofs.Numbers.{not_marked, marked_by}
use Rattle.stored.proofs.restoring.is_marked.Goals as goal

pub returns-then-first-stamp : goal.returns-then-first-stamp
returns-then-first-stamp c =
    marked_by _ _ (λ i. omega (arith, c.type_inv.a i)) (λ i. omega (arith, c.type_inv.b i)) _ _
    c.number_at-first.ensures c.number_at-second.ensures c.if-first-stamp.true

pub returns-else-first-stamp : goal.returns-else-first-stamp
returns-else-first-stamp c =
    ne_eqb _ _ c.if-first-stamp.false
    ∙ not_marked _ _ (λ i. omega (arith, c.type_inv.a i)) (λ i. omega (arith, c.type_inv.b i)) _ _
    c.number_at-first.ensures c.number_at-second.ensures c.if-first-stamp.false
