-- `interleaver::writing::groups` meets its contract.
-- Assumes nothing.
use Rattle.interleaver.specs.Writing.{groups_of}
use Rattle.interleaver.proofs.writing.groups.Goals as goal

pub returns : goal.returns
unfolding groups_of
returns c =
    let a = c.spread.ensures in
    let b = c.spread-2.ensures in
    let d = c.spread-3.ensures in
    let e = c.spread-4.ensures in
    λ i. record { a = a i; b = b i; c = d i; d = e i }
