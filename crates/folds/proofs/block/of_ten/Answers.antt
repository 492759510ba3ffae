-- `folds::block::of_ten` meets its contract.
-- Assumes nothing.
use mathlib.Core.Path.{◌∙◌}
use native.Mathlib.Omega.{arith}
use Rattle.foundation.proofs.OctetLists.{Octets}
use Rattle.folds.proofs.Octets.{block_ten}
use Rattle.folds.proofs.block.of_ten.Goals as goal

pub returns : goal.returns
returns c =
    let a = c.args in
    let octet : Octets a.octets.now = λ j. omega (arith, c.type_inv.octets j) in
    c.remainder_of.ensures ∙ block_ten a.octets.now octet a.serial c.word_at-first.result c.word_at-last.result c.word_at-first.ensures c.word_at-last.ensures
