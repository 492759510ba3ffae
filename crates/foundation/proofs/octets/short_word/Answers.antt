-- `foundation::octets::short_word` meets its contract.
-- Assumes nothing.
use mathlib.Core.Path.{ap, ◌∙◌}
use native.Mathlib.Omega.{arith}
use lib.ListN.{get_or}
use Rattle.std.proofs.lemmas.List.{get_or-drop}
use Rattle.foundation.proofs.OctetLists.{Octets}
use Rattle.foundation.proofs.OctetWords.{eight_each}
use Rattle.foundation.proofs.octets.short_word.Goals as goal

pub returns : goal.returns
returns c =
    let os = c.args.octets.now in
    let octet : Octets os = λ j. omega (arith, c.type_inv.octets j) in
    let l = c.rest-short.result.now in
    let each = eight_each os octet c.args.i l (λ k h. ap (λ l. get_or l k 0) c.rest-short.ensures ∙ get_or-drop c.args.i os k 0) in
    omega (arith, each)
