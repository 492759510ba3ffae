-- `checks::first_pair` meets its contract.
-- Assumes nothing.
use mathlib.Core.Path.{◌≡◌, ap, ◌∙◌}
use Prim.Native.Nat.{ℕ, ◌+◌, ◌*◌, ◌/◌, ◌%◌}
use native.Mathlib.Omega.{arith}
use lib.ListN.{length, get_or}
use Rattle.foundation.specs.Bits.{zeros}
use Rattle.foundation.proofs.OctetLists.{Octets}
use Rattle.polynomials.specs.Remainder.{divide}
use Rattle.folds.proofs.Tables.{message_times}
use Rattle.checks.specs.Checks.{message_generator}
use Rattle.checks.proofs.MessageChecks.{so_far_none, so_far_pair}
use Rattle.checks.proofs.first_pair.Goals as goal

pub returns-then-octets-eq0 : goal.returns-then-octets-eq0
returns-then-octets-eq0 c =
    let os = c.args.octets.now in
    let octet : Octets os = λ j. omega (arith, c.type_inv.octets j) in
    so_far_none os octet (length os / 2 * 2 % 4) (omega arith)

pub returns : goal.returns
returns c =
    let os = c.args.octets.now in
    let octet : Octets os = λ j. omega (arith, c.type_inv.octets j) in
    let pair = c.from_be_bytes in
    let is : pair.result ≡ get_or os 1 0 * 256 + get_or os 0 0 = omega (arith, pair.ensures) in
    c.times_word.ensures ∙ message_times c.args.table.now pair.result c.requires (omega (arith, pair.type_inv))
    ∙ ap (λ (x : ℕ). divide 32 message_generator x zeros 32) is ∙ so_far_pair os octet (length os / 2 * 2 % 4) (omega arith) (omega arith)
