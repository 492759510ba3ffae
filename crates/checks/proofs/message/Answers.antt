-- `checks::message` meets its contract.
-- Assumes nothing.
use mathlib.Core.Path.{◌≡◌, ap, ◌∙◌}
use Prim.Native.Nat.{ℕ, ◌-◌, ◌*◌, ◌/◌, ◌^◌}
use native.Mathlib.Omega.{arith}
use lib.Bits.{bit_xor}
use lib.ListN.{length, get_or}
use Rattle.foundation.specs.Bits.{zeros}
use Rattle.foundation.proofs.OctetLists.{Octets}
use Rattle.polynomials.specs.Remainder.{divide}
use Rattle.checks.specs.Checks.{message_generator, message_check}
use Rattle.checks.specs.Parts.{message_so_far}
use Rattle.checks.proofs.MessageChecks.{so_far_last}
use Rattle.checks.proofs.message.Goals as goal

pub returns-then-octets-eq0 : goal.returns-then-octets-eq0
unfolding message_check message_so_far
returns-then-octets-eq0 c =
    let os = c.args.octets.now in
    let all : length os / 2 * 2 ≡ length os = omega arith in
    c.message_pairs-r.ensures ∙ ap (message_so_far os) all

pub returns : goal.returns
unfolding message_check message_so_far
returns c =
    let os = c.args.octets.now in
    let octet : Octets os = λ j. omega (arith, c.type_inv.octets j) in
    let n : ℕ = length os - 1 in
    let pairs : length os / 2 * 2 ≡ n = omega arith in
    c.take_octet.ensures
    ∙ ap (λ (x : ℕ). divide 32 message_generator (bit_xor x (get_or os n 0 * 2 ^ 24)) zeros 8) (c.message_pairs-r.ensures ∙ ap (message_so_far os) pairs)
    ∙ so_far_last os octet n (omega arith) (omega arith)
