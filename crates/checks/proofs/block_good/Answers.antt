-- `checks::block_good` meets its contract.
-- Assumes nothing.
use mathlib.Core.Path.{◌≡◌, ap, ◌∙◌}
use mathlib.Core.List.{List}
use Prim.Native.Nat.{ℕ, ◌+◌, ◌*◌, ◌/◌, ◌%◌, ◌≤◌}
use native.Mathlib.Omega.{arith}
use lib.ListN.{length, get_or}
use lib.Seq.{get_or-take}
use Rattle.checks.specs.Checks.{block_check, block_good}
use Rattle.checks.proofs.Ends.{too_few}
use Rattle.checks.proofs.BlockChecks.{block-long}
use Rattle.checks.proofs.block_good.Goals as goal

pub returns-in_default : goal.returns-in_default
unfolding block_good
returns-in_default c = too_few (length c.args.octets.now) 2 _ c.in_default.ensures.cases

pub returns : goal.returns
returns c =
    let os = c.args.octets.now in
    let octet = c.type_inv.octets in
    let parts = c.in-Some.ensures.cases in
    let long : 2 ≤ length os = omega (arith, parts.2) in
    let high : get_or c.in-Some.first.now 0 0 ≡ get_or os 0 0 = ap (λ (l : List ℕ). get_or l 0 0) parts.0 ∙ get_or-take 2 os 0 0 (omega arith) in
    let low : get_or c.in-Some.first.now 1 0 ≡ get_or os 1 0 = ap (λ (l : List ℕ). get_or l 1 0) parts.0 ∙ get_or-take 2 os 1 0 (omega arith) in
    let stored : c.from_be_bytes.result ≡ get_or os 0 0 % 2 * 256 + get_or os 1 0 = omega (arith, c.from_be_bytes.ensures, high, low) in
    block-long os (omega (arith, octet 0)) (omega (arith, octet 1)) c.from_be_bytes.result c.block.result long stored
    (c.block.ensures.0 ∙ ap (λ (o : ℕ). block_check (o / 2) c.in-Some.data.now) high ∙ ap (block_check (get_or os 0 0 / 2)) parts.1)
