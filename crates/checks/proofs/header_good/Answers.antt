-- `checks::header_good` meets its contract.
-- Assumes nothing.
use mathlib.Core.Path.{◌≡◌, ap, ◌∙◌}
use mathlib.Core.List.{List}
use Prim.Native.Nat.{ℕ, ◌+◌, ◌*◌, ◌-◌, ◌≤◌}
use native.Mathlib.Omega.{arith}
use lib.ListN.{length, get_or}
use Rattle.checks.specs.Checks.{header_check, header_good}
use Rattle.checks.proofs.Ends.{too_few, last_part}
use Rattle.checks.proofs.HeaderChecks.{header-long}
use Rattle.checks.proofs.header_good.Goals as goal

pub returns-in_default : goal.returns-in_default
unfolding header_good
returns-in_default c = too_few (length c.args.octets.now) 2 _ c.in_default.ensures.cases

pub returns : goal.returns
returns c =
    let os = c.args.octets.now in
    let parts = c.in-Some.ensures.cases in
    let long : 2 ≤ length os = omega (arith, parts.2) in
    let octet = λ (k : ℕ) (h : k ≤ 2). ap (λ (l : List ℕ). get_or l k 0) parts.1 ∙ last_part os 2 k h long in
    let stored : c.from_be_bytes.result ≡ get_or os (length os - 2) 0 * 256 + get_or os (length os - 1) 0 =
    omega (arith, c.from_be_bytes.ensures, octet 0 (omega arith), octet 1 (omega arith)) in
    header-long c.args.mask os c.from_be_bytes.result c.header.result long stored (c.header.ensures.0 ∙ ap (header_check c.args.mask) parts.0)
