-- `checks::message_good` meets its contract.
-- Assumes nothing.
use mathlib.Core.Path.{◌≡◌, ap, ◌∙◌}
use mathlib.Core.List.{List}
use Prim.Native.Nat.{ℕ, ◌+◌, ◌*◌, ◌-◌, ◌≤◌}
use native.Mathlib.Omega.{arith}
use lib.ListN.{length, get_or}
use Rattle.checks.specs.Checks.{message_check, message_good}
use Rattle.checks.proofs.Ends.{too_few, last_part}
use Rattle.checks.proofs.MessageChecks.{message-long}
use Rattle.checks.proofs.message_good.Goals as goal

pub returns-in_default : goal.returns-in_default
unfolding message_good
returns-in_default c = too_few (length c.args.octets.now) 4 _ c.in_default.ensures.cases

pub returns : goal.returns
returns c =
    let os = c.args.octets.now in
    let parts = c.in-Some.ensures.cases in
    let long : 4 ≤ length os = omega (arith, parts.2) in
    let octet = λ (k : ℕ) (h : k ≤ 4). ap (λ (l : List ℕ). get_or l k 0) parts.1 ∙ last_part os 4 k h long in
    let stored : c.from_le_bytes.result ≡ get_or os (length os - 4) 0 + 256 * get_or os (length os - 3) 0 + 65536 * get_or os (length os - 2) 0 + 16777216 * get_or os (length os - 1) 0 =
    omega (arith, c.from_le_bytes.ensures, octet 0 (omega arith), octet 1 (omega arith), octet 2 (omega arith), octet 3 (omega arith)) in
    message-long os c.from_le_bytes.result c.message.result long stored (c.message.ensures ∙ ap message_check parts.0)
