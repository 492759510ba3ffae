-- `checks::message_octets` meets its contract.
-- Assumes nothing.
use mathlib.Core.Path.{sym, ap, subst, ◌∙◌}
use mathlib.Core.List.{List}
use Prim.Native.Nat.{ℕ}
use Rattle.checks.specs.Checks.{lowest_first}
use Rattle.checks.specs.Claims.{MessageCarries}
use Rattle.checks.proofs.Claims.{claims}
use Rattle.checks.proofs.message_octets.Goals as goal

pub returns : goal.returns
unfolding lowest_first
returns c =
    let os = c.args.octets.now in
    let is = c.to_le_bytes.ensures ∙ ap lowest_first c.message.ensures in
    (is, subst (λ (x : List ℕ). MessageCarries os x) (sym is) (claims.message os))
