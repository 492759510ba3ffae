-- `stored::saving::check_at` meets its contract.
-- Assumes nothing.
use mathlib.Core.Path.{◌≡◌, ap, ◌∙◌}
use mathlib.Core.List.{[], ◌∷◌}
use Prim.Native.Nat.{ℕ, ◌+◌, ◌-◌, ◌/◌, ◌%◌}
use native.Mathlib.Omega.{arith}
use lib.ListN.{take, drop}
use Rattle.foundation.specs.Octets.{put}
use Rattle.foundation.proofs.OctetWords.{two_octets}
use Rattle.checks.specs.Checks.{header_check}
use Rattle.stored.specs.Stored.{checked_size}
use Rattle.stored.proofs.saving.check_at.Goals as goal

pub returns : goal.returns
returns c =
    let to = c.args.to.now in
    let at = c.args.at in
    let size : at + checked_size - at ≡ checked_size = omega arith in
    let two = two_octets _ c.header.result c.header.type_inv c.to_be_bytes-octets.ensures in
    c.put.ensures
    ∙ ap (put to (at + checked_size)) (two ∙ ap (λ (k : ℕ). k / 256 ∷ k % 256 ∷ []) (c.header.ensures.0 ∙ ap (λ (n : ℕ). header_check 0 (take n (drop at to))) size))
