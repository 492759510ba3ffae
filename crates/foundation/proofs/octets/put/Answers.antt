-- `foundation::octets::put` meets its contract.
-- Assumes nothing.
use mathlib.Core.Path.{◌≡◌, sym, ◌∙◌}
use mathlib.Core.List.{append_assoc}
use lib.Seq.{drop-drop}
use Rattle.foundation.specs.Octets.{over}
use Prim.Native.Nat.{◌+◌, ◌-◌, ◌≤◌}
use native.Mathlib.Omega.{arith}
use lib.ListN.{length, take, drop}
use Rattle.foundation.proofs.Copying.{put_fits, put_not}
use Rattle.foundation.proofs.octets.put.Goals as goal

pub returns-then-octets-to : goal.returns-then-octets-to
unfolding over
returns-then-octets-to c =
    let a = c.args in
    let d = a.to.now in
    let s = a.octets.now in
    let h : a.at + length s ≤ length d = omega arith in
    let k : a.at + length s - a.at ≡ length s = omega arith in
    rw (c.copy_from_slice.ensures.after, k, drop-drop (length s) a.at d) (sym (append_assoc (take a.at d) s (drop (a.at + length s) d)) ∙ sym (put_fits d a.at s h))

pub returns-else-at-to : goal.returns-else-at-to
returns-else-at-to c = let a = c.args in put_not a.to.now a.at a.octets.now (omega arith)
