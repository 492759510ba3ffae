-- `foundation::octets::joined` meets its contract.
-- Assumes nothing.
use mathlib.Core.Path.{refl, ap, ◌∙◌}
use mathlib.Core.List.{List}
use Prim.Native.Nat.{ℕ}
use native.Mathlib.Omega.{arith}
use lib.ListN.{length, length-replicate}
use Rattle.foundation.specs.Octets.{put}
use Rattle.foundation.proofs.Copying.{put_both}
use Rattle.foundation.proofs.octets.joined.Goals as goal

pub returns : goal.returns
returns g c = λ size.
    let a = c.args in
    let n = length a.head.now in
    c.put-2.ensures ∙ ap (λ (os : List ℕ). put os n a.tail.now) c.put.ensures
    ∙ put_both _ a.head.now a.tail.now n refl (omega (arith, length-replicate {A = ℕ}))
