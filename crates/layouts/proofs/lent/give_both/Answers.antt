-- `layouts::lent::give_both` meets its contract.
-- Assumes nothing.
use mathlib.Core.Path.{refl, ap, ◌∙◌}
use mathlib.Core.List.{List, ◌++◌}
use Prim.Native.Nat.{ℕ}
use native.Mathlib.Omega.{arith}
use lib.ListN.{length}
use Rattle.foundation.specs.Octets.{put}
use Rattle.foundation.proofs.Copying.{put_both}
use Rattle.layouts.proofs.Giving.{another_size, refused, given_back}
use Rattle.layouts.proofs.lent.give_both.Goals as goal

pub returns-then-out-head : goal.returns-then-out-head
returns-then-out-head c = let a = c.args in another_size _ (a.number, a.head.now ++ a.tail.now) a.out.now (λ e. omega arith)

pub returns-then-out-head-2 : goal.returns-then-out-head-2
returns-then-out-head-2 c = let a = c.args in another_size _ (a.number, a.head.now ++ a.tail.now) a.out.now (λ e. omega arith)

pub returns-then-number-ne0 : goal.returns-then-number-ne0
returns-then-number-ne0 c = let a = c.args in refused _ (a.number, a.head.now ++ a.tail.now) a.out.now (omega arith) (λ e. c.if-number-ne0.true (rw e refl))

pub returns : goal.returns
returns c =
    let a = c.args in
    let n = length a.head.now in
    given_back _ (a.number, a.head.now ++ a.tail.now) a.out.now (omega arith) (omega arith) _
    (c.put-2.ensures ∙ ap (λ (os : List ℕ). put os n a.tail.now) c.put.ensures
    ∙ put_both a.out.now a.head.now a.tail.now n refl (omega arith))
