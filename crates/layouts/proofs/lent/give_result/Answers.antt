-- `layouts::lent::give_result` meets its contract.
-- Assumes nothing.
use mathlib.Core.Path.{refl, ap}
use mathlib.Core.List.{List, []}
use Prim.Native.Nat.{ℕ}
use native.Mathlib.Omega.{arith}
use lib.ListN.{replicate, length-replicate}
use Rattle.foundation.specs.Refusals.{refusal_number}
use Rattle.foundation.proofs.Refusals.{some_number}
use Rattle.layouts.specs.Lent.{answer_of}
use Rattle.layouts.proofs.Giving.{gives_as, any_octets}
use Rattle.layouts.proofs.lent.give_result.Goals as goal

pub returns-in-Ok : goal.returns-in-Ok
unfolding answer_of
returns-in-Ok g c = rw c.in-Ok.is (gives_as (omega arith) refl c.give.ensures)

pub returns-in-Err : goal.returns-in-Err
unfolding answer_of
returns-in-Err g c =
    let r = c.in-Err.refusal in
    let zeros : List ℕ = replicate g.row.N 0 in
    rw c.in-Err.is (any_octets (refusal_number r) zeros [] (some_number r)
    (gives_as (length-replicate g.row.N 0) (ap (λ (n : ℕ). (n, zeros)) c.number.ensures) c.give-in-Err.ensures))
