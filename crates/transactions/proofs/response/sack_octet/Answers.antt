-- `transactions::response::sack_octet` meets its contract.
-- Assumes nothing.
-- whether a SACK has 1 for block n
use mathlib.Core.Path.{refl, sym, ◌∙◌}
use mathlib.Core.Bool.{Bool, cond, true}
use mathlib.Core.List.{List}
use Prim.Native.Nat.{ℕ, ◌*◌}
use native.Mathlib.Omega.{arith}
use lib.Dec.{leb}
use Rattle.transactions.specs.Flags.{flagged, weights}
use Rattle.transactions.proofs.FlagOctets.{weights-room, weights-held, weights_other}
use Rattle.transactions.proofs.response.sack_octet.Goals as goal
use Rattle.transactions.proofs.response.sack_octet.Goals.{then-is_one, else-is_one}

abbrev is_one : List ℕ → ℕ → ℕ → Bool
is_one flags blocks n = cond (flagged flags n) true (leb blocks n)

pub loop-k-init : goal.loop-k-init
unfolding weights
loop-k-init c = refl

pub overflow_add-octet : goal.overflow_add-octet
overflow_add-octet c =
    let a = c.args in
    let l = c.loop-k in
    record { fits = weights-room (is_one a.flags.octets a.blocks) (8 * a.j) l.k l.octet (omega arith) l.invariant }

pub loop-k-preserved : goal.loop-k-preserved
loop-k-preserved c =
    let a = c.args in
    let l = c.loop-k in
    let one = c.is_one.ensures in
    elim c.if-is_one.branch [
      | then-is_one w ↦ w.octet-is ∙ weights-held (is_one a.flags.octets a.blocks) (8 * a.j) l.k l.octet (omega arith) l.invariant (sym one ∙ w.if-is_one.true)
      | else-is_one w ↦ w.octet-is ∙ weights_other (is_one a.flags.octets a.blocks) (8 * a.j) l.k l.octet l.invariant (sym one ∙ w.if-is_one.false)
    ]
