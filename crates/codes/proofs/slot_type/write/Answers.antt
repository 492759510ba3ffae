-- `codes::slot_type::write` meets its contract.
-- Assumes nothing.
use mathlib.Core.Path.{sym, subst}
use Prim.Native.Nat.{ℕ}
use native.Mathlib.Omega.{arith}
use Rattle.codes.specs.Claims.{SlotComesBack}
use Rattle.codes.proofs.Claims.{claims}
use Rattle.codes.proofs.SlotWords.{slot_word-written}
use Rattle.codes.proofs.slot_type.write.Goals as goal

pub returns : goal.returns
returns c =
    let d = c.args.octet in
    let is = slot_word-written d c.take_octet-parity.result (omega arith) c.take_octet-parity.ensures in
    (is, subst (λ (v : ℕ). SlotComesBack d v) (sym is) (claims.slot_types.comes_back d (omega arith)))
