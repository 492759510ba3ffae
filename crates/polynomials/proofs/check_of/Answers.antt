-- `polynomials::check_of` meets its contract: the register is the check of the octets so far.
-- Assumes nothing.
use mathlib.Core.Path.{sym, ap, ◌∙◌}
use Prim.Native.Nat.{ℕ, ◌+◌, ◌*◌, ◌^◌}
use native.Mathlib.Omega.{arith}
use lib.Bits.{bit_xor}
use lib.ListN.{get_or}
use Rattle.foundation.specs.Bits.{zeros, octet_bit}
use Rattle.polynomials.specs.Remainder.{divide}
use Rattle.polynomials.proofs.Check.{check-none}
use Rattle.polynomials.proofs.Register.{octet_more}
use Rattle.polynomials.proofs.check_of.Goals as goal

pub loop-octet-init : goal.loop-octet-init
loop-octet-init c = sym (check-none 32 (2 ^ 32 + c.args.g) (octet_bit c.args.octets.now))

pub loop-octet-preserved : goal.loop-octet-preserved
loop-octet-preserved c =
    let a = c.args in
    let t = c.loop-octet in
    let i = t.octet-index in
    let o : ℕ = get_or a.octets.now i 0 in
    c.take_octet-r.ensures
    ∙ ap (λ (x : ℕ). divide 32 (2 ^ 32 + a.g) (bit_xor x (o * 2 ^ 24)) zeros 8) t.invariant
    ∙ octet_more 32 (2 ^ 32 + a.g) (omega arith) a.octets.now i (omega (arith, c.type_inv.octets i))
