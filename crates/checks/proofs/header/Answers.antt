-- `checks::header` meets its contract.
-- Assumes nothing.
use mathlib.Core.Path.{sym, ap, subst}
use Prim.Native.Nat.{ℕ}
use lib.Bits.{bit_xor}
use Rattle.checks.specs.Checks.{inverted, header_check}
use Rattle.checks.specs.Claims.{HeaderCarries}
use Rattle.checks.proofs.Claims.{claims}
use Rattle.checks.proofs.header.Goals as goal

pub returns : goal.returns
unfolding header_check
returns c =
    let a = c.args in
    let is = ap (λ (x : ℕ). bit_xor (inverted 16 x) a.mask) c.header_remainder.ensures in
    (is, subst (λ (x : ℕ). HeaderCarries a.mask a.octets.now x) (sym is) (claims.header a.mask a.octets.now))
