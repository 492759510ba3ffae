-- `checks::block` meets its contract: ten octets at once; else the register takes in the seven bits of the serial behind the data octets;
-- the generator stands 23 bits higher in the register, and so does the check.
-- Assumes nothing.
use mathlib.Core.Path.{◌≡◌, sym, ap, ap₂, subst, ◌∙◌}
use Prim.Native.Nat.{ℕ, ◌+◌, ◌*◌, ◌%◌, ◌^◌}
use native.Mathlib.Omega.{arith}
use lib.Bits.{bit_xor}
use lib.ListN.{length}
use Rattle.foundation.specs.Bits.{zeros, octet_bit, digits, followed}
use Rattle.polynomials.specs.Remainder.{divide, check}
use Rattle.foundation.proofs.Runs.{octet_bit_bits}
use Rattle.checks.specs.Checks.{block_generator, inverted, block_check}
use Rattle.checks.specs.Claims.{BlockCarries}
use Rattle.checks.proofs.Claims.{claims}
use Rattle.checks.proofs.Masked.{masked_high, check-digits}
use Rattle.checks.proofs.BlockChecks.{block_bits, block_bits_bits}
use Rattle.checks.proofs.block.Goals as goal

pub returns-then-octets-eq10 : goal.returns-then-octets-eq10
unfolding block_check
returns-then-octets-eq10 c =
    let a = c.args in
    let os = a.octets.now in
    let ten : length os ≡ 10 = c.if-octets-eq10.true in
    let is =
    ap (λ (x : ℕ). bit_xor (inverted 9 x) 0x0F0)
    (c.of_ten.ensures ∙ ap (λ (n : ℕ). check 9 block_generator (followed (8 * n) (octet_bit os) (digits 7 a.serial)) (8 * n + 7)) (sym ten)) in
    (is, subst (λ (x : ℕ). BlockCarries a.serial os x) (sym is) (claims.block a.serial os))

pub returns : goal.returns
unfolding block_check
returns c =
    let a = c.args in
    let os = a.octets.now in
    let g : ℕ = block_generator * 2 ^ 23 in
    let top : a.serial % 128 * 2 ^ 25 % 2 ^ 32 ≡ a.serial % 128 * 2 ^ 25 = omega arith in
    let is =
    masked_high 8 block_generator 23 _ (block_bits a.serial os) (block_bits_bits a.serial os) (8 * length os + 7) c.shifts-all.result
    (c.shifts-all.ensures
    ∙ ap₂ (λ (x y : ℕ). divide 32 g (bit_xor x y) zeros 7) c.check_of-data.ensures top
    ∙ check-digits 32 g (octet_bit os) (octet_bit_bits os) (8 * length os) 7 a.serial (omega arith)) in
    (is, subst (λ (x : ℕ). BlockCarries a.serial os x) (sym is) (claims.block a.serial os))
