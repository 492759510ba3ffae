-- What one shift of a 32-bit register does, and what an octet taken in by any register of eight bits or more adds to the check so far.
-- Assumes nothing.
use mathlib.Core.Path.{◌≡◌, sym, ap, ap₂, ◌∙◌}
use mathlib.Core.List.{List}
use Prim.Native.Nat.{ℕ, ◌+◌, ◌*◌, ◌-◌, ◌%◌, ◌^◌, ◌≤◌, ◌<◌}
use native.Mathlib.Nat.{one-mul, zero-add}
use native.Mathlib.Omega.{arith}
use lib.Bits.{bit_xor, xor_block, xor_zero_r}
use lib.ListN.{get_or}
use Rattle.foundation.specs.Bits.{bit, zeros, octet_bit}
use Rattle.polynomials.specs.Remainder.{reduce, divide, check}
use Rattle.foundation.proofs.Runs.{octet_at, octet_bit_bits}
use Rattle.polynomials.proofs.Division.{reduce-small}
use Rattle.polynomials.proofs.Check.{check_more}

pub shift_low : (g r : ℕ) → r < 2 ^ 31 → r * 2 ^ 1 % 2 ^ 32 ≡ divide 32 (2 ^ 32 + g) r zeros 1
unfolding divide
shift_low g r h =
    same
    ∙ sym (ap (reduce 32 (2 ^ 32 + g)) (xor_zero_r (r * 2)) ∙ reduce-small 32 (2 ^ 32 + g) (r * 2) (omega arith))
  where
    same : r * 2 ^ 1 % 2 ^ 32 ≡ r * 2
    same = omega arith

pub shift_high : (g r : ℕ) → g < 2 ^ 32 → 2 ^ 31 ≤ r → r < 2 ^ 32 → bit_xor (r * 2 ^ 1 % 2 ^ 32) g ≡ divide 32 (2 ^ 32 + g) r zeros 1
unfolding divide reduce
shift_high g r hg h l =
    sym (ap (λ (a : ℕ). bit_xor a (bit 32 a * (2 ^ 32 + g))) (xor_zero_r (r * 2))
    ∙ ap₂ (λ (a b : ℕ). bit_xor a (b * (2 ^ 32 + g))) split one
    ∙ ap (bit_xor (1 * 2 ^ 32 + r * 2 ^ 1 % 2 ^ 32)) (one-mul (2 ^ 32 + g))
    ∙ xor_block 32 1 1 (r * 2 ^ 1 % 2 ^ 32) g (omega arith) hg ∙ zero-add (bit_xor (r * 2 ^ 1 % 2 ^ 32) g))
  where
    split : r * 2 ≡ 1 * 2 ^ 32 + r * 2 ^ 1 % 2 ^ 32
    split = omega arith

    one : bit 32 (r * 2) ≡ 1
    one = omega arith

-- the check of one octet more
pub octet_more : (n g : ℕ) → 8 ≤ n → (os : List ℕ) (i : ℕ) → get_or os i 0 < 256
    → divide n g (bit_xor (check n g (octet_bit os) (8 * i)) (get_or os i 0 * 2 ^ (n - 8))) zeros 8 ≡ check n g (octet_bit os) (8 * (i + 1))
octet_more n g l os i h =
    ap (λ (o : ℕ). divide n g (bit_xor (check n g (octet_bit os) (8 * i)) (o * 2 ^ (n - 8))) zeros 8) (sym (octet_at os i h))
    ∙ sym (check_more n g (octet_bit os) (octet_bit_bits os) (8 * i) 8 l)
    ∙ ap (check n g (octet_bit os)) more
  where
    more : 8 * i + 8 ≡ 8 * (i + 1)
    more = omega arith
