-- Laws of `bit_xor` that lib.Bits does not state.
-- Assumes nothing.
use mathlib.Core.Path.{◌≡◌, refl, sym, ap, ap₂, ◌∙◌}
use Prim.Native.Nat.{ℕ, zero, suc, ◌*◌, ◌/◌, ◌%◌, ◌^◌, ◌<◌}
use native.Mathlib.Nat.{mod-lt, le_of_suc-le-suc, not-suc-le-zero, zero-lt-suc, add-zero, zero-mul, one-mul, zero-div}
use native.Mathlib.Omega.{arith}
use lib.Arith.{bin_ind}
use lib.Pow.{pow_pos}
use lib.Bits.{bit_xor, xor_shr, xor_mod, xor_add_and, xor_comm, xor_self, xor_zero_r, and_le_l, and_le_r, xor_block}
use Rattle.foundation.specs.Bits.{bit}

-- what holds of 0 and of 1 holds of a bit
pub bit_ind : (P : ℕ → Type 0) → P 0 → P 1 → (b : ℕ) → b < 2 → P b
bit_ind P p q zero h = p
bit_ind P p q (suc zero) h = q
bit_ind P p q (suc (suc b)) h = absurd (not-suc-le-zero (le_of_suc-le-suc (le_of_suc-le-suc h)))

-- and of any number's last bit
pub odd_ind : (P : ℕ → Type 0) → P 0 → P 1 → (n : ℕ) → P (n % 2)
odd_ind P p q n = bit_ind P p q (n % 2) (mod-lt n (zero-lt-suc 1))

bits_assoc : (a b c : ℕ) → bit_xor (bit_xor (a % 2) (b % 2)) (c % 2) ≡ bit_xor (a % 2) (bit_xor (b % 2) (c % 2))
bits_assoc a b c =
    odd_ind (λ x. bit_xor (bit_xor x (b % 2)) (c % 2) ≡ bit_xor x (bit_xor (b % 2) (c % 2))) refl
    (odd_ind (λ y. bit_xor (bit_xor 1 y) (c % 2) ≡ bit_xor 1 (bit_xor y (c % 2))) refl
    (odd_ind (λ z. bit_xor (bit_xor 1 1) z ≡ bit_xor 1 (bit_xor 1 z)) refl refl c) b) a

-- two numbers are equal when their last bits and the rest are
by_halves : (a b : ℕ) → a / 2 ≡ b / 2 → a % 2 ≡ b % 2 → a ≡ b
by_halves a b p q = omega arith

pub xor_assoc : (a b c : ℕ) → bit_xor (bit_xor a b) c ≡ bit_xor a (bit_xor b c)
xor_assoc =
    bin_ind (λ a. (b c : ℕ) → bit_xor (bit_xor a b) c ≡ bit_xor a (bit_xor b c)) (λ b c. refl)
    (λ a ih b c. by_halves (bit_xor (bit_xor a b) c) (bit_xor a (bit_xor b c))
    (xor_shr (bit_xor a b) c 1 ∙ ap (λ (n : ℕ). bit_xor n (c / 2)) (xor_shr a b 1) ∙ ih (b / 2) (c / 2)
    ∙ sym (xor_shr a (bit_xor b c) 1 ∙ ap (bit_xor (a / 2)) (xor_shr b c 1)))
    (xor_mod (bit_xor a b) c 1 ∙ ap (λ (n : ℕ). bit_xor n (c % 2)) (xor_mod a b 1) ∙ bits_assoc a b c
    ∙ sym (xor_mod a (bit_xor b c) 1 ∙ ap (bit_xor (a % 2)) (xor_mod b c 1))))

-- a sum of two sums, regrouped
pub xor_swap : (a b c d : ℕ) → bit_xor (bit_xor a b) (bit_xor c d) ≡ bit_xor (bit_xor a c) (bit_xor b d)
xor_swap a b c d =
    xor_assoc a b (bit_xor c d)
    ∙ ap (bit_xor a) (sym (xor_assoc b c d) ∙ ap (λ (n : ℕ). bit_xor n d) (xor_comm b c) ∙ xor_assoc c b d)
    ∙ sym (xor_assoc a c (bit_xor b d))

-- the middle term goes out
pub xor_through : (a b c : ℕ) → bit_xor (bit_xor a b) (bit_xor b c) ≡ bit_xor a c
xor_through a b c =
    xor_assoc a b (bit_xor b c)
    ∙ ap (bit_xor a) (sym (xor_assoc b b c) ∙ ap (λ (n : ℕ). bit_xor n c) (xor_self b))

-- only equal numbers differ nowhere
pub xor-zero : (a b : ℕ) → bit_xor a b ≡ 0 → a ≡ b
xor-zero a b e = omega (arith, xor_add_and a b, and_le_l a b, and_le_r a b)

pub xor-shl : (k a b : ℕ) → bit_xor (a * 2 ^ k) (b * 2 ^ k) ≡ bit_xor a b * 2 ^ k
xor-shl k a b =
    ap₂ bit_xor (sym (add-zero (a * 2 ^ k))) (sym (add-zero (b * 2 ^ k)))
    ∙ xor_block k a b 0 0 (pow_pos k) (pow_pos k) ∙ add-zero (bit_xor a b * 2 ^ k)

pub bit-xor : (i a b : ℕ) → bit i (bit_xor a b) ≡ bit_xor (bit i a) (bit i b)
bit-xor i a b = ap (λ (n : ℕ). n % 2) (xor_shr a b i) ∙ xor_mod (a / 2 ^ i) (b / 2 ^ i) 1

pub bit-lt : (i a : ℕ) → bit i a < 2
bit-lt i a = mod-lt (a / 2 ^ i) (zero-lt-suc 1)

pub bit-zero : (i : ℕ) → bit i 0 ≡ 0
bit-zero i = ap (λ (n : ℕ). n % 2) (zero-div (2 ^ i))

-- a bit times g
pub scale_xor : (g m n : ℕ) → bit_xor (m % 2) (n % 2) * g ≡ bit_xor (m % 2 * g) (n % 2 * g)
scale_xor g m n =
    odd_ind (λ x. bit_xor x (n % 2) * g ≡ bit_xor (x * g) (n % 2 * g))
    (ap (λ (z : ℕ). bit_xor z (n % 2 * g)) (sym (zero-mul g)))
    (odd_ind (λ y. bit_xor 1 y * g ≡ bit_xor (1 * g) (y * g))
    (sym (ap (bit_xor (1 * g)) (zero-mul g) ∙ xor_zero_r (1 * g)))
    (zero-mul g ∙ sym (xor_self (1 * g))) n) m

-- digit j of a bit times g
pub bit_scale : (j g m : ℕ) → bit j (m % 2 * g) ≡ m % 2 * bit j g
bit_scale j g m =
    odd_ind (λ x. bit j (x * g) ≡ x * bit j g) (ap (bit j) (zero-mul g) ∙ bit-zero j ∙ sym (zero-mul (bit j g)))
    (ap (bit j) (one-mul g) ∙ sym (one-mul (bit j g))) m
