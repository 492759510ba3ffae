-- The numbers that parts of a run of bits make: of a run behind another, of the digits of a number, of octets.
-- Assumes nothing.
use mathlib.Core.Path.{◌≡◌, ap, ap₂, ◌∙◌}
use mathlib.Core.List.{List}
use Prim.Native.Nat.{ℕ, ◌+◌, ◌*◌, ◌-◌, ◌/◌, ◌%◌, ◌^◌, ◌≤◌, ◌<◌}
use native.Mathlib.Nat.{div-one}
use native.Mathlib.Omega.{arith}
use lib.ListN.{length, get_or, get_or-eq_default}
use Rattle.foundation.specs.Bits.{Bits, bit, digits, octet_bit, followed, value_of, octets}
use Rattle.foundation.proofs.Xor.{bit-zero}
use Rattle.foundation.proofs.Runs.{followed-first, followed_rest, value_ext, value_append, value_digits, length-tabulate, octet_bit-octets}

-- ---- one run behind another: bits before position k, bits from there on, and bits across it

module _ (k : ℕ) (u v : ℕ → ℕ) (at n : ℕ) where
  pub value_before : at + n ≤ k → value_of (followed k u v) at n ≡ value_of u at n
  value_before h = value_ext (followed k u v) u at at n (λ i l. followed-first k u v (at + i) (omega arith))

  pub value_after : k ≤ at → value_of (followed k u v) at n ≡ value_of v (at - k) n
  value_after h =
      value_ext (followed k u v) v at (at - k) n (λ i l. followed_rest k u v (at + i) (omega arith) ∙ ap v (place i))
    where
      place : (i : ℕ) → at + i - k ≡ at - k + i
      place i = omega arith

-- the first k bits make x, the next l bits y
pub value_across : (u : ℕ → ℕ) (at k l x y : ℕ) → value_of u at k ≡ x → value_of u (at + k) l ≡ y → value_of u at (k + l) ≡ x * 2 ^ l + y
value_across u at k l x y e f = value_append u at k l ∙ ap₂ (λ (a b : ℕ). a * 2 ^ l + b) e f

-- a run from position s on
pub value_shifted : (u : ℕ → ℕ) (s at n : ℕ) → value_of (λ p. u (s + p)) at n ≡ value_of u (s + at) n
value_shifted u s at n = value_ext (λ p. u (s + p)) u at (s + at) n (λ i l. ap u (place i))
  where
    place : (i : ℕ) → s + (at + i) ≡ s + at + i
    place i = omega arith

-- ---- digits

-- k of n digits, behind the first i
pub value_in_digits : (n a i k : ℕ) → i + k ≤ n → value_of (digits n a) i k ≡ a / 2 ^ (n - i - k) % 2 ^ k
value_in_digits n a i k h =
    value_ext (digits n a) (digits (n - i) a) i 0 k (λ p l. ap (λ (e : ℕ). bit e a) (place p l)) ∙ value_digits (n - i) a k (omega arith)
  where
    place : (p : ℕ) → p < k → n - 1 - (i + p) ≡ n - i - 1 - (0 + p)
    place p l = omega arith

-- the last k of them
pub value_last_digits : (n a i k : ℕ) → i + k ≡ n → value_of (digits n a) i k ≡ a % 2 ^ k
value_last_digits n a i k e = value_in_digits n a i k (omega arith) ∙ ap (λ (x : ℕ). a / 2 ^ x % 2 ^ k) none ∙ ap (λ (x : ℕ). x % 2 ^ k) (div-one a)
  where
    none : n - i - k ≡ 0
    none = omega arith

-- ---- octets

-- bits of octet j, behind its first i, are digits of the octet
value_octet : (os : List ℕ) (j i k : ℕ) → i + k ≤ 8 → value_of (octet_bit os) (8 * j + i) k ≡ value_of (digits 8 (get_or os j 0)) i k
unfolding octet_bit
value_octet os j i k h = value_ext (octet_bit os) (digits 8 (get_or os j 0)) (8 * j + i) i k bits
  where
    bits : (p : ℕ) → p < k → octet_bit os (8 * j + i + p) ≡ digits 8 (get_or os j 0) (i + p)
    bits p l = ap₂ (λ (x y : ℕ). digits 8 (get_or os x 0) y) place weight
      where
        place : (8 * j + i + p) / 8 ≡ j
        place = omega arith

        weight : (8 * j + i + p) % 8 ≡ i + p
        weight = omega arith

-- k bits of octet j, behind its first i
pub value_in_octet : (os : List ℕ) (j i k : ℕ) → i + k ≤ 8 → value_of (octet_bit os) (8 * j + i) k ≡ get_or os j 0 / 2 ^ (8 - i - k) % 2 ^ k
value_in_octet os j i k h = value_octet os j i k h ∙ value_in_digits 8 (get_or os j 0) i k h

-- the last k of them
pub value_last_octet : (os : List ℕ) (j i k : ℕ) → i + k ≡ 8 → value_of (octet_bit os) (8 * j + i) k ≡ get_or os j 0 % 2 ^ k
value_last_octet os j i k e = value_octet os j i k (omega arith) ∙ value_last_digits 8 (get_or os j 0) i k e

-- octets made of bits make the numbers of the bits
pub value_octets : (m : ℕ) (u : ℕ → ℕ) → Bits u → (at n : ℕ) → at + n ≤ 8 * m → value_of (octet_bit (octets m u)) at n ≡ value_of u at n
value_octets m u b at n h = value_ext (octet_bit (octets m u)) u at at n (λ i l. octet_bit-octets m u b (at + i) (omega arith))

-- octets have no ones past their end
pub octet_bit_past : (os : List ℕ) (i : ℕ) → 8 * length os ≤ i → octet_bit os i ≡ 0
unfolding octet_bit
octet_bit_past os i h = ap (λ (x : ℕ). digits 8 x (i % 8)) (get_or-eq_default os 0 (omega arith)) ∙ bit-zero (8 - 1 - i % 8)

pub length-octets : (n : ℕ) (u : ℕ → ℕ) → length (octets n u) ≡ n
unfolding octets
length-octets n u = length-tabulate n (λ j. value_of u (8 * j) 8)
