-- Functions that keep exclusive or: two of them that agree at each power of 2 below 2^k agree below 2^k.
-- Assumes nothing.
use mathlib.Core.Path.{◌≡◌, refl, sym, ap, ap₂, ◌∙◌}
use mathlib.Core.Bool.{Bool, true, false, cond}
use Prim.Native.Nat.{ℕ, zero, suc, ◌+◌, ◌*◌, ◌-◌, ◌/◌, ◌%◌, ◌^◌, ◌<◌, ◌≤◌}
use native.Mathlib.Nat.{pow-suc}
use native.Mathlib.Omega.{arith}
use native.Mathlib.Decide.{dec_lt}
use lib.Arith.{lt-one, bin_ind}
use lib.Dec.{T, eqb, eqb→eq}
use lib.Bits.{bit_xor, bit_and, xor_shr, xor_mod, xor_self, xor_block, xor_shifted, and_shr, and_mod, and_zero_r}
use Rattle.foundation.specs.Bits.{bit, value_of}
use Rattle.foundation.proofs.Xor.{odd_ind, xor_swap, xor-shl, bit-xor, bit-lt}
use Rattle.polynomials.specs.Words.{up}

abbrev pub Linear : (ℕ → ℕ) → Type 0
Linear f = (a b : ℕ) → f (bit_xor a b) ≡ bit_xor (f a) (f b)

pub linear-shr : (n : ℕ) → Linear (λ x. x / 2 ^ n)
linear-shr n a b = xor_shr a b n

pub linear-mod : (n : ℕ) → Linear (λ x. x % 2 ^ n)
linear-mod n a b = xor_mod a b n

pub linear-shl : (n : ℕ) → Linear (λ x. x * 2 ^ n)
linear-shl n a b = sym (xor-shl n a b)

pub linear_then : (f g : ℕ → ℕ) → Linear f → Linear g → Linear (λ x. g (f x))
linear_then f g hf hg a b = ap g (hf a b) ∙ hg (f a) (f b)

pub linear-xor : (f g : ℕ → ℕ) → Linear f → Linear g → Linear (λ x. bit_xor (f x) (g x))
linear-xor f g hf hg a b = ap₂ bit_xor (hf a b) (hg a b) ∙ xor_swap (f a) (f b) (g a) (g b)

-- n digits from digit s on
pub linear-field : (s n : ℕ) → Linear (λ x. x / 2 ^ s % 2 ^ n)
linear-field s n = linear_then (λ x. x / 2 ^ s) (λ x. x % 2 ^ n) (linear-shr s) (linear-mod n)

-- a shift in a word
pub linear-up : (k : ℕ) → Linear (up k)
linear-up k = linear_then (λ x. x * 2 ^ k) (λ x. x % 2 ^ 64) (linear-shl k) (linear-mod 64)

-- the number that digits make, each from its place
pub linear_value : (e : ℕ → ℕ) (at k : ℕ) → Linear (λ x. value_of (λ p. bit (e p) x) at k)
unfolding value_of
linear_value e at zero a b = refl
linear_value e at (suc k) a b =
    ap₂ (λ (x y : ℕ). x * 2 + y) (linear_value e at k a b) (bit-xor (e (at + k)) a b)
    ∙ sym (xor_block 1 (value_of (λ p. bit (e p) a) at k) (value_of (λ p. bit (e p) b) at k) (bit (e (at + k)) a) (bit (e (at + k)) b) (bit-lt (e (at + k)) a) (bit-lt (e (at + k)) b))

-- ---- a mask

bits_and : (a b m : ℕ) → bit_and (bit_xor (a % 2) (b % 2)) (m % 2) ≡ bit_xor (bit_and (a % 2) (m % 2)) (bit_and (b % 2) (m % 2))
bits_and a b m =
    odd_ind (λ x. bit_and (bit_xor x (b % 2)) (m % 2) ≡ bit_xor (bit_and x (m % 2)) (bit_and (b % 2) (m % 2)))
    (odd_ind (λ y. bit_and (bit_xor 0 y) (m % 2) ≡ bit_xor (bit_and 0 (m % 2)) (bit_and y (m % 2)))
    (odd_ind (λ z. bit_and (bit_xor 0 0) z ≡ bit_xor (bit_and 0 z) (bit_and 0 z)) refl refl m)
    (odd_ind (λ z. bit_and (bit_xor 0 1) z ≡ bit_xor (bit_and 0 z) (bit_and 1 z)) refl refl m) b)
    (odd_ind (λ y. bit_and (bit_xor 1 y) (m % 2) ≡ bit_xor (bit_and 1 (m % 2)) (bit_and y (m % 2)))
    (odd_ind (λ z. bit_and (bit_xor 1 0) z ≡ bit_xor (bit_and 1 z) (bit_and 0 z)) refl refl m)
    (odd_ind (λ z. bit_and (bit_xor 1 1) z ≡ bit_xor (bit_and 1 z) (bit_and 1 z)) refl refl m) b) a

by_halves : (a b : ℕ) → a / 2 ≡ b / 2 → a % 2 ≡ b % 2 → a ≡ b
by_halves a b p q = omega arith

pub linear_and : (m : ℕ) → Linear (λ x. bit_and x m)
linear_and =
    bin_ind (λ m. Linear (λ x. bit_and x m)) (λ a b. and_zero_r (bit_xor a b) ∙ sym (ap₂ bit_xor (and_zero_r a) (and_zero_r b)))
    (λ m ih a b. by_halves (bit_and (bit_xor a b) m) (bit_xor (bit_and a m) (bit_and b m))
    (and_shr (bit_xor a b) m 1 ∙ ap (λ (x : ℕ). bit_and x (m / 2)) (xor_shr a b 1) ∙ ih (a / 2) (b / 2)
    ∙ sym (xor_shr (bit_and a m) (bit_and b m) 1 ∙ ap₂ bit_xor (and_shr a m 1) (and_shr b m 1)))
    (and_mod (bit_xor a b) m 1 ∙ ap (λ (x : ℕ). bit_and x (m % 2)) (xor_mod a b 1) ∙ bits_and a b m
    ∙ sym (xor_mod (bit_and a m) (bit_and b m) 1 ∙ ap₂ bit_xor (and_mod a m 1) (and_mod b m 1))))

-- ---- functions that agree at each power of 2

linear-zero : (f : ℕ → ℕ) → Linear f → f 0 ≡ 0
linear-zero f h = h 0 0 ∙ xor_self (f 0)

both : (a b : Bool) → T (cond a b false) → T a × T b
both true b t = (tt, t)
both false b t = absurd t

-- the test that two functions agree at each power of 2 below 2^k
abbrev pub agree : (f g : ℕ → ℕ) → ℕ → Bool
agree f g zero = true
agree f g (suc k) = cond (eqb (f (2 ^ k)) (g (2 ^ k))) (agree f g k) false

module _ (f g : ℕ → ℕ) (hf : Linear f) (hg : Linear g) where
  top : (k x : ℕ) → 2 ^ k ≤ x → x < 2 ^ suc k → x ≡ bit_xor (1 * 2 ^ k) (x - 2 ^ k)
  top k x h l = let e = pow-suc 2 k in sym (xor_shifted 1 k (x - 2 ^ k) (omega arith) ∙ omega arith)

  more : (k : ℕ) → f (2 ^ k) ≡ g (2 ^ k) → ((y : ℕ) → y < 2 ^ k → f y ≡ g y) → (x : ℕ) → x < 2 ^ suc k → Dec (x < 2 ^ k) → f x ≡ g x
  more k e ih x h (yes l) = ih x l
  more k e ih x h (no l) =
      let p = pow-suc 2 k in
      let t = top k x (omega arith) h in
      let z : 1 * 2 ^ k ≡ 2 ^ k = omega arith in
      ap f t ∙ hf (1 * 2 ^ k) (x - 2 ^ k) ∙ ap₂ bit_xor (ap f z ∙ e ∙ sym (ap g z)) (ih (x - 2 ^ k) (omega arith)) ∙ sym (hg (1 * 2 ^ k) (x - 2 ^ k)) ∙ sym (ap g t)

  pub linear-same : (k : ℕ) → T (agree f g k) → (x : ℕ) → x < 2 ^ k → f x ≡ g x
  linear-same zero t x h = rw (lt-one h) (linear-zero f hf ∙ sym (linear-zero g hg))
  linear-same (suc k) t x h =
      let p = both (eqb (f (2 ^ k)) (g (2 ^ k))) (agree f g k) t in
      more k (eqb→eq (f (2 ^ k)) (g (2 ^ k)) p.0) (linear-same k p.1) x h (dec_lt x (2 ^ k))
