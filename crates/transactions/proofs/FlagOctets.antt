-- Flags of blocks in octets: what they are with one more, without any, and as made of a test.
-- Assumes nothing.
use mathlib.Core.Path.{◌≡◌, refl, sym, ap, ap₂, subst, ◌∙◌}
use mathlib.Core.Bool.{Bool, true, false, cond}
use mathlib.Core.List.{List}
use mathlib.Core.Logic.{◌≢◌}
use Prim.Native.Nat.{ℕ, zero, suc, ◌+◌, ◌*◌, ◌-◌, ◌/◌, ◌%◌, ◌^◌, ◌≤◌, ◌<◌}
use native.Mathlib.Nat.{add-zero, pow-suc, zero-div, not-suc-le-zero}
use native.Mathlib.Numerals.{add-one}
use native.Mathlib.Omega.{arith}
use native.Mathlib.Decide.{ℕ_discrete, dec_lt}
use lib.Dec.{eqb, ltb, ltb→lt}
use lib.ListN.{length, get_or, set, replicate, length-set, get_or-eq_default}
use lib.Pow.{pow_mono, high, low, field, mod-mod-pow}
use lib.Seq.{get_or-set_same, get_or-set_other, set_out, set-get_or}
use borrow.Author.Tests.{eqb-true, eqb-false, eq-eqb, ne_eqb}
use Rattle.foundation.specs.Bits.{bit}
use Rattle.foundation.proofs.Runs.{get_d_tabulate, tabulated}
use Rattle.foundation.specs.Order.{every}
use Rattle.foundation.proofs.Tests.{every-at, all-eq, all_eq₂}
use Rattle.transactions.specs.Flags.{flag_octet_count, flag_count, flagged, weights, flag_octets, with_flag}
use Rattle.foundation.proofs.Filling.{get_d_zeros}
use Rattle.foundation.proofs.Tests.{either}

-- ---- one octet

-- the octet with flag j set
abbrev with_bit : ℕ → ℕ → ℕ
with_bit x j = x + cond (eqb (bit j x) 1) 0 (2 ^ j)

-- computed for every octet
bit_with : (x j k : ℕ) → x < 256 → j < 8 → k < 8 → bit k (with_bit x j) ≡ cond (eqb j k) 1 (bit k x)
bit_with x j k hx = all_eq₂ 8 8 (λ j k. bit k (with_bit x j)) (λ j k. cond (eqb j k) 1 (bit k x)) (every-at 256 rule tt x hx) j k
  where
    rule : ℕ → Bool
    rule x = every 8 (λ j. every 8 (λ k. eqb (bit k (with_bit x j)) (cond (eqb j k) 1 (bit k x))))

with_octet : (x j : ℕ) → x < 256 → j < 8 → with_bit x j < 256
with_octet x j hx hj = ltb→lt (with_bit x j) 256 (every-at 8 (λ j. ltb (with_bit x j) 256) (every-at 256 (λ x. every 8 (λ j. ltb (with_bit x j) 256)) tt x hx) j hj)

-- a weight as the code shifts it
weight : (k : ℕ) → k < 8 → 1 * 2 ^ k % 256 ≡ 2 ^ k
weight = all-eq 8 (λ k. 1 * 2 ^ k % 256) (λ k. 2 ^ k) tt

-- ---- with one more flag

pub length_with : (os : List ℕ) (n : ℕ) → length (with_flag os n) ≡ length os
unfolding with_flag
length_with os n = length-set os (n / 8) _

module _ (os : List ℕ) (n : ℕ) where
  at_with : n / 8 < length os → get_or (with_flag os n) (n / 8) 0 ≡ with_bit (get_or os (n / 8) 0) (n % 8)
  unfolding with_flag flagged
  at_with h = get_or-set_same os (n / 8) (with_bit (get_or os (n / 8) 0) (n % 8)) 0 h

  beside_with : (i : ℕ) → i ≢ n / 8 → get_or (with_flag os n) i 0 ≡ get_or os i 0
  unfolding with_flag
  beside_with i h = get_or-set_other os (n / 8) i _ 0 h

  pub past_with : length os ≤ n / 8 → with_flag os n ≡ os
  unfolding with_flag
  past_with h = set_out os (n / 8) _ h

  pub held_with : flagged os n ≡ true → with_flag os n ≡ os
  unfolding with_flag
  held_with t = rw (t, add-zero (get_or os (n / 8) 0)) (set-get_or os (n / 8) 0)

  -- what the code adds, and that it fits
  pub more_with : flagged os n ≡ false → set os (n / 8) (get_or os (n / 8) 0 + 1 * 2 ^ (n % 8) % 256) ≡ with_flag os n
  unfolding with_flag
  more_with t = rw (t, weight (n % 8) (omega arith))

  pub room_with : get_or os (n / 8) 0 < 256 → flagged os n ≡ false → get_or os (n / 8) 0 + 1 * 2 ^ (n % 8) % 256 < 256
  unfolding flagged
  room_with octet t = rw (weight (n % 8) (omega arith)) (subst (λ (x : Bool). get_or os (n / 8) 0 + cond x 0 (2 ^ (n % 8)) < 256) t (with_octet (get_or os (n / 8) 0) (n % 8) octet (omega arith)))

  pub octets_with : ((i : ℕ) → get_or os i 0 < 256) → (i : ℕ) → get_or (with_flag os n) i 0 < 256
  octets_with octet i = go (ℕ_discrete i (n / 8)) (dec_lt (n / 8) (length os))
    where
      go : Dec (i ≡ n / 8) → Dec (n / 8 < length os) → get_or (with_flag os n) i 0 < 256
      go (yes e) (yes h) = rw (e, at_with h) (with_octet (get_or os (n / 8) 0) (n % 8) (octet (n / 8)) (omega arith))
      go (yes e) (no h) = rw (past_with (omega arith)) (octet i)
      go (no e) h = rw (beside_with i e) (octet i)

pub flagged_with : (os : List ℕ) (n m : ℕ) → ((i : ℕ) → get_or os i 0 < 256) → n < 8 * length os → flagged (with_flag os n) m ≡ cond (eqb n m) true (flagged os m)
unfolding flagged
flagged_with os n m octet room = go (ℕ_discrete (m / 8) (n / 8))
  where
    is_one : (t : Bool) (x : ℕ) → eqb (cond t 1 x) 1 ≡ cond t true (eqb x 1)
    is_one true x = refl
    is_one false x = refl

    same : m / 8 ≡ n / 8 → eqb (n % 8) (m % 8) ≡ eqb n m
    same e =
        either (eqb n m) (λ t. eq-eqb (n % 8) (m % 8) (ap (λ (x : ℕ). x % 8) (eqb-true n m t)) ∙ sym t)
        (λ t. ne_eqb (n % 8) (m % 8) (λ k. eqb-false n m t (omega arith)) ∙ sym t)

    go : Dec (m / 8 ≡ n / 8) → eqb (bit (m % 8) (get_or (with_flag os n) (m / 8) 0)) 1 ≡ cond (eqb n m) true (eqb (bit (m % 8) (get_or os (m / 8) 0)) 1)
    go (yes e) =
        rw (e, at_with os n (omega arith), bit_with (get_or os (n / 8) 0) (n % 8) (m % 8) (octet (n / 8)) (omega arith) (omega arith), same e)
        (is_one (eqb n m) (bit (m % 8) (get_or os (n / 8) 0)))
    go (no e) = rw (beside_with os n (m / 8) e, ne_eqb n m (λ k. e (ap (λ (x : ℕ). x / 8) (sym k))))

-- ---- no flag

unset : (os : List ℕ) (n : ℕ) → get_or os (n / 8) 0 ≡ 0 → flagged os n ≡ false
unfolding flagged
unset os n e = rw (e, zero-div (2 ^ (n % 8)))

pub flagged-none : (n : ℕ) → flagged (replicate flag_octet_count 0) n ≡ false
flagged-none n = unset (replicate flag_octet_count 0) n (get_d_zeros flag_octet_count (n / 8))

pub flagged_far : (os : List ℕ) (n : ℕ) → length os ≡ flag_octet_count → flag_count ≤ n → flagged os n ≡ false
flagged_far os n e h = unset os n (get_or-eq_default os 0 (omega arith))

-- ---- the octets of a test

-- a lower bit does not depend on what stands above it
bit_below : (x b m k : ℕ) → x < 2 ^ m → k < m → bit k (b * 2 ^ m + x) ≡ bit k x
bit_below x b m k h l = lower (b * 2 ^ m + x) ∙ ap (bit k) (low b m h)
  where
    lower : (y : ℕ) → bit k y ≡ bit k (y % 2 ^ m)
    lower y =
        sym (field y 1 k) ∙ ap (λ (x : ℕ). x / 2 ^ k) (sym (mod-mod-pow y (m - (1 + k)) (1 + k)) ∙ ap (λ (e : ℕ). y % 2 ^ e % 2 ^ (1 + k)) all_bits)
        ∙ field (y % 2 ^ m) 1 k
      where
        all_bits : m - (1 + k) + (1 + k) ≡ m
        all_bits = omega arith

-- a weight or 0 as a multiple of the weight
digit : (t : Bool) (w : ℕ) → cond t w 0 ≡ cond t 1 0 * w
digit true w = omega arith
digit false w = omega arith

digit_lt : (t : Bool) → cond {A = ℕ} t 1 0 < 2
digit_lt true = omega arith
digit_lt false = omega arith

module _ (f : ℕ → Bool) (at : ℕ) where
  pub weights_more : (m : ℕ) → weights f at (suc m) ≡ cond (f (at + m)) 1 0 * 2 ^ m + weights f at m
  unfolding weights
  weights_more m = omega (arith, digit (f (at + m)) (2 ^ m))

  pub weights-lt : (m : ℕ) → weights f at m < 2 ^ m
  weights-lt zero = unfold weights in omega arith
  weights-lt (suc m) = room (f (at + m)) (weights-lt m) (weights_more m)
    where
      room : (t : Bool) → weights f at m < 2 ^ m → weights f at (suc m) ≡ cond t 1 0 * 2 ^ m + weights f at m → weights f at (suc m) < 2 ^ suc m
      room true l e = omega (arith, pow-suc 2 m)
      room false l e = omega (arith, pow-suc 2 m)

  -- one more flag as the code adds it, and that it fits
  pub weights-held : (k x : ℕ) → k < 8 → x ≡ weights f at k → f (at + k) ≡ true → x + 1 * 2 ^ k % 256 ≡ weights f at (k + 1)
  unfolding weights
  weights-held k x l e t = rw (add-one k, t, weight k l, e)

  pub weights_other : (k x : ℕ) → x ≡ weights f at k → f (at + k) ≡ false → x ≡ weights f at (k + 1)
  unfolding weights
  weights_other k x e t = rw (add-one k, t) (e ∙ omega arith)

  pub weights-room : (k x : ℕ) → k < 8 → x ≡ weights f at k → x + 1 * 2 ^ k % 256 < 256
  weights-room k x l e = rw (weight k l) (omega (arith, weights-lt k, pow-suc 2 k, pow_mono {i = suc k} {j = 8} l))

  bit-weights : (m k : ℕ) → k < m → bit k (weights f at m) ≡ cond (f (at + k)) 1 0
  bit-weights zero k l = absurd (not-suc-le-zero l)
  bit-weights (suc m) k l = ap (bit k) (weights_more m) ∙ go (ℕ_discrete k m) (λ h. bit-weights m k h)
    where
      go : Dec (k ≡ m) → (k < m → bit k (weights f at m) ≡ cond (f (at + k)) 1 0) → bit k (cond (f (at + m)) 1 0 * 2 ^ m + weights f at m) ≡ cond (f (at + k)) 1 0
      go (yes e) below = rw (e, high (cond (f (at + m)) 1 0) m (weights-lt m)) (omega (arith, digit_lt (f (at + m))))
      go (no e) below = bit_below (weights f at m) (cond (f (at + m)) 1 0) m k (weights-lt m) (omega arith) ∙ below (omega arith)

pub weights_ext : (f g : ℕ → Bool) (at at' m : ℕ) → ((k : ℕ) → k < m → f (at + k) ≡ g (at' + k)) → weights f at m ≡ weights g at' m
unfolding weights
weights_ext f g at at' zero h = refl
weights_ext f g at at' (suc m) h = ap₂ (λ (x : ℕ) (t : Bool). x + cond t (2 ^ m) 0) (weights_ext f g at at' m (λ k l. h k (omega arith))) (h m (omega arith))

pub flagged-octets : (f : ℕ → Bool) (n : ℕ) → n < flag_count → flagged (flag_octets f) n ≡ f n
unfolding flagged flag_octets
flagged-octets f n h =
    ap (λ (x : ℕ). eqb (bit (n % 8) x) 1) (get_d_tabulate flag_octet_count (λ j. weights f (8 * j) 8) (n / 8) 0 (omega arith))
    ∙ ap (λ (x : ℕ). eqb x 1) (bit-weights f (8 * (n / 8)) 8 (n % 8) (omega arith)) ∙ is_one (f (8 * (n / 8) + n % 8)) ∙ ap f whole
  where
    is_one : (t : Bool) → eqb (cond t 1 0) 1 ≡ t
    is_one true = refl
    is_one false = refl

    whole : 8 * (n / 8) + n % 8 ≡ n
    whole = omega arith

-- computed for every octet
octet_weights : (x : ℕ) → x < 256 → weights (λ k. eqb (bit k x) 1) 0 8 ≡ x
unfolding weights
octet_weights = all-eq 256 (λ x. weights (λ k. eqb (bit k x) 1) 0 8) (λ x. x) tt

module _ (os : List ℕ) (octet : (i : ℕ) → get_or os i 0 < 256) where
  pub octet_of_flags : (j : ℕ) → weights (flagged os) (8 * j) 8 ≡ get_or os j 0
  unfolding flagged
  octet_of_flags j =
      weights_ext (flagged os) (λ k. eqb (bit k (get_or os j 0)) 1) (8 * j) 0 8
      (λ k l. ap₂ (λ (i p : ℕ). eqb (bit p (get_or os i 0)) 1) (omega arith) (omega arith))
      ∙ octet_weights (get_or os j 0) (octet j)

pub octets_of_flags : (os : List ℕ) → length os ≡ flag_octet_count → ((i : ℕ) → get_or os i 0 < 256) → flag_octets (flagged os) ≡ os
unfolding flag_octets
octets_of_flags os e octet = sym (tabulated flag_octet_count (λ j. weights (flagged os) (8 * j) 8) os e (λ j l. sym (octet_of_flags os octet j)))
