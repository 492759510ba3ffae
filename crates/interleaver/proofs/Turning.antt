-- The steps that turn a square keep exclusive or.
-- Assumes nothing.
use mathlib.Core.Path.{refl}
use Prim.Native.Nat.{ℕ, ◌/◌, ◌%◌, ◌^◌}
use lib.Bits.{bit_xor, bit_and}
use Rattle.polynomials.specs.Words.{up}
use Rattle.polynomials.proofs.Linear.{Linear, linear-shr, linear-mod, linear-field, linear-up, linear_and, linear_then, linear-xor}
use Rattle.interleaver.specs.Lanes.{part, joint, swapped, between, crossed_high, crossed_low, ones, twos, fours, eights, within, turned_by, turned_square}
use Rattle.interleaver.specs.declared.lanes.Square.{Square}

-- ---- within a word

module _ (s mask : ℕ) where
  marked : ℕ → ℕ
  marked x = bit_and (bit_xor (x / 2 ^ s) x) mask

  linear-marked : Linear marked
  unfolding marked
  linear-marked = linear_then (λ x. bit_xor (x / 2 ^ s) x) (λ x. bit_and x mask) (linear-xor (λ x. x / 2 ^ s) (λ x. x) (linear-shr s) (λ a b. refl)) (linear_and mask)

  linear-swapped : Linear (swapped s mask)
  unfolding swapped marked
  linear-swapped =
      linear-xor (λ x. bit_xor x (marked x)) (λ x. up s (marked x)) (linear-xor (λ x. x) marked (λ a b. refl) linear-marked)
      (linear_then marked (up s) linear-marked (linear-up s))

linear-within : Linear within
unfolding within
linear-within = linear_then (swapped 15 ones) (swapped 30 twos) (linear-swapped 15 ones) (linear-swapped 30 twos)

-- ---- of words that are functions of one number

module _ (p q : ℕ → ℕ) (hp : Linear p) (hq : Linear q) where
  pub linear-part : (n s : ℕ) → Linear (λ i. part n s (p i))
  linear-part n s = linear_then p (part n s) hp (linear-field s n)

  pub linear-joint : (n k s : ℕ) → Linear (λ i. joint n k s (p i) (q i))
  linear-joint n k s =
      linear_then (λ i. bit_xor (up k (p i)) (q i / 2 ^ s)) (λ x. x % 2 ^ n)
      (linear-xor (λ i. up k (p i)) (λ i. q i / 2 ^ s) (linear_then p (up k) hp (linear-up k)) (linear_then q (λ x. x / 2 ^ s) hq (linear-shr s))) (linear-mod n)

  -- p, and q shifted up by k
  pub with_up : (k : ℕ) → Linear (λ i. bit_xor (p i) (up k (q i)))
  with_up k = linear-xor p (λ i. up k (q i)) hp (linear_then q (up k) hq (linear-up k))

  module _ (s mask : ℕ) where
    linear-between : Linear (λ i. between s mask (p i) (q i))
    linear-between =
        linear_then (λ i. bit_xor (up s (p i)) (q i)) (λ x. bit_and x mask)
        (linear-xor (λ i. up s (p i)) q (linear_then p (up s) hp (linear-up s)) hq) (linear_and mask)

    linear-high : Linear (λ i. crossed_high s mask (p i) (q i))
    unfolding crossed_high
    linear-high =
        linear-xor p (λ i. between s mask (p i) (q i) / 2 ^ s) hp
        (linear_then (λ i. between s mask (p i) (q i)) (λ x. x / 2 ^ s) linear-between (linear-shr s))

    linear-low : Linear (λ i. crossed_low s mask (p i) (q i))
    unfolding crossed_low
    linear-low = linear-xor q (λ i. between s mask (p i) (q i)) hq linear-between

-- ---- a square that is a function of a number

pub record LinearSquare (x : ℕ → Square) : Type 0 where
  pub a : Linear (λ i. (x i).a)
  pub b : Linear (λ i. (x i).b)
  pub c : Linear (λ i. (x i).c)
  pub d : Linear (λ i. (x i).d)

module _ (p q r s : ℕ → ℕ) (hp : Linear p) (hq : Linear q) (hr : Linear r) (hs : Linear s) where
  linear_turned_by : LinearSquare (λ i. turned_by (p i) (q i) (r i) (s i))
  unfolding turned_by
  linear_turned_by =
      let first = linear-high p q hp hq 4 fours in
      let second = linear-low p q hp hq 4 fours in
      let third = linear-high r s hr hs 4 fours in
      let fourth = linear-low r s hr hs 4 fours in
      record {
        a = linear-high (λ i. crossed_high 4 fours (p i) (q i)) (λ i. crossed_high 4 fours (r i) (s i)) first third 8 eights;
        b = linear-high (λ i. crossed_low 4 fours (p i) (q i)) (λ i. crossed_low 4 fours (r i) (s i)) second fourth 8 eights;
        c = linear-low (λ i. crossed_high 4 fours (p i) (q i)) (λ i. crossed_high 4 fours (r i) (s i)) first third 8 eights;
        d = linear-low (λ i. crossed_low 4 fours (p i) (q i)) (λ i. crossed_low 4 fours (r i) (s i)) second fourth 8 eights;
      }

pub linear_turned : (x : ℕ → Square) → LinearSquare x → LinearSquare (λ i. turned_square (x i))
unfolding turned_square
linear_turned x h =
    linear_turned_by (λ i. within (x i).a) (λ i. within (x i).b) (λ i. within (x i).c) (λ i. within (x i).d) (linear_then (λ i. (x i).a) within h.a linear-within)
    (linear_then (λ i. (x i).b) within h.b linear-within) (linear_then (λ i. (x i).c) within h.c linear-within) (linear_then (λ i. (x i).d) within h.d linear-within)
