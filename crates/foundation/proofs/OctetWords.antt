-- Octets as numbers and words, the first highest.
-- Assumes nothing.
use mathlib.Core.Path.{◌≡◌, refl, sym, ap, ap₂, ◌∙◌}
use mathlib.Core.List.{List, [], ◌∷◌}
use Prim.Native.Nat.{ℕ, zero, suc, ◌+◌, ◌*◌, ◌-◌, ◌/◌, ◌%◌, ◌^◌, ◌≤◌, ◌<◌}
use native.Mathlib.Nat.{add-zero}
use native.Mathlib.Omega.{arith}
use lib.Dec.{ltb, lit<}
use lib.ListN.{length, get_or, take, drop}
use Rattle.std.proofs.lemmas.List.{get_or-take, get_or-drop}
use Rattle.std.specs.Int.{w64, from_be_bytes}
use Rattle.foundation.specs.Bits.{Bits, octet_bit, value_of, tabulate, octets}
use Rattle.foundation.proofs.Tests.{choose, cond_ge}
use Rattle.foundation.proofs.Runs.{value_append, value_part, tabulate_ext, octet_at}
use Rattle.foundation.proofs.OctetLists.{Octets}

-- k octets from octet i on
unfoldable pub joined : List ℕ → ℕ → ℕ → ℕ
joined os i zero = 0
joined os i (suc k) = joined os i k * 256 + get_or os (i + k) 0

module _ (os : List ℕ) (octet : Octets os) where
  pub value_joined : (i k : ℕ) → value_of (octet_bit os) (8 * i) (8 * k) ≡ joined os i k
  unfolding value_of joined
  value_joined i zero = refl
  value_joined i (suc k) =
      ap (value_of (octet_bit os) (8 * i)) more ∙ value_append (octet_bit os) (8 * i) (8 * k) 8
      ∙ ap₂ (λ (x y : ℕ). x * 256 + y) (value_joined i k) (ap (λ (a : ℕ). value_of (octet_bit os) a 8) place ∙ octet_at os (i + k) (octet (i + k)))
    where
      more : 8 * suc k ≡ 8 * k + 8
      more = omega arith

      place : 8 * i + 8 * k ≡ 8 * (i + k)
      place = omega arith

  -- eight of them as a sum
  pub eight_octets : (i : ℕ) → 2 ^ 56 * get_or os i 0 + 2 ^ 48 * get_or os (i + 1) 0 + 2 ^ 40 * get_or os (i + 2) 0 + 2 ^ 32 * get_or os (i + 3) 0 + 2 ^ 24 * get_or os (i + 4) 0 + 2 ^ 16 * get_or os (i + 5) 0 + 2 ^ 8 * get_or os (i + 6) 0 + get_or os (i + 7) 0 ≡ value_of (octet_bit os) (8 * i) 64
  unfolding joined
  eight_octets i = sym (value_joined i 8 ∙ omega (arith, ap (λ (j : ℕ). get_or os j 0) (add-zero i)))

  -- read at once
  pub eight_each : (i : ℕ) (ys : List ℕ) → ((k : ℕ) → k < 8 → get_or ys k 0 ≡ get_or os (i + k) 0) → from_be_bytes w64 ys ≡ value_of (octet_bit os) (8 * i) 64
  eight_each i ys h = omega (arith, eight_octets i, ap (λ (j : ℕ). get_or os j 0) (add-zero i), h 0 (lit< tt), h 1 (lit< tt), h 2 (lit< tt), h 3 (lit< tt), h 4 (lit< tt), h 5 (lit< tt), h 6 (lit< tt), h 7 (lit< tt))

  pub eight_read : (i : ℕ) → from_be_bytes w64 (take 8 (drop i os)) ≡ value_of (octet_bit os) (8 * i) 64
  eight_read i =
      eight_each i (take 8 (drop i os)) (λ k h. get_or-take 8 (drop i os) k 0 h ∙ get_or-drop i os k 0)

-- where there are eight octets
pub whole_word : (os : List ℕ) (i : ℕ) → i + 8 ≤ length os
    → choose (ltb (length os) (i + 8)) 0 (value_of (octet_bit os) (8 * i) 64) ≡ value_of (octet_bit os) (8 * i) 64
whole_word os i = cond_ge (length os) (i + 8) 0 (value_of (octet_bit os) (8 * i) 64)

-- ---- octets out of words

-- a run of bits in words of 64 bits, the first highest
module _ (u : ℕ → ℕ) (bits : Bits u) (ws : List ℕ) (n : ℕ) (word : (q : ℕ) → 8 * q < n → get_or ws q 0 ≡ value_of u (64 * q) 64) where
  octet_of_lem : ℕ → ℕ
  octet_of_lem j = get_or ws (j / 8) 0 / 2 ^ (56 - 8 * (j % 8)) % 2 ^ 8

  octet_is : (j : ℕ) → j < n → octet_of_lem j ≡ value_of u (8 * j) 8
  unfolding octet_of_lem
  octet_is j h =
      ap (λ (w : ℕ). w / 2 ^ (56 - 8 * (j % 8)) % 2 ^ 8) (word (j / 8) (omega arith) ∙ ap (value_of u (64 * (j / 8))) all)
      ∙ value_part u bits (64 * (j / 8)) (8 * (j % 8)) 8 (56 - 8 * (j % 8)) ∙ ap (λ (at : ℕ). value_of u at 8) place
    where
      all : 64 ≡ 8 * (j % 8) + 8 + (56 - 8 * (j % 8))
      all = omega arith

      place : 64 * (j / 8) + 8 * (j % 8) ≡ 8 * j
      place = omega arith

  pub words_octets : tabulate n (λ j. get_or ws (j / 8) 0 / 2 ^ (56 - 8 * (j % 8)) % 2 ^ 8) ≡ octets n u
  unfolding octets octet_of_lem
  words_octets = tabulate_ext n octet_of_lem (λ j. value_of u (8 * j) 8) octet_is

-- the two octets of a number of 16 bits
pub two_octets : (l : List ℕ) (n : ℕ) → n < 65536 → l ≡ n / 256 % 256 ∷ n % 256 ∷ [] → l ≡ n / 256 ∷ n % 256 ∷ []
two_octets l n h e = let small : n / 256 % 256 ≡ n / 256 = omega (arith, h) in e ∙ ap (λ (x : ℕ). x ∷ n % 256 ∷ []) small
