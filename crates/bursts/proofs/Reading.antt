-- The slot type and the block field as parts of the octets of a burst.
-- Assumes nothing.
use mathlib.Core.Path.{◌≡◌, refl, sym, ap, ap₂, ◌∙◌}
use mathlib.Core.List.{List, [], ◌∷◌}
use Prim.Native.Nat.{ℕ, zero, suc, ◌+◌, ◌*◌, ◌-◌, ◌/◌, ◌%◌, ◌^◌, ◌≤◌, ◌<◌}
use native.Mathlib.Omega.{arith}
use lib.Dec.{lit≤}
use lib.ListN.{get_or}
use Rattle.foundation.specs.Bits.{Bits, octet_bit, value_of, octets}
use Rattle.foundation.proofs.Runs.{octet_bit_bits, followed_bits, value_lt, value_append, value_part, value_followed, value_from}
use Rattle.foundation.proofs.OctetWords.{words_octets}
use Rattle.interleaver.specs.Writing.{field_octets}
use Rattle.bursts.specs.Bursts.{slot_bits}
use Rattle.bursts.specs.Parts.{field_run}
use Rattle.foundation.proofs.RunParts.{value_before, value_after, value_across, value_shifted, value_in_octet, value_last_octet}

module _ (b : List ℕ) where
  -- ---- the slot type

  -- its two halves
  pub slot_halves : slot_bits b ≡ value_of (octet_bit b) 98 10 * 1024 + value_of (octet_bit b) 156 10
  unfolding slot_bits
  slot_halves =
      value_followed 10 10 (λ p. octet_bit b (98 + p)) (λ p. octet_bit b (156 + p))
      ∙ ap₂ (λ (x y : ℕ). x * 1024 + y) (value_from (octet_bit b) 98 10) (value_from (octet_bit b) 156 10)

  pub slot-parts : slot_bits b
      ≡ (get_or b 12 0 % 64 * 16 + get_or b 13 0 / 16 % 16) * 1024 + (get_or b 19 0 % 16 * 64 + get_or b 20 0 / 4 % 64)
  slot-parts =
      slot_halves
      ∙ ap₂ (λ (x y : ℕ). x * 1024 + y)
      (value_across (octet_bit b) 98 6 4 (get_or b 12 0 % 64) (get_or b 13 0 / 16 % 16) (value_last_octet b 12 2 6 refl) (value_in_octet b 13 0 4 (lit≤ tt)))
      (value_across (octet_bit b) 156 4 6 (get_or b 19 0 % 16) (get_or b 20 0 / 4 % 64) (value_last_octet b 19 4 4 refl) (value_in_octet b 20 0 6 (lit≤ tt)))

  -- ---- the block field

  -- bits behind the first 98 stand 68 further on in the burst
  pub field-behind : (at n : ℕ) → 98 ≤ at → value_of (field_run b) at n ≡ value_of (octet_bit b) (at + 68) n
  field-behind at n h =
      value_after 98 (octet_bit b) (λ p. octet_bit b (166 + p)) at n h ∙ value_shifted (octet_bit b) 166 (at - 98) n
      ∙ ap (λ (p : ℕ). value_of (octet_bit b) p n) place
    where
      place : 166 + (at - 98) ≡ at + 68
      place = omega arith

  -- by words of 64 bits

  -- w and v are the words from octets 8 and 20 on
  pub field_across : (w v : ℕ) → w ≡ value_of (octet_bit b) (8 * 8) 64 → v ≡ value_of (octet_bit b) (8 * 20) 64
      → w / 2 ^ 30 * 2 ^ 30 % 2 ^ 64 + v / 2 ^ 28 % 2 ^ 30 ≡ value_of (field_run b) 64 64
  field_across w v e f = ap₂ ◌+◌ (cut ∙ ap (λ (x : ℕ). x * 2 ^ 30) before) behind ∙ sym (value_append (field_run b) 64 34 30)
    where
      u : ℕ → ℕ
      u = octet_bit b

      small : w < 2 ^ 64
      small = rw e (value_lt u (octet_bit_bits b) 64 64)

      cut : w / 2 ^ 30 * 2 ^ 30 % 2 ^ 64 ≡ w / 2 ^ 30 % 2 ^ 34 * 2 ^ 30
      cut = omega (arith, small)

      before : w / 2 ^ 30 % 2 ^ 34 ≡ value_of (field_run b) 64 34
      before = ap (λ (x : ℕ). x / 2 ^ 30 % 2 ^ 34) e ∙ value_part u (octet_bit_bits b) 64 0 34 30 ∙ sym (value_before 98 u (λ p. u (166 + p)) 64 34 (lit≤ tt))

      behind : v / 2 ^ 28 % 2 ^ 30 ≡ value_of (field_run b) 98 30
      behind = ap (λ (x : ℕ). x / 2 ^ 28 % 2 ^ 30) f ∙ value_part u (octet_bit_bits b) 160 6 30 28 ∙ sym (field-behind 98 30 (lit≤ tt))

  -- w is the word from octet k on, o the octet behind it
  pub across : (k w o : ℕ) → w ≡ value_of (octet_bit b) (8 * k) 64 → o ≡ get_or b (k + 8) 0 → get_or b (k + 8) 0 < 256 → w * 2 ^ 4 % 2 ^ 64 + o / 16 ≡ value_of (octet_bit b) (8 * k + 4) 64
  across k w o e f l = ap₂ ◌+◌ (cut ∙ ap (λ (x : ℕ). x * 2 ^ 4) low) high ∙ sym (value_append u (8 * k + 4) 60 4)
    where
      u : ℕ → ℕ
      u = octet_bit b

      cut : w * 2 ^ 4 % 2 ^ 64 ≡ w / 2 ^ 0 % 2 ^ 60 * 2 ^ 4
      cut = omega arith

      low : w / 2 ^ 0 % 2 ^ 60 ≡ value_of u (8 * k + 4) 60
      low = ap (λ (x : ℕ). x / 2 ^ 0 % 2 ^ 60) e ∙ value_part u (octet_bit_bits b) (8 * k) 4 60 0

      place : 8 * (k + 8) + 0 ≡ 8 * k + 4 + 60
      place = omega arith

      high : o / 16 ≡ value_of u (8 * k + 4 + 60) 4
      high =
          let four : o / 16 ≡ get_or b (k + 8) 0 / 2 ^ 4 % 2 ^ 4 = omega arith in
          four ∙ sym (value_in_octet b (k + 8) 0 4 (lit≤ tt)) ∙ ap (λ (p : ℕ). value_of u p 4) place

  -- the octets of its words
  pub field_words_lem : (x y z t : ℕ) → x ≡ value_of (octet_bit b) (8 * 0) 64 → y ≡ value_of (field_run b) 64 64 → z ≡ value_of (octet_bit b) (8 * 24 + 4) 64 → t ≡ value_of (octet_bit b) (8 * 32 + 4) 64
      → field_octets x y z t ≡ octets 25 (field_run b)
  unfolding field_octets
  field_words_lem x y z t ex ey ez et = words_octets (field_run b) bits (x ∷ y ∷ z ∷ t ∷ []) 25 word
    where
      bits : Bits (field_run b)
      bits = followed_bits 98 (octet_bit b) (λ p. octet_bit b (166 + p)) (octet_bit_bits b) (λ p. octet_bit_bits b (166 + p))

      word : (q : ℕ) → 8 * q < 25 → get_or (x ∷ y ∷ z ∷ t ∷ []) q 0 ≡ value_of (field_run b) (64 * q) 64
      word zero h = ex ∙ sym (value_before 98 (octet_bit b) (λ p. octet_bit b (166 + p)) 0 64 (lit≤ tt))
      word (suc zero) h = ey
      word (suc (suc zero)) h = ez ∙ sym (field-behind 128 64 (lit≤ tt))
      word (suc (suc (suc zero))) h = et ∙ sym (field-behind 192 64 (lit≤ tt))
      word (suc (suc (suc (suc q)))) h = absurd (omega arith)
