-- Laws of the message's check: its size, the check so far, and octets that carry it.
-- Assumes nothing.
use mathlib.Core.Path.{◌≡◌, refl, sym, ap, ap₂, ◌∙◌}
use mathlib.Core.Bool.{true}
use mathlib.Core.List.{List, ◌++◌}
use Prim.Native.Nat.{ℕ, ◌+◌, ◌*◌, ◌-◌, ◌/◌, ◌%◌, ◌^◌, ◌≤◌, ◌<◌}
use native.Mathlib.Nat.{add-zero, mul-one}
use native.Mathlib.Omega.{arith}
use borrow.Author.Tests.{eq-eqb}
use lib.Pow.{shr-shr}
use lib.Bits.{bit_xor}
use lib.Dec.{eqb}
use lib.ListN.{length, take, get_or, length-append}
use Rattle.foundation.specs.Bits.{Bits, zeros, octet_bit, value_of}
use Rattle.polynomials.specs.Remainder.{divide, check}
use Rattle.foundation.proofs.Runs.{octet_bit_bits}
use Rattle.foundation.proofs.OctetLists.{Octets}
use Rattle.foundation.proofs.OctetWords.{joined, value_joined}
use Rattle.polynomials.proofs.Division.{remainder_short}
use Rattle.polynomials.proofs.Check.{check_is, check-none, check-lt, check_more}
use Rattle.polynomials.proofs.Register.{octet_more}
use Rattle.checks.specs.Checks.{message_generator, exchanged, message_check, lowest_first, lowest_number, message_good}
use Rattle.checks.specs.Parts.{message_so_far}
use Rattle.checks.proofs.Pairs.{exchanged_pair, exchanged_last, octets-exchanged}
use Rattle.checks.proofs.Ends.{enough, front, from_end}

module _ (os : List ℕ) (octet : Octets os) where
  u : ℕ → ℕ
  u = octet_bit (exchanged os)

  u_bits : Bits u
  unfolding u
  u_bits = octet_bit_bits (exchanged os)

  pub so_far_lt : (i : ℕ) → message_so_far os i < 2 ^ 32
  unfolding message_so_far u
  so_far_lt i = check-lt 32 message_generator refl u u_bits (8 * i)

  -- the register starts with no octet
  pub so_far_none : (i : ℕ) → i ≡ 0 → 0 ≡ message_so_far os i
  unfolding message_so_far u
  so_far_none i e = sym (ap (message_so_far os) e ∙ check-none 32 message_generator u)

  -- or with a pair, exchanged
  pub so_far_pair : (i : ℕ) → i ≡ 2 → 1 < length os → divide 32 message_generator (get_or os 1 0 * 256 + get_or os 0 0) zeros 32 ≡ message_so_far os i
  unfolding message_so_far u joined
  so_far_pair i e h =
      let pair = exchanged_pair os 0 (omega arith) h in
      let value : get_or os 1 0 * 256 + get_or os 0 0 ≡ value_of u 0 16 = sym (value_joined (exchanged os) (octets-exchanged os octet) 0 2 ∙ omega (arith, pair.0, pair.1)) in
      ap (λ (x : ℕ). divide 32 message_generator x zeros 32) (value ∙ sym (remainder_short 32 message_generator u u_bits 16 (omega arith)))
      ∙ sym (check_is 32 message_generator u 16) ∙ ap (message_so_far os) (sym e)

  -- it takes in two pairs more
  pub so_far_word : (i w : ℕ) → i + 4 ≤ length os → i % 2 ≡ 0
      → w ≡ get_or os (i + 2) 0 + 256 * get_or os (i + 3) 0 + 65536 * get_or os i 0 + 16777216 * get_or os (i + 1) 0
      → divide 32 message_generator (bit_xor (message_so_far os i) w) zeros 32 ≡ message_so_far os (i + 4)
  unfolding message_so_far u joined
  so_far_word i w h even is =
      ap (λ (x : ℕ). divide 32 message_generator (bit_xor (message_so_far os i) x) zeros 32) (is ∙ sym word ∙ sym (mul-one (value_of u (8 * i) 32)))
      ∙ sym (check_more 32 message_generator u u_bits (8 * i) 32 (omega arith))
      ∙ ap (check 32 message_generator u) more
    where
      more : 8 * i + 32 ≡ 8 * (i + 4)
      more = omega arith

      three : i + 2 + 1 ≡ i + 3
      three = omega arith

      first : (get_or (exchanged os) i 0 ≡ get_or os (i + 1) 0) × (get_or (exchanged os) (i + 1) 0 ≡ get_or os i 0)
      first = exchanged_pair os i even (omega arith)

      second : (get_or (exchanged os) (i + 2) 0 ≡ get_or os (i + 2 + 1) 0) × (get_or (exchanged os) (i + 2 + 1) 0 ≡ get_or os (i + 2) 0)
      second = exchanged_pair os (i + 2) (omega arith) (omega arith)

      word : value_of u (8 * i) 32 ≡ get_or os (i + 2) 0 + 256 * get_or os (i + 3) 0 + 65536 * get_or os i 0 + 16777216 * get_or os (i + 1) 0
      word =
          value_joined (exchanged os) (octets-exchanged os octet) i 4
          ∙ omega (arith, first.0, first.1, second.0, second.1, ap (λ (j : ℕ). get_or (exchanged os) j 0) (add-zero i), ap (λ (j : ℕ). get_or os j 0) three, ap (λ (j : ℕ). get_or (exchanged os) j 0) three)

  -- and a last single octet
  pub so_far_last : (i : ℕ) → length os ≡ i + 1 → i % 2 ≡ 0
      → divide 32 message_generator (bit_xor (message_so_far os i) (get_or os i 0 * 2 ^ 24)) zeros 8 ≡ message_so_far os (length os)
  unfolding message_so_far
  so_far_last i e even =
      ap (λ (o : ℕ). divide 32 message_generator (bit_xor (message_so_far os i) (o * 2 ^ 24)) zeros 8) (sym (exchanged_last os i even (omega arith)))
      ∙ octet_more 32 message_generator (omega arith) (exchanged os) i (octets-exchanged os octet i) ∙ ap (message_so_far os) (sym e)

module _ (os : List ℕ) where
  pub message_check-lt : message_check os < 2 ^ 32
  unfolding message_check
  message_check-lt = check-lt 32 message_generator refl (octet_bit (exchanged os)) (octet_bit_bits (exchanged os)) (8 * length os)

  pub message-long : (v r : ℕ) → 4 ≤ length os
      → v ≡ get_or os (length os - 4) 0 + 256 * get_or os (length os - 3) 0 + 65536 * get_or os (length os - 2) 0 + 16777216 * get_or os (length os - 1) 0
      → r ≡ message_check (take (length os - 4) os) → eqb v r ≡ message_good os
  unfolding message_good lowest_number
  message-long v r h e e' =
      ap₂ eqb (e ∙ omega (arith, place 1 (omega arith), place 2 (omega arith), place 3 (omega arith))) e' ∙ enough (length os) 4 _ h
    where
      place : (k : ℕ) → k ≤ 4 → get_or os (length os - 4 + k) 0 ≡ get_or os (length os - (4 - k)) 0
      place k l = ap (λ (i : ℕ). get_or os i 0) (omega arith)

four-octets : (c : ℕ) → c < 2 ^ 32 → c ≡ c % 256 + 256 * (c / 256 % 256) + 65536 * (c / 65536 % 256) + 16777216 * (c / 16777216 % 256)
four-octets c h =
    let second : c / 256 ≡ c / 256 % 256 + 256 * (c / 65536) = omega (arith, shr-shr c 8 8) in
    let third : c / 65536 ≡ c / 65536 % 256 + 256 * (c / 16777216) = omega (arith, shr-shr c 16 8) in
    let last : c / 16777216 ≡ c / 16777216 % 256 = omega arith in
    omega arith

-- octets followed by their check carry it
pub message_carried : (os : List ℕ) → message_good (os ++ lowest_first (message_check os)) ≡ true
unfolding lowest_first
message_carried os =
    sym (message-long s c c (omega (arith, length-append os t)) parts (ap message_check (sym (front os t)))) ∙ eq-eqb c c refl
  where
    c : ℕ
    c = message_check os

    t : List ℕ
    t = lowest_first c

    s : List ℕ
    s = os ++ t

    at : (i : ℕ) → i ≤ 4 → get_or s (length s - i) 0 ≡ get_or t (4 - i) 0
    at i h = from_end os t i h

    parts : c ≡ get_or s (length s - 4) 0 + 256 * get_or s (length s - 3) 0 + 65536 * get_or s (length s - 2) 0 + 16777216 * get_or s (length s - 1) 0
    parts = four-octets c (message_check-lt os) ∙ omega (arith, at 4 (omega arith), at 3 (omega arith), at 2 (omega arith), at 1 (omega arith))
