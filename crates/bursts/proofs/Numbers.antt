-- The number of a burst, row by row of its tests, and what is read and written beside it.
-- Assumes nothing.
use mathlib.Core.Path.{◌≡◌, refl, sym, ap, ◌∙◌}
use mathlib.Core.Bool.{Bool, true, false, cond}
use mathlib.Core.List.{List, []}
use mathlib.Core.Logic.{⊎_elim}
use Prim.Native.Nat.{ℕ, ◌+◌, ◌/◌, ◌%◌, ◌^◌, ◌≤◌, ◌<◌}
use native.Mathlib.Decide.{ℕ_discrete}
use native.Mathlib.Omega.{arith}
use lib.Dec.{eqb}
use lib.ListN.{length, replicate}
use borrow.Author.Tests.{eq-eqb, ne_eqb, eqb-true, lt-ltb, le-ltb}
use Rattle.foundation.specs.Bits.{octet_bit}
use Rattle.foundation.proofs.Runs.{followed_bits, value_lt, octet_bit_bits}
use Rattle.foundation.specs.Order.{first_failed}
use Rattle.foundation.specs.Refusals.{outcome}
use Rattle.foundation.specs.declared.refusal.Refusal.{Refusal}
use Rattle.foundation.proofs.Refusals.{ok_zero, ok_same, err_any}
use Rattle.std.specs.Prelude.{Result, Ok, Err}
use Rattle.codes.specs.SlotWord.{Data, NoCodeword, TooWide, read_slot_type, slot_number, slot_data, slot_given}
use Rattle.codes.specs.Field.{read_field, field_given}
use Rattle.codes.proofs.SlotReading.{corrects, not_wide, given_refusal}
use Rattle.bursts.specs.Bursts.{kind_of, known, slot_bits, field_of, burst_slot, burst_field, colour_of, type_of, burst_number, refused_burst, read_burst, burst_given, burst_part_tests, written_burst, write_burst}
use Rattle.bursts.specs.BurstClaims.{Near}
use Rattle.bursts.specs.declared.burst.Burst.{Burst}
use Rattle.bursts.specs.declared.burst.Sync.{Sync}
use Rattle.bursts.proofs.Variants.{slot_good}

-- ---- reading

module _ (b : List ℕ) where
  pub slot-size : (length b ≡ 33 → ⊥) → TooWide ≡ burst_slot b
  unfolding burst_slot
  slot-size h = rw (ne_eqb (length b) 33 h)

  pub slot_read : length b ≡ 33 → read_slot_type (slot_bits b) ≡ burst_slot b
  unfolding burst_slot
  slot_read h = rw (eq-eqb (length b) 33 h)

  slot_lt : slot_bits b < 2 ^ 20
  unfolding slot_bits
  slot_lt =
      value_lt _ (followed_bits 10 (λ p. octet_bit b (98 + p)) (λ p. octet_bit b (156 + p)) (λ p. octet_bit_bits b (98 + p)) (λ p. octet_bit_bits b (156 + p))) 0 20

  -- a codeword near is the slot type
  pub near_slot : (d : ℕ) → length b ≡ 33 → Near b d → burst_slot b ≡ Data d
  near_slot d h n = sym (slot_read h) ∙ corrects d (slot_bits b) n.0 slot_lt n.1

  pub field-size : (length b ≡ 33 → ⊥) → read_field [] ≡ burst_field b
  unfolding burst_field
  field-size h = rw (ne_eqb (length b) 33 h)

  pub field-read : length b ≡ 33 → read_field (field_of b) ≡ burst_field b
  unfolding burst_field
  field-read h = rw (eq-eqb (length b) 33 h)

  -- the tests, in their order

  pub number_size : (length b ≡ 33 → ⊥) → burst_number b ≡ 1
  unfolding burst_number first_failed
  number_size h = rw (ne_eqb (length b) 33 h)

  pub number-slot : length b ≡ 33 → slot_good (burst_slot b) ≡ false → burst_number b ≡ 4
  unfolding burst_number first_failed
  number-slot h s = rw (eq-eqb (length b) 33 h, s)

  module _ (d : ℕ) (h : length b ≡ 33) (s : burst_slot b ≡ Data d) where
    good : slot_good (burst_slot b) ≡ true
    unfolding slot_number
    good = ap slot_good s

    type_read : type_of b ≡ d % 16
    unfolding slot_data
    type_read = ap (λ x. slot_data x % 16) s

    pub number_type : known (kind_of (d % 16)) ≡ false → burst_number b ≡ 5
    unfolding burst_number first_failed
    number_type k = rw (eq-eqb (length b) 33 h, good, type_read, k)

    pub number-field : known (kind_of (d % 16)) ≡ true → burst_number b ≡ (burst_field b).number
    unfolding burst_number first_failed
    number-field k = rw (eq-eqb (length b) 33 h, good, type_read, k) (go (burst_field b).number (eqb (burst_field b).number 0) refl)
      where
        go : (n : ℕ) (t : Bool) → eqb n 0 ≡ t → cond t 0 n ≡ n
        go n true e = sym (eqb-true n 0 e)
        go n false e = refl

  -- what is read beside the number

  pub read-refused : (n : ℕ) → (n ≡ 0 → ⊥) → burst_number b ≡ n → refused_burst n ≡ read_burst b
  unfolding read_burst
  read-refused n h e = rw (e, ne_eqb n 0 h)

  pub read_number : (read_burst b).number ≡ burst_number b
  unfolding read_burst
  read_number = go (burst_number b) (eqb (burst_number b) 0) refl
    where
      go : (n : ℕ) (t : Bool) → eqb n 0 ≡ t → (cond t (record { number = 0; colour = colour_of b; datatype = type_of b; info = (burst_field b).info }) (refused_burst n)).number ≡ n
      go n true e = sym (eqb-true n 0 e)
      go n false e = refl

  -- what is read of a burst with the slot type d and data type 6 or 7, by its block field
  module _ (d : ℕ) (h : length b ≡ 33) (s : burst_slot b ≡ Data d) (k : known (kind_of (d % 16)) ≡ true) where
    pub field_refused : (r : Refusal) → field_given (burst_field b) ≡ Err r → Err r ≡ burst_given (read_burst b)
    unfolding field_given burst_given
    field_refused r e =
        let c : Burst = record { colour = (read_burst b).colour; datatype = (read_burst b).datatype; info = (read_burst b).info } in
        sym (ap (λ (n : ℕ). outcome n c) (read_number ∙ number-field d h s k) ∙ err_any (burst_field b).number (burst_field b).info c r e)

    pub contents_read : (burst_field b).number ≡ 0 → record { number = 0; colour = d / 16; datatype = d % 16; info = (burst_field b).info } ≡ read_burst b
    unfolding read_burst slot_data
    contents_read z = rw (number-field d h s k, z, s)

    pub field_good : (os : List ℕ) → field_given (burst_field b) ≡ Ok os → Ok (record { colour = d / 16; datatype = d % 16; info = os }) ≡ burst_given (read_burst b)
    unfolding field_given burst_given outcome
    field_good os e =
        let n = (burst_field b).number in
        let i = (burst_field b).info in
        let made : List ℕ → Result Burst Refusal = λ x. Ok (record { colour = d / 16; datatype = d % 16; info = x }) in
        sym (ap made (ok_same n i os e)) ∙ ap burst_given (contents_read (ok_zero n i os e))

  -- no slot type is given: the size, or no codeword near

  pub slot_four : (r : Refusal) → length b ≡ 33 → slot_given (burst_slot b) ≡ Err r → burst_slot b ≡ NoCodeword
  slot_four r h e = ⊎_elim (λ n. n) (λ w. absurd (not_wide (slot_bits b) slot_lt (slot_read h ∙ w))) (given_refusal (burst_slot b) r e)

  slot_same : (r : Refusal) → slot_given (burst_slot b) ≡ Err r → burst_number b ≡ slot_number (burst_slot b)
  unfolding slot_number
  slot_same r e = go (ℕ_discrete (length b) 33)
    where
      go : Dec (length b ≡ 33) → burst_number b ≡ slot_number (burst_slot b)
      go (yes h) = let n = slot_four r h e in number-slot h (ap slot_good n) ∙ sym (ap slot_number n)
      go (no h) = number_size h ∙ ap slot_number (slot-size h)

  pub slot_refused : (r : Refusal) → slot_given (burst_slot b) ≡ Err r → Err r ≡ burst_given (read_burst b)
  unfolding slot_given burst_given
  slot_refused r e =
      let c : Burst = record { colour = (read_burst b).colour; datatype = (read_burst b).datatype; info = (read_burst b).info } in
      sym (ap (λ (n : ℕ). outcome n c) (read_number ∙ slot_same r e) ∙ err_any (slot_number (burst_slot b)) (slot_data (burst_slot b)) c r e)

  pub slot_sized : (d : ℕ) → burst_slot b ≡ Data d → length b ≡ 33
  slot_sized d e = go (ℕ_discrete (length b) 33)
    where
      go : Dec (length b ≡ 33) → length b ≡ 33
      go (yes h) = h
      go (no h) = absurd (let q : TooWide ≡ Data d = slot-size h ∙ e in let z : ◌≡◌ {A = ℕ} 0 1 = cc in omega arith)

-- ---- writing

module _ (colour type : ℕ) (info : List ℕ) (sync : Sync) where
  pub write_wide : 16 ≤ colour → record { number = 16; octets = replicate 33 0 } ≡ write_burst colour type info sync
  unfolding write_burst burst_part_tests first_failed
  write_wide h = rw (le-ltb colour 16 h)

  pub write_other : colour < 16 → known (kind_of type) ≡ false → record { number = 16; octets = replicate 33 0 } ≡ write_burst colour type info sync
  unfolding write_burst burst_part_tests first_failed
  write_other h k = rw (lt-ltb colour 16 h, k)

  pub write_good : colour < 16 → known (kind_of type) ≡ true → record { number = 0; octets = written_burst colour type info sync } ≡ write_burst colour type info sync
  unfolding write_burst burst_part_tests first_failed
  write_good h k = rw (lt-ltb colour 16 h, k)
