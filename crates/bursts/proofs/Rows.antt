-- Each number of reading and writing a burst is given exactly if its row of the table is true.
-- Assumes nothing.
use mathlib.Core.Path.{◌≡◌, refl, sym, ap, subst, ◌∙◌}
use mathlib.Core.Bool.{Bool, true, false, cond}
use mathlib.Core.List.{List}
use mathlib.Core.Logic.{◌⊎◌, inl, inr, ◌≢◌, ◌↔◌}
use Prim.Native.Nat.{ℕ, ◌%◌, ◌≤◌, ◌<◌}
use native.Mathlib.Decide.{ℕ_discrete, dec_lt}
use native.Mathlib.Omega.{arith}
use lib.ListN.{length}
use borrow.Author.Tests.{eq-eqb}
use Rattle.foundation.specs.Order.{first_failed}
use Rattle.foundation.proofs.Tests.{exactly}
use Rattle.codes.specs.SlotWord.{SlotType, Data, NoCodeword, TooWide, read_slot_type, slot_number}
use Rattle.codes.specs.Field.{corrected_field, rows_good, columns_good, reserved_clear, matrix_tests, field_number, read_field}
use Rattle.codes.proofs.SlotReading.{reads_near}
use Rattle.bursts.specs.Bursts.{kind_of, known, slot_bits, field_of, read_burst, write_burst}
use Rattle.bursts.specs.BurstClaims.{Near, Untyped, OtherType, FieldGives, BurstRow, burst-size, slot_type_lem, data_type, field-good, field_code, field-reserved}
use Rattle.bursts.specs.declared.burst.Sync.{Sync}
use Rattle.bursts.proofs.Variants.{slot_good}
use Rattle.bursts.proofs.Numbers.{slot_read, near_slot, field-read, number_size, number-slot, number_type, number-field, read_number, write_wide, write_other, write_good}
use Rattle.bursts.proofs.ReadingBack.{field-length}

-- the numbers of a block field of 25 octets
abbrev pub FieldNumber : ℕ → Type 0
FieldNumber n = (n ≡ 0) ⊎ (n ≡ 6) ⊎ (n ≡ 7)

pub field-numbers : (f : List ℕ) → length f ≡ 25 → FieldNumber (field_number f)
unfolding field_number first_failed matrix_tests
field-numbers f h = rw (eq-eqb (length f) 25 h) (go (rows_good m) (columns_good m) (reserved_clear m))
  where
    m : ℕ → ℕ → ℕ
    m = corrected_field f

    go : (x y z : Bool) → FieldNumber (cond x (cond y (cond z 0 7) 6) 6)
    go true true true = inl refl
    go true true false = inr (inr refl)
    go true false z = inr (inl refl)
    go false y z = inr (inl refl)

module _ (b : List ℕ) where
  -- each row gives its number

  one_rule : length b ≢ 33 → (read_burst b).number ≡ 1
  one_rule h = read_number b ∙ number_size b h

  four_rule : Untyped b → (read_burst b).number ≡ 4
  unfolding slot_number
  four_rule u = read_number b ∙ number-slot b u.0 (ap slot_good (sym (slot_read b u.0)) ∙ go (read_slot_type (slot_bits b)) refl)
    where
      go : (s : SlotType) → read_slot_type (slot_bits b) ≡ s → slot_good s ≡ false
      go (Data d) e = let n = reads_near (slot_bits b) d e in absurd (u.1 d (n.0, n.2))
      go NoCodeword e = refl
      go TooWide e = refl

  five_rule : OtherType b → (read_burst b).number ≡ 5
  five_rule (h, d, near, kind) = read_number b ∙ number_type b d h (near_slot b d h near) kind

  field_rule : (n : ℕ) → FieldGives n b → (read_burst b).number ≡ n
  unfolding read_field
  field_rule n (h, d, near, kind, e) =
      read_number b ∙ number-field b d h (near_slot b d h near) kind ∙ sym (ap (λ x. x.number) (field-read b h)) ∙ e

  row_number : (n : ℕ) → BurstRow b n → (read_burst b).number ≡ n
  row_number _ (burst-size h) = one_rule h
  row_number _ (slot_type_lem h) = four_rule h
  row_number _ (data_type h) = five_rule h
  row_number _ (field-good h) = field_rule 0 h
  row_number _ (field_code h) = field_rule 6 h
  row_number _ (field-reserved h) = field_rule 7 h

  -- one of the rows is true: by the block field, where the data type is known
  field_row : (n : ℕ) → FieldGives n b → FieldNumber n → (n : ℕ) × BurstRow b n
  field_row n h (inl e) = (0, field-good (subst (λ (k : ℕ). FieldGives k b) e h))
  field_row n h (inr (inl e)) = (6, field_code (subst (λ (k : ℕ). FieldGives k b) e h))
  field_row n h (inr (inr e)) = (7, field-reserved (subst (λ (k : ℕ). FieldGives k b) e h))

  typed_row : (d : ℕ) → length b ≡ 33 → Near b d → (k : Bool) → known (kind_of (d % 16)) ≡ k → (n : ℕ) × BurstRow b n
  typed_row d h near true k = field_row (field_number (field_of b)) (h, d, near, k, refl) (field-numbers (field_of b) (field-length b))
  typed_row d h near false k = (5, data_type (h, d, near, k))

  -- no codeword is near where the slot type is refused
  untyped : length b ≡ 33 → slot_good (read_slot_type (slot_bits b)) ≡ false → Untyped b
  unfolding slot_number
  untyped h e = (h, none)
    where
      none : (d : ℕ) → Near b d → ⊥
      none d near =
          let good : slot_good (read_slot_type (slot_bits b)) ≡ true = ap slot_good (slot_read b h ∙ near_slot b d h near) in
          let z : ◌≡◌ {A = ℕ} 0 1 = cc in
          omega arith

  slot_row : length b ≡ 33 → (s : SlotType) → read_slot_type (slot_bits b) ≡ s → (n : ℕ) × BurstRow b n
  unfolding slot_number
  slot_row h (Data d) e = let n = reads_near (slot_bits b) d e in typed_row d h (n.0, n.2) (known (kind_of (d % 16))) refl
  slot_row h NoCodeword e = (4, slot_type_lem (untyped h (ap slot_good e)))
  slot_row h TooWide e = (4, slot_type_lem (untyped h (ap slot_good e)))

  some_row : Dec (length b ≡ 33) → (n : ℕ) × BurstRow b n
  some_row (yes h) = slot_row h (read_slot_type (slot_bits b)) refl
  some_row (no h) = (1, burst-size h)

  pub numbers : (n : ℕ) → ((read_burst b).number ≡ n) ↔ BurstRow b n
  numbers n =
      let (k, r) : (n : ℕ) × BurstRow b n = some_row (ℕ_discrete (length b) 33) in
      exactly (BurstRow b) (read_burst b).number k n r (row_number k r) (row_number n)

-- ---- writing

module _ (colour type : ℕ) (info : List ℕ) (sync : Sync) where
  sixteen_rule : (16 ≤ colour) ⊎ (known (kind_of type) ≡ false) → (write_burst colour type info sync).number ≡ 16
  sixteen_rule (inl h) = sym (ap (λ x. x.number) (write_wide colour type info sync h))
  sixteen_rule (inr k) = go (dec_lt colour 16)
    where
      go : Dec (colour < 16) → (write_burst colour type info sync).number ≡ 16
      go (yes h) = sym (ap (λ x. x.number) (write_other colour type info sync h k))
      go (no h) = sym (ap (λ x. x.number) (write_wide colour type info sync (omega arith)))

  sixteen_says : (write_burst colour type info sync).number ≡ 16 → (16 ≤ colour) ⊎ (known (kind_of type) ≡ false)
  sixteen_says e = go (dec_lt colour 16) (known (kind_of type)) refl
    where
      go : Dec (colour < 16) → (k : Bool) → known (kind_of type) ≡ k → (16 ≤ colour) ⊎ (known (kind_of type) ≡ false)
      go (no h) k f = inl (omega arith)
      go (yes h) true f = absurd (omega (arith, ap (λ x. x.number) (write_good colour type info sync h f)))
      go (yes h) false f = inr f

  pub sixteen : ((write_burst colour type info sync).number ≡ 16) ↔ ((16 ≤ colour) ⊎ (known (kind_of type) ≡ false))
  sixteen = (sixteen_says, sixteen_rule)
