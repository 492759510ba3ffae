-- The octets of a burst with a given block field, slot type and sync: each is made of parts of these.
-- Assumes nothing.
use mathlib.Core.Path.{◌≡◌, refl, sym, ap, ap₂, ◌∙◌}
use mathlib.Core.List.{List}
use Prim.Native.Nat.{ℕ, ◌+◌, ◌*◌, ◌-◌, ◌/◌, ◌%◌, ◌^◌, ◌≤◌, ◌<◌}
use native.Mathlib.Omega.{arith}
use lib.Dec.{lit≤}
use lib.ListN.{get_or}
use Rattle.foundation.specs.Bits.{Bits, digits, octet_bit, followed, value_of, octets}
use Rattle.foundation.proofs.Runs.{digits_bits, octet_bit_bits, followed_bits, octet_at}
use Rattle.codes.specs.SlotWord.{slot_word}
use Rattle.codes.specs.Field.{written_field}
use Rattle.bursts.specs.Bursts.{sync_word, burst_bits, written_burst}
use Rattle.bursts.specs.declared.burst.Sync.{Sync}
use Rattle.foundation.proofs.RunParts.{value_before, value_after, value_across, value_shifted, value_in_digits, value_last_digits, value_in_octet, value_last_octet}

module _ (f : List ℕ) (slot sync : ℕ) where
  -- what is left of the burst behind each of its parts
  abbrev field_end : ℕ → ℕ
  field_end p = octet_bit f (98 + p)

  abbrev slot_end : ℕ → ℕ
  slot_end p = digits 20 slot (10 + p)

  abbrev behind_sync : ℕ → ℕ
  behind_sync = followed 10 slot_end field_end

  abbrev behind_slot : ℕ → ℕ
  behind_slot = followed 48 (digits 48 sync) behind_sync

  abbrev behind_field : ℕ → ℕ
  behind_field = followed 10 (digits 20 slot) behind_slot

  pub burst_bits_lem : Bits (burst_bits f slot sync)
  unfolding burst_bits
  burst_bits_lem =
      followed_bits 98 (octet_bit f) behind_field (octet_bit_bits f)
      (followed_bits 10 (digits 20 slot) behind_slot (digits_bits 20 slot)
      (followed_bits 48 (digits 48 sync) behind_sync (digits_bits 48 sync)
      (followed_bits 10 slot_end field_end (λ p. digits_bits 20 slot (10 + p)) (λ p. octet_bit_bits f (98 + p)))))

  -- ---- n bits of a burst from position `at` on, where they lie in one part

  module _ (at n : ℕ) where
    behind-field : 98 ≤ at → value_of (burst_bits f slot sync) at n ≡ value_of behind_field (at - 98) n
    unfolding burst_bits
    behind-field h = value_after 98 (octet_bit f) behind_field at n h

    behind-slot : 108 ≤ at → value_of (burst_bits f slot sync) at n ≡ value_of behind_slot (at - 108) n
    behind-slot h =
        behind-field (omega arith) ∙ value_after 10 (digits 20 slot) behind_slot (at - 98) n (omega arith)
        ∙ ap (λ (p : ℕ). value_of behind_slot p n) place
      where
        place : at - 98 - 10 ≡ at - 108
        place = omega arith

    behind_sync_lem : 156 ≤ at → value_of (burst_bits f slot sync) at n ≡ value_of behind_sync (at - 156) n
    behind_sync_lem h =
        behind-slot (omega arith) ∙ value_after 48 (digits 48 sync) behind_sync (at - 108) n (omega arith)
        ∙ ap (λ (p : ℕ). value_of behind_sync p n) place
      where
        place : at - 108 - 48 ≡ at - 156
        place = omega arith

    pub in_field : at + n ≤ 98 → value_of (burst_bits f slot sync) at n ≡ value_of (octet_bit f) at n
    unfolding burst_bits
    in_field h = value_before 98 (octet_bit f) behind_field at n h

    pub in_slot : 98 ≤ at → at + n ≤ 108 → value_of (burst_bits f slot sync) at n ≡ value_of (digits 20 slot) (at - 98) n
    in_slot h l = behind-field h ∙ value_before 10 (digits 20 slot) behind_slot (at - 98) n (omega arith)

    pub in_sync : 108 ≤ at → at + n ≤ 156 → value_of (burst_bits f slot sync) at n ≡ value_of (digits 48 sync) (at - 108) n
    in_sync h l = behind-slot h ∙ value_before 48 (digits 48 sync) behind_sync (at - 108) n (omega arith)

    pub in_slot_end : 156 ≤ at → at + n ≤ 166 → value_of (burst_bits f slot sync) at n ≡ value_of (digits 20 slot) (at - 146) n
    in_slot_end h l =
        behind_sync_lem h ∙ value_before 10 slot_end field_end (at - 156) n (omega arith) ∙ value_shifted (digits 20 slot) 10 (at - 156) n
        ∙ ap (λ (p : ℕ). value_of (digits 20 slot) p n) place
      where
        place : 10 + (at - 156) ≡ at - 146
        place = omega arith

    pub in_field_end : 166 ≤ at → value_of (burst_bits f slot sync) at n ≡ value_of (octet_bit f) (at - 68) n
    in_field_end h =
        behind_sync_lem (omega arith) ∙ value_after 10 slot_end field_end (at - 156) n (omega arith) ∙ value_shifted (octet_bit f) 98 (at - 156 - 10) n
        ∙ ap (λ (p : ℕ). value_of (octet_bit f) p n) place
      where
        place : 98 + (at - 156 - 10) ≡ at - 68
        place = omega arith

  -- ---- the octets

  pub octet_field : (j : ℕ) → j < 12 → get_or f j 0 < 256 → get_or f j 0 ≡ value_of (burst_bits f slot sync) (8 * j) 8
  octet_field j h l = sym (in_field (8 * j) 8 (omega arith) ∙ octet_at f j l)

  pub octet_12 : (j : ℕ) → j ≡ 12 → value_of (burst_bits f slot sync) (8 * j) 8 ≡ get_or f 12 0 / 64 % 4 * 64 + slot / 2 ^ 14 % 64
  octet_12 j e =
      ap (λ (k : ℕ). value_of (burst_bits f slot sync) (8 * k) 8) e
      ∙ value_across (burst_bits f slot sync) 96 2 6 (get_or f 12 0 / 64 % 4) (slot / 2 ^ 14 % 64)
      (in_field 96 2 (lit≤ tt) ∙ value_in_octet f 12 0 2 (lit≤ tt))
      (in_slot 98 6 (lit≤ tt) (lit≤ tt) ∙ value_in_digits 20 slot 0 6 (lit≤ tt))

  pub octet_13 : (j : ℕ) → j ≡ 13 → value_of (burst_bits f slot sync) (8 * j) 8 ≡ slot / 2 ^ 10 % 16 * 16 + sync / 2 ^ 44 % 16
  octet_13 j e =
      ap (λ (k : ℕ). value_of (burst_bits f slot sync) (8 * k) 8) e
      ∙ value_across (burst_bits f slot sync) 104 4 4 (slot / 2 ^ 10 % 16) (sync / 2 ^ 44 % 16)
      (in_slot 104 4 (lit≤ tt) (lit≤ tt) ∙ value_in_digits 20 slot 6 4 (lit≤ tt))
      (in_sync 108 4 (lit≤ tt) (lit≤ tt) ∙ value_in_digits 48 sync 0 4 (lit≤ tt))

  pub octet_sync : (j : ℕ) → 13 < j → j < 19 → value_of (burst_bits f slot sync) (8 * j) 8 ≡ sync / 2 ^ (148 - 8 * j) % 256
  octet_sync j h l =
      in_sync (8 * j) 8 (omega arith) (omega arith) ∙ value_in_digits 48 sync (8 * j - 108) 8 (omega arith)
      ∙ ap (λ (e : ℕ). sync / 2 ^ e % 256) place
    where
      place : 48 - (8 * j - 108) - 8 ≡ 148 - 8 * j
      place = omega arith

  pub octet_19 : (j : ℕ) → j ≡ 19 → value_of (burst_bits f slot sync) (8 * j) 8 ≡ sync % 16 * 16 + slot / 2 ^ 6 % 16
  octet_19 j e =
      ap (λ (k : ℕ). value_of (burst_bits f slot sync) (8 * k) 8) e
      ∙ value_across (burst_bits f slot sync) 152 4 4 (sync % 16) (slot / 2 ^ 6 % 16)
      (in_sync 152 4 (lit≤ tt) (lit≤ tt) ∙ value_last_digits 48 sync 44 4 refl)
      (in_slot_end 156 4 (lit≤ tt) (lit≤ tt) ∙ value_in_digits 20 slot 10 4 (lit≤ tt))

  pub octet_20 : (j : ℕ) → j ≡ 20 → value_of (burst_bits f slot sync) (8 * j) 8 ≡ slot % 64 * 4 + get_or f 12 0 / 16 % 4
  octet_20 j e =
      ap (λ (k : ℕ). value_of (burst_bits f slot sync) (8 * k) 8) e
      ∙ value_across (burst_bits f slot sync) 160 6 2 (slot % 64) (get_or f 12 0 / 16 % 4)
      (in_slot_end 160 6 (lit≤ tt) (lit≤ tt) ∙ value_last_digits 20 slot 14 6 refl)
      (in_field_end 166 2 (lit≤ tt) ∙ value_in_octet f 12 2 2 (lit≤ tt))

  pub octet_field_end : (j : ℕ) → 20 < j → value_of (burst_bits f slot sync) (8 * j) 8 ≡ get_or f (j - 9) 0 % 16 * 16 + get_or f (j - 8) 0 / 16 % 16
  octet_field_end j h =
      in_field_end (8 * j) 8 (omega arith)
      ∙ value_across (octet_bit f) (8 * j - 68) 4 4 (get_or f (j - 9) 0 % 16) (get_or f (j - 8) 0 / 16 % 16)
      (ap (λ (p : ℕ). value_of (octet_bit f) p 4) high ∙ value_last_octet f (j - 9) 4 4 refl)
      (ap (λ (p : ℕ). value_of (octet_bit f) p 4) low ∙ value_in_octet f (j - 8) 0 4 (lit≤ tt))
    where
      high : 8 * j - 68 ≡ 8 * (j - 9) + 4
      high = omega arith

      low : 8 * j - 68 + 4 ≡ 8 * (j - 8) + 0
      low = omega arith

-- ---- the whole burst

-- os are the octets of a burst with this block field, slot type and sync
pub octets-written : (colour type : ℕ) (info : List ℕ) (sync : Sync) (f : List ℕ) (w s : ℕ) (os : List ℕ) → f ≡ written_field info
    → w ≡ slot_word (16 * colour + type) → s ≡ sync_word sync → os ≡ octets 33 (burst_bits f w s) → os ≡ written_burst colour type info sync
unfolding written_burst
octets-written colour type info sync f w s os e₁ e₂ e₃ e₄ =
    e₄ ∙ ap₂ (λ (x : List ℕ) (y : ℕ). octets 33 (burst_bits x y s)) e₁ e₂
    ∙ ap (λ (z : ℕ). octets 33 (burst_bits (written_field info) (slot_word (16 * colour + type)) z)) e₃
