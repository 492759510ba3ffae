-- The number of a datagram, test by test, and what is read beside it.
-- Assumes nothing.
use Rattle.std.proofs.Common.{◌≡◌, ℕ, ◌-◌, ◌/◌, ◌%◌, ◌<◌, Bool, true, false, cond, T, eqb, List, length, get_or, take, drop, sym, refl, ap, ◌∙◌, subst, arith, length-drop, take_all, eq-eqb, ne_eqb, eqb-true}
use Rattle.foundation.specs.Order.{first_failed}
use Rattle.std.specs.Prelude.{Result, Ok, Err}
use Rattle.foundation.specs.Refusals.{outcome}
use Rattle.foundation.specs.declared.refusal.Refusal.{Refusal}
use Rattle.foundation.proofs.Refusals.{ok_zero, ok_same, err_any}
use Rattle.codes.specs.SlotWord.{Data, slot_number, slot_data, slot_given}
use Rattle.codes.specs.Field.{field_given}
use Rattle.foundation.proofs.Tests.{not-true, every_true, all-eq}
use Rattle.bursts.specs.Bursts.{kind_of, known, burst_slot, burst_field, colour_of, type_of}
use Rattle.datagrams.specs.Datagrams.{prefix, prefixed, frame_of, named_type, burst_of, datagram_number, labels_of, refused_datagram, read_datagram, datagram_given}
use Rattle.datagrams.specs.declared.Datagram.{Datagram}
use Rattle.datagrams.specs.declared.Labels.{Labels}
use Rattle.bursts.proofs.Variants.{slot_good}
use Rattle.bursts.proofs.Numbers.{slot_four}

-- the datagram d passes the first four tests, and its burst has the slot type s
pub record Slotted (d : List ℕ) (s : ℕ) : Type 0 where
  pub size : length d ≡ 53
  pub letters : prefixed d ≡ true
  pub frame : frame_of d ≡ 2
  pub slot : burst_slot (burst_of d) ≡ Data s

-- and its data type is the slot type's, 6 or 7
pub record Kinded (d : List ℕ) (s : ℕ) : Type 0 where
  pub slotted : Slotted d s
  pub same : named_type d ≡ s % 16
  pub kind : known (kind_of (named_type d)) ≡ true

module _ (d : List ℕ) where
  -- the octets from 20 on are the burst
  pub burst-part : length d ≡ 53 → take (length d - 20) (drop 20 d) ≡ burst_of d
  burst-part h = take_all (length d - 20) (drop 20 d) (omega (arith, length-drop 20 d))

  -- ---- the prefix

  pub letters-same : ((i : ℕ) → i < 4 → get_or d i 0 ≡ get_or prefix i 0) → prefixed d ≡ true
  unfolding prefixed
  letters-same h = every_true 4 (λ i. eqb (get_or d i 0) (get_or prefix i 0)) (λ i l. eq-eqb (get_or d i 0) (get_or prefix i 0) (h i l))

  pub letters-at : prefixed d ≡ true → (i : ℕ) → i < 4 → get_or d i 0 ≡ get_or prefix i 0
  unfolding prefixed
  letters-at h i l = all-eq 4 (λ i. get_or d i 0) (λ i. get_or prefix i 0) (subst T (sym h) tt) i l

  pub letter_differs : (i : ℕ) → i < 4 → (get_or d i 0 ≡ get_or prefix i 0 → ⊥) → prefixed d ≡ false
  letter_differs i l h = not-true (prefixed d) (λ e. h (letters-at e i l))

  -- ---- the tests, in their order

  pub number_size : (length d ≡ 53 → ⊥) → datagram_number d ≡ 1
  unfolding datagram_number first_failed
  number_size h = rw (ne_eqb (length d) 53 h)

  pub number-prefix : length d ≡ 53 → prefixed d ≡ false → datagram_number d ≡ 2
  unfolding datagram_number first_failed
  number-prefix h p = rw (eq-eqb (length d) 53 h, p)

  module _ (h : length d ≡ 53) (p : prefixed d ≡ true) where
    pub number-frame : (frame_of d ≡ 2 → ⊥) → datagram_number d ≡ 3
    unfolding datagram_number first_failed
    number-frame f = rw (eq-eqb (length d) 53 h, p, ne_eqb (frame_of d) 2 f)

    pub number-slot : frame_of d ≡ 2 → slot_good (burst_slot (burst_of d)) ≡ false → datagram_number d ≡ 4
    unfolding datagram_number first_failed
    number-slot f s = rw (eq-eqb (length d) 53 h, p, eq-eqb (frame_of d) 2 f, s)

  module _ (s : ℕ) (h : Slotted d s) where
    good : slot_good (burst_slot (burst_of d)) ≡ true
    unfolding slot_number
    good = ap slot_good h.slot

    pub type_read : type_of (burst_of d) ≡ s % 16
    unfolding slot_data
    type_read = ap (λ x. slot_data x % 16) h.slot

    pub number_differs : (named_type d ≡ s % 16 → ⊥) → datagram_number d ≡ 5
    unfolding datagram_number first_failed
    number_differs n =
        rw (eq-eqb (length d) 53 h.size, h.letters, eq-eqb (frame_of d) 2 h.frame, good, ne_eqb (named_type d) (type_of (burst_of d)) (λ e. n (e ∙ type_read)))

    module _ (same : named_type d ≡ s % 16) where
      equal : eqb (named_type d) (type_of (burst_of d)) ≡ true
      equal = eq-eqb (named_type d) (type_of (burst_of d)) (same ∙ sym type_read)

      pub number_other : known (kind_of (named_type d)) ≡ false → datagram_number d ≡ 5
      unfolding datagram_number first_failed
      number_other k = rw (eq-eqb (length d) 53 h.size, h.letters, eq-eqb (frame_of d) 2 h.frame, good, equal, k)

      pub number-field : known (kind_of (named_type d)) ≡ true → datagram_number d ≡ (burst_field (burst_of d)).number
      unfolding datagram_number first_failed
      number-field k =
          rw (eq-eqb (length d) 53 h.size, h.letters, eq-eqb (frame_of d) 2 h.frame, good, equal, k)
          (go (burst_field (burst_of d)).number (eqb (burst_field (burst_of d)).number 0) refl)
        where
          go : (n : ℕ) (t : Bool) → eqb n 0 ≡ t → cond t 0 n ≡ n
          go n true e = sym (eqb-true n 0 e)
          go n false e = refl

  -- ---- what is read beside the number

  pub read-refused : (n : ℕ) → (n ≡ 0 → ⊥) → datagram_number d ≡ n → refused_datagram n ≡ read_datagram d
  unfolding read_datagram
  read-refused n h e = rw (e, ne_eqb n 0 h)

  pub read_number : (read_datagram d).number ≡ datagram_number d
  unfolding read_datagram refused_datagram
  read_number = go (datagram_number d) (eqb (datagram_number d) 0) refl
    where
      go : (n : ℕ) (t : Bool) → eqb n 0 ≡ t
          → (cond t (record { number = 0; labels = labels_of d; colour = colour_of (burst_of d); datatype = named_type d; info = (burst_field (burst_of d)).info }) (refused_datagram n)).number ≡ n
      go n true e = sym (eqb-true n 0 e)
      go n false e = refl

  -- what is given where the number is that of the slot type or of the block field

  contents : Datagram
  contents = let r = read_datagram d in record { labels = r.labels; colour = r.colour; datatype = r.datatype; info = r.info }

  pub slot_refused : length d ≡ 53 → prefixed d ≡ true → frame_of d ≡ 2 → (r : Refusal) → slot_given (burst_slot (burst_of d)) ≡ Err r
      → Err r ≡ datagram_given (read_datagram d)
  unfolding slot_given slot_number datagram_given contents
  slot_refused h p f r e =
      let b : List ℕ = burst_of d in
      let size : length b ≡ 33 = omega (arith, length-drop 20 d) in
      let n = slot_four b r size e in
      sym (ap (λ (n : ℕ). outcome n contents) (read_number ∙ number-slot h p f (ap slot_good n) ∙ sym (ap slot_number n))
      ∙ err_any (slot_number (burst_slot b)) (slot_data (burst_slot b)) contents r e)

  module _ (s : ℕ) (k : Kinded d s) where
    field-number : datagram_number d ≡ (burst_field (burst_of d)).number
    field-number = number-field s k.slotted k.same k.kind

    pub field_refused : (r : Refusal) → field_given (burst_field (burst_of d)) ≡ Err r → Err r ≡ datagram_given (read_datagram d)
    unfolding field_given datagram_given contents
    field_refused r e =
        let f = burst_field (burst_of d) in
        sym (ap (λ (n : ℕ). outcome n contents) (read_number ∙ field-number) ∙ err_any f.number f.info contents r e)

    pub contents_read : (burst_field (burst_of d)).number ≡ 0
        → record { number = 0; labels = labels_of d; colour = s / 16; datatype = s % 16; info = (burst_field (burst_of d)).info } ≡ read_datagram d
    unfolding read_datagram slot_data
    contents_read z = rw (field-number, z, k.slotted.slot, k.same)

    pub field_good : (l : Labels) → l ≡ labels_of d → (os : List ℕ) → field_given (burst_field (burst_of d)) ≡ Ok os
        → Ok (record { labels = l; colour = s / 16; datatype = named_type d; info = os }) ≡ datagram_given (read_datagram d)
    unfolding field_given datagram_given outcome
    field_good l same os e =
        let f = burst_field (burst_of d) in
        let made : Labels → ℕ → List ℕ → Result Datagram Refusal = λ x t i. Ok (record { labels = x; colour = s / 16; datatype = t; info = i }) in
        ap (λ (x : Labels). made x (named_type d) os) same ∙ ap (λ (t : ℕ). made (labels_of d) t os) k.same
        ∙ sym (ap (made (labels_of d) (s % 16)) (ok_same f.number f.info os e)) ∙ ap datagram_given (contents_read (ok_zero f.number f.info os e))
