-- Reserved bits are ignored on reading.
-- Assumes nothing.
use mathlib.Core.Path.{◌≡◌, refl, sym, ap, ◌∙◌}
use mathlib.Core.Bool.{Bool, true, false}
use mathlib.Core.List.{List}
use Prim.Native.Nat.{ℕ, ◌+◌, ◌*◌, ◌/◌, ◌%◌}
use native.Mathlib.Omega.{arith}
use native.Mathlib.Decide.{ℕ_discrete}
use lib.ListN.{length, get_or}
use Rattle.checks.specs.Checks.{header_good}
use Rattle.packets.specs.Headers.{header_mask, part, common_of, format_of, header_of, known_format, read_header}
use Rattle.packets.specs.HeaderClaims.{SameButReserved}
use Rattle.packets.specs.Headers.{Accepted}
use Rattle.packets.proofs.HeaderReading.{format-refused, accepted, format_1, format_2, format_3}

-- parts of octet 0 from what is above and below its bit 5
bit_7 : (o : ℕ) → part 7 1 o ≡ part 1 1 (o / 64)
bit_7 o = omega arith

bit_6 : (o : ℕ) → part 6 1 o ≡ part 0 1 (o / 64)
bit_6 o = omega arith

bit_4 : (o : ℕ) → part 4 1 o ≡ part 4 1 (o % 32)
bit_4 o = omega arith

module _ (h k : List ℕ) (same : SameButReserved h k) where
  format-same : format_of h ≡ format_of k
  format-same = omega arith

  common_same : common_of h ≡ common_of k
  unfolding common_of
  common_same =
      let group = bit_7 (get_or h 0 0) ∙ ap (part 1 1) same.above ∙ sym (bit_7 (get_or k 0 0)) in
      let requested = bit_6 (get_or h 0 0) ∙ ap (part 0 1) same.above ∙ sym (bit_6 (get_or k 0 0)) in
      let top = bit_4 (get_or h 0 0) ∙ ap (part 4 1) same.below ∙ sym (bit_4 (get_or k 0 0)) in
      let o1 = same.between 1 (omega arith) (omega arith) in
      let o2 = same.between 2 (omega arith) (omega arith) in
      let o3 = same.between 3 (omega arith) (omega arith) in
      let o4 = same.between 4 (omega arith) (omega arith) in
      let o5 = same.between 5 (omega arith) (omega arith) in
      let o6 = same.between 6 (omega arith) (omega arith) in
      let o7 = same.between 7 (omega arith) (omega arith) in
      let o8 = same.between 8 (omega arith) (omega arith) in
      λ i.
      record {
        group = group i;
        requested = requested i;
        pad = 16 * top i + part 0 4 (o1 i);
        sap = part 4 4 (o1 i);
        destination = record { 0 = 65536 * o2 i + 256 * o3 i + o4 i };
        source = record { 0 = 65536 * o5 i + 256 * o6 i + o7 i };
        full = part 7 1 (o8 i);
        blocks = part 0 7 (o8 i);
      }

  fields-same : header_of h ≡ header_of k
  fields-same = go (ℕ_discrete (format_of h) 1) (ℕ_discrete (format_of h) 2)
    where
      go : Dec (format_of h ≡ 1) → Dec (format_of h ≡ 2) → header_of h ≡ header_of k
      go (yes e) d =
          let l = same.high (λ f. omega arith) in
          sym (format_1 h _ refl _ _ _ e refl refl refl)
          ∙ format_1 k _ common_same _ _ _ (omega (arith, format-same)) (ap (part 6 2) l) (ap (part 3 3) l) (ap (part 0 3) l)
      go (no n) (yes e) = sym (format_2 h _ refl _ e refl) ∙ format_2 k _ common_same _ (omega (arith, format-same)) (omega arith)
      go (no n) (no m) =
          let l = same.high m in
          sym (format_3 h _ refl _ _ _ n m refl refl refl)
          ∙ format_3 k _ common_same _ _ _ (λ e. omega (arith, format-same)) (λ e. omega (arith, format-same)) (ap (part 7 1) l) (ap (part 4 3) l) (ap (part 0 4) l)

  module _ (hs : length h ≡ 12) (ks : length k ≡ 12) (hg : header_good header_mask h ≡ true) (kg : header_good header_mask k ≡ true) where
    by_format : (t : Bool) → known_format (format_of h) ≡ t → read_header h ≡ read_header k
    by_format true e = sym (accepted h hs hg e) ∙ ap Accepted fields-same ∙ accepted k ks kg (ap known_format (sym format-same) ∙ e)
    by_format false e = sym (format-refused h hs hg e) ∙ format-refused k ks kg (ap known_format (sym format-same) ∙ e)

    pub reserved_ignored : read_header h ≡ read_header k
    reserved_ignored = by_format (known_format (format_of h)) refl
