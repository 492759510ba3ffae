-- A header that is written: 12 octets, which read back.
-- Assumes nothing.
use mathlib.Core.Path.{◌≡◌, refl, sym, ap, subst, ◌∙◌}
use mathlib.Core.Bool.{true}
use mathlib.Core.List.{List}
use Prim.Native.Nat.{ℕ, ◌+◌, ◌*◌, ◌/◌, ◌%◌, ◌<◌}
use native.Mathlib.Omega.{arith}
use lib.Dec.{lit<}
use lib.ListN.{length, get_or}
use Rattle.foundation.specs.Order.{first_failed}
use Rattle.checks.specs.Checks.{header_good}
use Rattle.checks.proofs.HeaderChecks.{header_check-lt, header_carried}
use Rattle.packets.specs.Headers.{header_mask, part, common_of, format_of, header_of, read_header, known_format, header_body, with_check, written_header, common_widths, widths, width_number, write_header}
use Rattle.packets.specs.HeaderClaims.{HeaderReadsBack}
use Rattle.packets.specs.Parts.{format_number, common_fields, last_octet, last_widths, CommonWithin, LastWithin}
use Rattle.packets.specs.declared.header.Common.{Common}
use Rattle.packets.specs.declared.header.Header.{Header}
use Rattle.packets.specs.declared.header.Header.TheVariants.{Response, Unconfirmed, Confirmed}
use Rattle.packets.specs.Headers.{Accepted}
use Rattle.packets.specs.Headers.{HeaderOctets}
use Rattle.packets.proofs.Octets.{all-octets}
use Rattle.packets.proofs.Widths.{first_run, run_passed}
use Rattle.packets.proofs.HeaderParts.{written_is, common_equal}
use Rattle.packets.proofs.HeaderWriting.{common_within, last_within, format-known, number-parts, number-within}
use Rattle.packets.proofs.HeaderReading.{accepted, format_1, format_2, format_3}

module _ (format : ℕ) (c : Common) (last : ℕ) where
  abbrev octets : List ℕ
  octets = with_check (header_body format c last)

  size : length octets ≡ 12
  unfolding with_check header_body
  size = refl

  good : header_good header_mask octets ≡ true
  unfolding with_check
  good = header_carried header_mask (header_body format c last)

  format_back : format < 16 → format_of octets ≡ format
  unfolding with_check header_body
  format_back f = omega arith

  last_back : get_or octets 9 0 ≡ last
  unfolding with_check header_body
  last_back = refl

  common_back : format < 16 → CommonWithin c → common_of octets ≡ c
  unfolding common_of with_check header_body
  common_back f w =
      let first : ℕ = 128 * c.group + 64 * c.requested + 16 * (c.pad / 16) + format in
      let second : ℕ = 16 * c.sap + c.pad % 16 in
      let to : ℕ = c.destination.0 in
      let from : ℕ = c.source.0 in
      let group : part 7 1 first ≡ c.group = omega arith in
      let requested : part 6 1 first ≡ c.requested = omega arith in
      let pad : 16 * part 4 1 first + part 0 4 second ≡ c.pad = omega arith in
      let sap : part 4 4 second ≡ c.sap = omega arith in
      let destination : 65536 * (to / 65536 % 256) + 256 * (to / 256 % 256) + to % 256 ≡ to = omega arith in
      let source : 65536 * (from / 65536 % 256) + 256 * (from / 256 % 256) + from % 256 ≡ from = omega arith in
      let full : part 7 1 (128 * c.full + c.blocks) ≡ c.full = omega arith in
      let blocks : part 0 7 (128 * c.full + c.blocks) ≡ c.blocks = omega arith in
      common_equal group requested pad sap (λ i. record { 0 = destination i }) (λ i. record { 0 = source i }) full blocks

  octets-below : format < 16 → CommonWithin c → last < 256 → (i : ℕ) → get_or octets i 0 < 256
  unfolding with_check header_body
  octets-below f w l = all-octets octets (omega (arith, header_check-lt header_mask (header_body format c last) (lit< tt)))

fields_back : (h : Header) → CommonWithin (common_fields h) → LastWithin h → header_of (written_header h) ≡ h
unfolding written_header with_check header_body
fields_back (Response c x y z) w l =
    sym (format_1 (octets 1 c (64 * x + 8 * y + z)) c (sym (common_back 1 c _ (omega arith) w)) x y z (omega arith) (omega arith) (omega arith) (omega arith))
fields_back (Unconfirmed c x) w l =
    sym (format_2 (octets 2 c x) c (sym (common_back 2 c _ (omega arith) w)) x (omega arith) (omega arith))
fields_back (Confirmed c x y z) w l =
    sym (format_3 (octets 3 c (128 * x + 16 * y + z)) c (sym (common_back 3 c _ (omega arith) w)) x y z (λ e. omega arith) (λ e. omega arith) (omega arith) (omega arith) (omega arith))

last_below : (h : Header) → LastWithin h → last_octet h < 256
last_below (Response c x y z) l = omega arith
last_below (Unconfirmed c x) l = omega arith
last_below (Confirmed c x y z) l = omega arith

format-named : (h : Header) → known_format (format_number h) ≡ true
unfolding known_format
format-named (Response c x y z) = refl
format-named (Unconfirmed c x) = refl
format-named (Confirmed c x y z) = refl

pub written-length : (h : Header) → length (written_header h) ≡ 12
written-length h = ap length (written_is h) ∙ size (format_number h) (common_fields h) (last_octet h)

pub written-good : (h : Header) → header_good header_mask (written_header h) ≡ true
written-good h = ap (header_good header_mask) (written_is h) ∙ good (format_number h) (common_fields h) (last_octet h)

pub written-format : (h : Header) → format_of (written_header h) ≡ format_number h
written-format h = ap format_of (written_is h) ∙ format_back (format_number h) (common_fields h) (last_octet h) (omega (arith, format-known h))

pub written_last : (h : Header) → get_or (written_header h) 9 0 ≡ last_octet h
written_last h = ap (λ (os : List ℕ). get_or os 9 0) (written_is h) ∙ last_back (format_number h) (common_fields h) (last_octet h)

module _ (h : Header) (w : width_number h ≡ 0) where
  common_passed : first_failed (widths (common_widths (common_fields h))) ≡ 0
  common_passed = run_passed (last_widths h) (common_widths (common_fields h)) (sym (number-parts h) ∙ w)

  pub common_fits : CommonWithin (common_fields h)
  common_fits = common_within (common_fields h) common_passed

  pub last_fits : LastWithin h
  last_fits = last_within h (sym (first_run (last_widths h) (common_widths (common_fields h)) common_passed) ∙ sym (number-parts h) ∙ w)

  pub written_common : common_of (written_header h) ≡ common_fields h
  written_common =
      ap common_of (written_is h) ∙ common_back (format_number h) (common_fields h) (last_octet h) (omega (arith, format-known h)) common_fits

  pub written-octets : (i : ℕ) → get_or (written_header h) i 0 < 256
  written-octets i =
      subst (λ (os : List ℕ). get_or os i 0 < 256) (sym (written_is h))
      (octets-below (format_number h) (common_fields h) (last_octet h) (omega (arith, format-known h)) common_fits (last_below h last_fits) i)

  pub reads_back : read_header (written_header h) ≡ Accepted h
  reads_back =
      sym (accepted (written_header h) (written-length h) (written-good h) (ap known_format (written-format h) ∙ format-named h)) ∙ ap Accepted (fields_back h common_fits last_fits)

pub answer_back : (h : Header) → HeaderReadsBack h (write_header h)
unfolding write_header
answer_back h w = ap (λ (r : HeaderOctets). read_header r.octets) (sym (number-within h w)) ∙ reads_back h w
