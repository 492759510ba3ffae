-- What is written of a header: by the widths of its fields.
-- Assumes nothing.
use mathlib.Core.Path.{◌≡◌, refl, sym, ap, ◌∙◌}
use mathlib.Core.Bool.{Bool, true, false}
use mathlib.Core.List.{List, [], ◌∷◌, ◌++◌}
use Prim.Native.Nat.{ℕ, ◌+◌, ◌*◌, ◌/◌, ◌%◌, ◌^◌, ◌<◌}
use native.Mathlib.Omega.{arith}
use borrow.Author.Tests.{ltb-true, eqb-true, lt-ltb, ne_eqb}
use lib.Dec.{ltb}
use lib.ListN.{get_or, replicate}
use Rattle.addresses.specs.Octets.{three_octets}
use Rattle.checks.specs.Checks.{header_check}
use Rattle.foundation.specs.Order.{first_failed}
use Rattle.packets.specs.Headers.{header_mask, header_body, with_check, written_header, common_widths, header_widths, widths, width_number, write_header}
use Rattle.packets.specs.Parts.{format_number, common_fields, last_octet, last_widths, CommonWithin, LastWithin}
use Rattle.packets.specs.declared.header.Common.{Common}
use Rattle.packets.specs.declared.header.Header.{Header}
use Rattle.packets.specs.declared.header.Header.TheVariants.{Response, Unconfirmed, Confirmed}
use Rattle.packets.proofs.HeaderParts.{written_is, widths_are}
use Rattle.packets.proofs.Widths.{passed, last_decides, each_passed, first_run, run_fails, none_but_16}

pub common_within : (c : Common) → first_failed (widths (common_widths c)) ≡ 0 → CommonWithin c
unfolding common_widths
common_within c p = record {
  group = ltb-true _ _ (each_passed (common_widths c) p 0);
  requested = ltb-true _ _ (each_passed (common_widths c) p 1);
  pad = ltb-true _ _ (each_passed (common_widths c) p 2);
  sap = ltb-true _ _ (each_passed (common_widths c) p 3);
  destination = ltb-true _ _ (each_passed (common_widths c) p 4);
  source = ltb-true _ _ (each_passed (common_widths c) p 5);
  full = ltb-true _ _ (each_passed (common_widths c) p 6);
  blocks = ltb-true _ _ (each_passed (common_widths c) p 7);
}

-- the last test decides where the others are passed
pub common_decides : (c : Common) → c.group < 2 → c.requested < 2 → c.pad < 32 → c.sap < 16
    → ltb c.destination.0 (2 ^ 24) ≡ true → ltb c.source.0 (2 ^ 24) ≡ true → c.full < 2 → ltb c.blocks 128 ≡ passed (common_widths c)
unfolding common_widths first_failed
common_decides c g r p s to from f =
    rw (lt-ltb c.group 2 g, lt-ltb c.requested 2 r, lt-ltb c.pad 32 p, lt-ltb c.sap 16 s, to, from, lt-ltb c.full 2 f) (last_decides (ltb c.blocks 128))

pub last_within : (h : Header) → first_failed (widths (last_widths h)) ≡ 0 → LastWithin h
unfolding last_widths
last_within (Response c x y z) p =
    let t = each_passed (last_widths (Response c x y z)) p in
    (ltb-true x 4 (t 0), ltb-true y 8 (t 1), ltb-true z 8 (t 2))
last_within (Unconfirmed c x) p = ltb-true x 16 (each_passed (last_widths (Unconfirmed c x)) p 0)
last_within (Confirmed c x y z) p =
    let t = each_passed (last_widths (Confirmed c x y z)) p in
    (ltb-true x 2 (t 0), ltb-true y 8 (t 1), ltb-true z 16 (t 2))

pub format-known : (h : Header) → format_number h < 4
format-known (Response c x y z) = omega arith
format-known (Unconfirmed c x) = omega arith
format-known (Confirmed c x y z) = omega arith

module _ (h : Header) where
  module _ (c : Common) (x y z : ℕ) where
    module _ (is : h ≡ Response c x y z) where
      pub response_decides : x < 4 → y < 8 → ltb z 8 ≡ passed (last_widths h)
      unfolding last_widths first_failed
      response_decides p q = rw (is, lt-ltb x 4 p, lt-ltb y 8 q) (last_decides (ltb z 8))

    module _ (is : h ≡ Confirmed c x y z) where
      pub confirmed_decides : x < 2 → y < 8 → ltb z 16 ≡ passed (last_widths h)
      unfolding last_widths first_failed
      confirmed_decides p q = rw (is, lt-ltb x 2 p, lt-ltb y 8 q) (last_decides (ltb z 16))

  pub unconfirmed_decides : (c : Common) (x : ℕ) → h ≡ Unconfirmed c x → ltb x 16 ≡ passed (last_widths h)
  unfolding last_widths
  unconfirmed_decides c x is = rw is (last_decides (ltb x 16))

  pub number_wide : width_number h ≡ 16 → record { number = 16; octets = replicate 12 0 } ≡ write_header h
  unfolding write_header
  number_wide e = rw e

  pub number-within : width_number h ≡ 0 → record { number = 0; octets = written_header h } ≡ write_header h
  unfolding write_header
  number-within e = rw e

  -- there is no third number
  pub widths_else : (width_number h ≡ 0 → ⊥) → width_number h ≡ 16
  unfolding width_number
  widths_else n = none_but_16 (header_widths h) (ne_eqb _ 0 n)

  pub written-parts : (format : ℕ) (c : Common) (last : ℕ) (os : List ℕ) → width_number h ≡ 0 → format ≡ format_number h → c ≡ common_fields h
      → last ≡ last_octet h → os ≡ with_check (header_body format c last) → record { number = 0; octets = os } ≡ write_header h
  written-parts format c last os w f s l e =
      let written : os ≡ written_header h = e ∙ (λ i. with_check (header_body (f i) (s i) (l i))) ∙ sym (written_is h) in
      (λ i. record { number = 0; octets = written i }) ∙ number-within w

  -- the tests of what all formats have stand before those of octet 9
  pub number-parts : width_number h ≡ first_failed (widths (common_widths (common_fields h) ++ last_widths h))
  unfolding width_number
  number-parts = ap (λ (ts : List Bool). first_failed (widths ts)) (widths_are h)

  -- c is what all formats have
  module _ (c : Common) (same : c ≡ common_fields h) where
    pub common_wide : passed (common_widths c) ≡ false → width_number h ≡ 16
    common_wide e = number-parts ∙ run_fails (last_widths h) (common_widths (common_fields h)) (rw same at e)

    module _ (common : passed (common_widths c) ≡ true) where
      first : width_number h ≡ first_failed (widths (last_widths h))
      first = number-parts ∙ first_run (last_widths h) (common_widths (common_fields h)) (eqb-true _ 0 (rw same at common))

      pub last_wide : passed (last_widths h) ≡ false → width_number h ≡ 16
      last_wide e = first ∙ none_but_16 (last_widths h) e

      pub all-within : passed (last_widths h) ≡ true → width_number h ≡ 0
      all-within e = first ∙ eqb-true _ 0 e

-- fields within their widths pass the tests
common_passed : (c : Common) → CommonWithin c → passed (common_widths c) ≡ true
common_passed c w =
    sym (common_decides c w.group w.requested w.pad w.sap (lt-ltb _ _ w.destination) (lt-ltb _ _ w.source) w.full) ∙ lt-ltb _ 128 w.blocks

last_passed : (h : Header) → LastWithin h → passed (last_widths h) ≡ true
last_passed (Response c x y z) w = sym (response_decides _ c x y z refl w.0 w.1) ∙ lt-ltb z 8 w.2
last_passed (Unconfirmed c x) w = sym (unconfirmed_decides _ c x refl) ∙ lt-ltb x 16 w
last_passed (Confirmed c x y z) w = sym (confirmed_decides _ c x y z refl w.0 w.1) ∙ lt-ltb z 16 w.2

pub fits : (h : Header) → CommonWithin (common_fields h) → LastWithin h → width_number h ≡ 0
fits h c l = all-within h (common_fields h) refl (common_passed (common_fields h) c) (last_passed h l)

-- octets 0 to 9, the addresses' octets given as lists
abbrev parted : ℕ → Common → ℕ → List ℕ → List ℕ → List ℕ
parted format c last to from =
    (128 * c.group + 64 * c.requested + 16 * (c.pad / 16) + format) ∷ (16 * c.sap + c.pad % 16)
    ∷ get_or to 0 0 ∷ get_or to 1 0 ∷ get_or to 2 0 ∷ get_or from 0 0 ∷ get_or from 1 0 ∷ get_or from 2 0 ∷ (128 * c.full + c.blocks) ∷ last ∷ []

module _ (format : ℕ) (c : Common) (last : ℕ) (to from : List ℕ) (t : to ≡ three_octets c.destination.0) (f : from ≡ three_octets c.source.0) where
  body_is : parted format c last to from ≡ header_body format c last
  unfolding header_body
  body_is = λ i. parted format c last (t i) (f i)

  pub octets_are : (k : ℕ) → k ≡ header_check header_mask (parted format c last to from)
      → parted format c last to from ++ (k / 256 ∷ k % 256 ∷ []) ≡ with_check (header_body format c last)
  unfolding with_check
  octets_are k e =
      let q = e ∙ ap (header_check header_mask) body_is in
      λ i. body_is i ++ (q i / 256 ∷ q i % 256 ∷ [])
