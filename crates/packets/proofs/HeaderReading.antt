-- What a header reads as: by the first test that it fails, and by its format.
-- Assumes nothing.
use mathlib.Core.Path.{◌≡◌, refl, sym, ap, ◌∙◌}
use mathlib.Core.Bool.{Bool, true, false, cond}
use mathlib.Core.List.{List}
use Prim.Native.Nat.{ℕ, zero, suc, ◌+◌, ◌*◌, ◌/◌, ◌%◌, ◌≤◌, ◌<◌}
use native.Mathlib.Omega.{arith}
use borrow.Author.Tests.{eq-eqb, ne_eqb, lt-ltb, le-ltb}
use native.Mathlib.Decide.{ℕ_discrete, dec_lt}
use lib.Dec.{eqb, ltb}
use lib.ListN.{length, get_or}
use Rattle.addresses.specs.Octets.{address_at}
use Rattle.addresses.specs.declared.RadioAddress.{RadioAddress}
use Rattle.foundation.specs.Order.{first_failed}
use Rattle.foundation.specs.Refusals.{outcome}
use Rattle.checks.specs.Checks.{header_good}
use Rattle.packets.specs.Headers.{header_mask, part, common_of, format_of, header_of, known_format, header_tests, read_header, header_number, header_given}
use Rattle.packets.specs.declared.header.Common.{Common}
use Rattle.packets.specs.declared.header.Header.TheVariants.{Response, Unconfirmed, Confirmed}
use Rattle.packets.specs.Headers.{Accepted, Refused}
use Rattle.packets.proofs.HeaderParts.{common_equal}

module _ (h : List ℕ) where
  pub size-refused : (length h ≡ 12 → ⊥) → Refused 1 ≡ read_header h
  unfolding read_header header_tests first_failed
  size-refused n = rw (ne_eqb (length h) 12 n)

  module _ (size : length h ≡ 12) where
    pub check-refused : header_good header_mask h ≡ false → Refused 8 ≡ read_header h
    unfolding read_header header_tests first_failed
    check-refused g = rw (eq-eqb (length h) 12 size, g)

    module _ (good : header_good header_mask h ≡ true) where
      pub format-refused : known_format (format_of h) ≡ false → Refused 9 ≡ read_header h
      unfolding read_header header_tests first_failed
      format-refused k = rw (eq-eqb (length h) 12 size, good, k)

      pub accepted : known_format (format_of h) ≡ true → Accepted (header_of h) ≡ read_header h
      unfolding read_header header_tests first_failed
      accepted k = rw (eq-eqb (length h) 12 size, good, k)

pub number_is : (h : List ℕ) → header_number (read_header h) ≡ first_failed (header_tests h)
unfolding read_header header_number
number_is h = go (first_failed (header_tests h))
  where
    go : (n : ℕ) → header_number (cond (eqb n 0) (Accepted (header_of h)) (Refused n)) ≡ n
    go zero = refl
    go (suc n) = rw (ne_eqb (suc n) 0 (λ e. omega arith))

-- what the reader gives: the header, or the refusal of the first test that fails
pub given_is : (h : List ℕ) → header_given (read_header h) ≡ outcome (first_failed (header_tests h)) (header_of h)
unfolding read_header header_given outcome
given_is h = go (first_failed (header_tests h))
  where
    go : (n : ℕ) → header_given (cond (eqb n 0) (Accepted (header_of h)) (Refused n)) ≡ outcome n (header_of h)
    go zero = refl
    go (suc n) = rw (ne_eqb (suc n) 0 (λ e. omega arith))

-- the number of a header of 12 octets, by the two tests that are left
by_tests : Bool → Bool → ℕ
by_tests good known = cond good (cond known 0 9) 8

not_1 : (good known : Bool) → 1 ≡ by_tests good known → ⊥
unfolding by_tests
not_1 true true e = omega arith
not_1 true false e = omega arith
not_1 false known e = omega arith

only_8 : (good known : Bool) → 8 ≡ by_tests good known → good ≡ false
unfolding by_tests
only_8 true true e = absurd (omega arith)
only_8 true false e = absurd (omega arith)
only_8 false known e = refl

only_9 : (good known : Bool) → 9 ≡ by_tests good known → known ≡ false
unfolding by_tests
only_9 true true e = absurd (omega arith)
only_9 true false e = refl
only_9 false known e = absurd (omega arith)

-- the other way: what a number says of the octets
module _ (h : List ℕ) where
  tested : length h ≡ 12 → header_number (read_header h) ≡ by_tests (header_good header_mask h) (known_format (format_of h))
  unfolding by_tests header_tests first_failed
  tested size = number_is h ∙ rw (eq-eqb (length h) 12 size)

  given : (n : ℕ) → read_header h ≡ Refused n → length h ≡ 12 → n ≡ by_tests (header_good header_mask h) (known_format (format_of h))
  unfolding header_number
  given n e size = ap header_number (sym e) ∙ tested size

  pub 1-size : read_header h ≡ Refused 1 → length h ≡ 12 → ⊥
  1-size e size = not_1 _ _ (given 1 e size)

  pub 8-check : length h ≡ 12 → read_header h ≡ Refused 8 → header_good header_mask h ≡ false
  8-check size e = only_8 _ _ (given 8 e size)

  pub 9-format : length h ≡ 12 → read_header h ≡ Refused 9 → known_format (format_of h) ≡ false
  9-format size e = only_9 _ _ (given 9 e size)

module _ (f : ℕ) where
  pub known-format : 1 ≤ f → f ≤ 3 → known_format f ≡ true
  unfolding known_format
  known-format a b = rw (ne_eqb f 0 (λ e. omega arith), lt-ltb f 4 (omega arith))

  pub unknown_format : ((1 ≤ f) × (f ≤ 3) → ⊥) → known_format f ≡ false
  unfolding known_format
  unknown_format n = go (ℕ_discrete f 0) (dec_lt f 4)
    where
      go : Dec (f ≡ 0) → Dec (f < 4) → cond (eqb f 0) false (ltb f 4) ≡ false
      go (yes e) d = rw (eq-eqb f 0 e)
      go (no e) (yes l) = absurd (n (omega arith, omega arith))
      go (no e) (no l) = rw (ne_eqb f 0 e, le-ltb f 4 (omega arith))

  pub not_known : known_format f ≡ false → (1 ≤ f) × (f ≤ 3) → ⊥
  not_known e b = let t = known-format b.0 b.1 in let z : ◌≡◌ {A = ℕ} 0 1 = cc in omega arith

-- octet 9 by the format; c is what all formats have
module _ (h : List ℕ) (c : Common) (same : c ≡ common_of h) where
  pub format_1 : (x y z : ℕ) → format_of h ≡ 1 → x ≡ part 6 2 (get_or h 9 0) → y ≡ part 3 3 (get_or h 9 0) → z ≡ part 0 3 (get_or h 9 0)
      → Response c x y z ≡ header_of h
  unfolding header_of
  format_1 x y z f p q r = rw (eq-eqb (format_of h) 1 f) (λ i. Response (same i) (p i) (q i) (r i))

  pub format_2 : (x : ℕ) → format_of h ≡ 2 → x ≡ part 0 4 (get_or h 9 0) → Unconfirmed c x ≡ header_of h
  unfolding header_of
  format_2 x f p = rw (ne_eqb (format_of h) 1 (λ e. omega arith), eq-eqb (format_of h) 2 f) (λ i. Unconfirmed (same i) (p i))

  pub format_3 : (x y z : ℕ) → (format_of h ≡ 1 → ⊥) → (format_of h ≡ 2 → ⊥)
      → x ≡ part 7 1 (get_or h 9 0) → y ≡ part 4 3 (get_or h 9 0) → z ≡ part 0 4 (get_or h 9 0) → Confirmed c x y z ≡ header_of h
  unfolding header_of
  format_3 x y z f g p q r = rw (ne_eqb (format_of h) 1 f, ne_eqb (format_of h) 2 g) (λ i. Confirmed (same i) (p i) (q i) (r i))

pub common_is : (h : List ℕ) (a b e : ℕ) (to from : RadioAddress) → ((i : ℕ) → get_or h i 0 < 256)
    → a ≡ get_or h 0 0 → b ≡ get_or h 1 0 → e ≡ get_or h 8 0 → to ≡ address_at h 2 → from ≡ address_at h 5
    → record {
      group = a / 128;
      requested = a / 64 % 2;
      pad = 16 * (a / 16 % 2) + b % 16;
      sap = b / 16;
      destination = to;
      source = from;
      full = e / 128;
      blocks = e % 128;
    } ≡ common_of h
unfolding common_of
common_is h a b e to from octet p q r d s =
    let group : a / 128 ≡ part 7 1 (get_or h 0 0) = omega (arith, octet 0) in
    let requested : a / 64 % 2 ≡ part 6 1 (get_or h 0 0) = omega arith in
    let pad : 16 * (a / 16 % 2) + b % 16 ≡ 16 * part 4 1 (get_or h 0 0) + part 0 4 (get_or h 1 0) = omega arith in
    let sap : b / 16 ≡ part 4 4 (get_or h 1 0) = omega (arith, octet 1) in
    let full : e / 128 ≡ part 7 1 (get_or h 8 0) = omega (arith, octet 8) in
    let blocks : e % 128 ≡ part 0 7 (get_or h 8 0) = omega arith in
    common_equal group requested pad sap d s full blocks
