-- A header: 12 octets. 0: group, A, reserved, top pad bit, format (4). 1: SAP (4), low pad bits (4). 2-4 destination, 5-7 source.
-- 8: full-message flag, block count (7). 9 by format. 10-11: the header's check with mask CCCC, high octet first.
-- Assumes nothing.
use Rattle.std.specs.Prelude.{Bool, false, cond, Result, Ok, Err, List, [], ◌∷◌, ◌++◌, ℕ, ◌+◌, ◌*◌, ◌/◌, ◌%◌, ◌^◌, eqb, ltb, length, get_or, replicate}
use Rattle.addresses.specs.Octets.{address_at, three_octets}
use Rattle.foundation.specs.Order.{first_failed}
use Rattle.foundation.specs.Refusals.{refusal, outcome}
use Rattle.foundation.specs.declared.refusal.Refusal.{Refusal}
use Rattle.checks.specs.Checks.{header_check, header_good}
use Rattle.packets.specs.declared.header.Common.{Common}
use Rattle.packets.specs.declared.header.Header.{Header}
use Rattle.packets.specs.declared.header.Header.TheVariants.{Response, Unconfirmed, Confirmed}

-- what is read: the header, or the number of the refusal
pub data HeaderAnswer : Type 0 where
  Accepted : Header → HeaderAnswer
  Refused : ℕ → HeaderAnswer

-- what is written: a number, 0 for none, with the octets
pub record HeaderOctets : Type 0 where
  pub number : ℕ
  pub octets : List ℕ

-- the mask of headers
abbrev pub header_mask : ℕ
header_mask = 0xCCCC

-- n bits of an octet, above its t lowest
abbrev pub part : ℕ → ℕ → ℕ → ℕ
part t n o = o / 2 ^ t % 2 ^ n

-- ---- reading

-- what all formats have
unfoldable pub common_of : List ℕ → Common
common_of h = record {
  group = part 7 1 (get_or h 0 0);
  requested = part 6 1 (get_or h 0 0);
  pad = 16 * part 4 1 (get_or h 0 0) + part 0 4 (get_or h 1 0);
  sap = part 4 4 (get_or h 1 0);
  destination = address_at h 2;
  source = address_at h 5;
  full = part 7 1 (get_or h 8 0);
  blocks = part 0 7 (get_or h 8 0);
}

abbrev pub format_of : List ℕ → ℕ
format_of h = part 0 4 (get_or h 0 0)

-- octet 9. Format 1: class (2), type (3), status (3); format 2: reserved (4), FSN (4); format 3: S, N(S) (3), FSN (4)
unfoldable pub header_of : List ℕ → Header
header_of h =
    let last = get_or h 9 0 in
    cond (eqb (format_of h) 1) (Response (common_of h) (part 6 2 last) (part 3 3 last) (part 0 3 last))
    (cond (eqb (format_of h) 2) (Unconfirmed (common_of h) (part 0 4 last)) (Confirmed (common_of h) (part 7 1 last) (part 4 3 last) (part 0 4 last)))

-- 1, 2 or 3
unfoldable pub known_format : ℕ → Bool
known_format f = cond (eqb f 0) false (ltb f 4)

-- the order of checks: size, check, format
unfoldable pub header_tests : List ℕ → List (Bool × ℕ)
header_tests h = (eqb (length h) 12, 1) ∷ (header_good header_mask h, 8) ∷ (known_format (format_of h), 9) ∷ []

unfoldable pub read_header : List ℕ → HeaderAnswer
read_header h = cond (eqb (first_failed (header_tests h)) 0) (Accepted (header_of h)) (Refused (first_failed (header_tests h)))

-- document 01's number for each answer
unfoldable pub header_number : HeaderAnswer → ℕ
header_number (Accepted h) = 0
header_number (Refused n) = n

-- what the reader gives
unfoldable pub header_given : HeaderAnswer → Result Header Refusal
header_given (Accepted h) = Ok h
header_given (Refused n) = Err (refusal n)

-- ---- writing

-- octets 0 to 9 of a format, the fields that all formats have and the last of the ten; reserved bits 0
unfoldable pub header_body : ℕ → Common → ℕ → List ℕ
header_body format c last =
    (128 * c.group + 64 * c.requested + 16 * (c.pad / 16) + format) ∷ (16 * c.sap + c.pad % 16) ∷ []
    ++ three_octets c.destination.0 ++ three_octets c.source.0 ++ ((128 * c.full + c.blocks) ∷ last ∷ [])

-- octets with their check behind them
unfoldable pub with_check : List ℕ → List ℕ
with_check os =
    let c = header_check header_mask os in
    os ++ (c / 256 ∷ c % 256 ∷ [])

unfoldable pub written_header : Header → List ℕ
written_header (Response c class type status) = with_check (header_body 1 c (64 * class + 8 * type + status))
written_header (Unconfirmed c fsn) = with_check (header_body 2 c fsn)
written_header (Confirmed c s ns fsn) = with_check (header_body 3 c (128 * s + 16 * ns + fsn))

-- each field within its width
unfoldable pub common_widths : Common → List Bool
common_widths c =
    ltb c.group 2 ∷ ltb c.requested 2 ∷ ltb c.pad 32 ∷ ltb c.sap 16 ∷ ltb c.destination.0 (2 ^ 24) ∷ ltb c.source.0 (2 ^ 24)
    ∷ ltb c.full 2 ∷ ltb c.blocks 128 ∷ []

unfoldable pub header_widths : Header → List Bool
header_widths (Response c class type status) = common_widths c ++ (ltb class 4 ∷ ltb type 8 ∷ ltb status 8 ∷ [])
header_widths (Unconfirmed c fsn) = common_widths c ++ (ltb fsn 16 ∷ [])
header_widths (Confirmed c s ns fsn) = common_widths c ++ (ltb s 2 ∷ ltb ns 8 ∷ ltb fsn 16 ∷ [])

-- tests that all give 16 where they fail
abbrev pub widths : List Bool → List (Bool × ℕ)
widths [] = []
widths (t ∷ ts) = (t, 16) ∷ widths ts

unfoldable pub width_number : Header → ℕ
width_number h = first_failed (widths (header_widths h))

-- zeros beside the number of a refusal
unfoldable pub write_header : Header → HeaderOctets
write_header h = record { number = width_number h; octets = cond (eqb (width_number h) 0) (written_header h) (replicate 12 0) }

-- what the writer gives
unfoldable pub header_octets_given : HeaderOctets → Result (List ℕ) Refusal
header_octets_given w = outcome w.number w.octets

-- a header of a format given as a number, its octet 9 in up to three fields; 16 for a format not 1 to 3
unfoldable pub header_for : ℕ → Common → ℕ → ℕ → ℕ → HeaderAnswer
header_for format c x y z =
    cond (eqb format 1) (Accepted (Response c x y z))
    (cond (eqb format 2) (Accepted (Unconfirmed c x)) (cond (eqb format 3) (Accepted (Confirmed c x y z)) (Refused 16)))
