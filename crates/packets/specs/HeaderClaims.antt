-- What a reader of document 01 wants of headers.
-- Assumes nothing.
use Rattle.std.specs.Prelude.{◌≡◌, true, false, List, ◌↔◌, ◌≢◌, ℕ, ◌/◌, ◌%◌, ◌≤◌, length, get_or, replicate}
use Rattle.foundation.specs.Order.{first_failed}
use Rattle.checks.specs.Checks.{header_good}
use Rattle.packets.specs.Headers.{Accepted, Refused, HeaderOctets, header_mask, format_of, header_of, header_tests, read_header, header_number, written_header, width_number, write_header}
use Rattle.packets.specs.declared.header.Header.{Header}

-- octets 0 to 9 of h and k are equal but for the reserved bits
pub record SameButReserved (h k : List ℕ) : Type 0 where
  -- octet 0 above and below its bit 5
  pub above : get_or h 0 0 / 64 ≡ get_or k 0 0 / 64
  pub below : get_or h 0 0 % 32 ≡ get_or k 0 0 % 32
  pub between : (i : ℕ) → 1 ≤ i → i ≤ 8 → get_or h i 0 ≡ get_or k i 0
  -- octet 9: its four low bits, and the others too unless the format is 2
  pub low : get_or h 9 0 % 16 ≡ get_or k 9 0 % 16
  pub high : format_of h ≢ 2 → get_or h 9 0 ≡ get_or k 9 0

-- an answer of the writer without a number reads back as h
abbrev pub HeaderReadsBack : Header → HeaderOctets → Type 0
HeaderReadsBack h r = r.number ≡ 0 → read_header r.octets ≡ Accepted h

pub record HeaderClaims : Type 0 where
  -- a header of any format whose fields are within their widths is written
  pub written : (h : Header) → width_number h ≡ 0 → write_header h ≡ record { number = 0; octets = written_header h }
  -- and what is written reads back
  pub reads_back : (h : Header) → HeaderReadsBack h (write_header h)
  -- any other header is refused with 16
  pub too_wide : (h : Header) → width_number h ≢ 0 → write_header h ≡ record { number = 16; octets = replicate 12 0 }
  -- reading gives the number of the first test that fails
  pub number : (h : List ℕ) → header_number (read_header h) ≡ first_failed (header_tests h)
  -- so 1 exactly if the size is not 12
  pub size : (h : List ℕ) → (length h ≢ 12) ↔ (read_header h ≡ Refused 1)
  -- else 8 exactly if the check fails
  pub check : (h : List ℕ) → length h ≡ 12 → (header_good header_mask h ≡ false) ↔ (read_header h ≡ Refused 8)
  -- else 9 exactly if the format is not 1, 2 or 3
  pub format : (h : List ℕ) → length h ≡ 12 → header_good header_mask h ≡ true
      → (((1 ≤ format_of h) × (format_of h ≤ 3)) → ⊥) ↔ (read_header h ≡ Refused 9)
  -- else the fields
  pub fields : (h : List ℕ) → length h ≡ 12 → header_good header_mask h ≡ true → 1 ≤ format_of h → format_of h ≤ 3
      → read_header h ≡ Accepted (header_of h)
  -- reserved bits are ignored on reading
  pub reserved : (h k : List ℕ) → length h ≡ 12 → length k ≡ 12 → header_good header_mask h ≡ true → header_good header_mask k ≡ true
      → SameButReserved h k → read_header h ≡ read_header k
