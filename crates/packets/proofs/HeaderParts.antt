-- A header by its parts: how it is written, how its fields are tested, and when they are equal.
-- Assumes nothing.
use mathlib.Core.Path.{◌≡◌, refl}
use mathlib.Core.List.{◌++◌}
use Rattle.packets.specs.Headers.{header_body, with_check, written_header, common_widths, header_widths}
use Rattle.packets.specs.Parts.{format_number, common_fields, last_octet, last_widths}
use Rattle.packets.specs.declared.header.Common.{Common}
use Rattle.packets.specs.declared.header.Header.{Header}
use Rattle.packets.specs.declared.header.Header.TheVariants.{Response, Unconfirmed, Confirmed}

pub written_is : (h : Header) → written_header h ≡ with_check (header_body (format_number h) (common_fields h) (last_octet h))
unfolding written_header
written_is (Response c x y z) = refl
written_is (Unconfirmed c x) = refl
written_is (Confirmed c x y z) = refl

pub widths_are : (h : Header) → header_widths h ≡ common_widths (common_fields h) ++ last_widths h
unfolding header_widths last_widths
widths_are (Response c x y z) = refl
widths_are (Unconfirmed c x) = refl
widths_are (Confirmed c x y z) = refl

-- fields that are equal one by one
pub common_equal : {c d : Common} → c.group ≡ d.group → c.requested ≡ d.requested → c.pad ≡ d.pad → c.sap ≡ d.sap
    → c.destination ≡ d.destination → c.source ≡ d.source → c.full ≡ d.full → c.blocks ≡ d.blocks → c ≡ d
common_equal group requested pad sap destination source full blocks = λ i. record {
  group = group i;
  requested = requested i;
  pad = pad i;
  sap = sap i;
  destination = destination i;
  source = source i;
  full = full i;
  blocks = blocks i;
}
