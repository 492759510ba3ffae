-- What private functions require and give: nothing that a reader has to believe.
-- Assumes nothing.
use Rattle.std.specs.Prelude.{Bool, List, [], ◌∷◌, ℕ, ◌+◌, ◌*◌, ◌<◌, ◌^◌, ltb}
use Rattle.packets.specs.declared.header.Common.{Common}
use Rattle.packets.specs.declared.header.Header.{Header}
use Rattle.packets.specs.declared.header.Header.TheVariants.{Response, Unconfirmed, Confirmed}

-- a header by its parts: the format, what all formats have, octet 9
abbrev pub format_number : Header → ℕ
format_number (Response c class type status) = 1
format_number (Unconfirmed c fsn) = 2
format_number (Confirmed c s ns fsn) = 3

abbrev pub common_fields : Header → Common
common_fields (Response c class type status) = c
common_fields (Unconfirmed c fsn) = c
common_fields (Confirmed c s ns fsn) = c

abbrev pub last_octet : Header → ℕ
last_octet (Response c class type status) = 64 * class + 8 * type + status
last_octet (Unconfirmed c fsn) = fsn
last_octet (Confirmed c s ns fsn) = 128 * s + 16 * ns + fsn

-- the tests of octet 9's fields
unfoldable pub last_widths : Header → List Bool
last_widths (Response c class type status) = ltb class 4 ∷ ltb type 8 ∷ ltb status 8 ∷ []
last_widths (Unconfirmed c fsn) = ltb fsn 16 ∷ []
last_widths (Confirmed c s ns fsn) = ltb s 2 ∷ ltb ns 8 ∷ ltb fsn 16 ∷ []

-- each field that all formats have is within its width
pub record CommonWithin (c : Common) : Type 0 where
  pub group : c.group < 2
  pub requested : c.requested < 2
  pub pad : c.pad < 32
  pub sap : c.sap < 16
  pub destination : c.destination.0 < 2 ^ 24
  pub source : c.source.0 < 2 ^ 24
  pub full : c.full < 2
  pub blocks : c.blocks < 128

-- each field of octet 9 is within its width
abbrev pub LastWithin : Header → Type 0
LastWithin (Response c class type status) = (class < 4) × (type < 8) × (status < 8)
LastWithin (Unconfirmed c fsn) = fsn < 16
LastWithin (Confirmed c s ns fsn) = (s < 2) × (ns < 8) × (fsn < 16)
