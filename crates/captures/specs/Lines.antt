-- The text of what a gateway answers: a line for each datagram, or for each message that is handed on. Indices wrap at 2^64.
-- Assumes nothing.
use Rattle.std.specs.Prelude.{List, [], ◌∷◌, ◌++◌, ℕ, ◌+◌, ◌%◌, ◌^◌, length}
use Rattle.texts.specs.Texts.{decimal, octets_text, blank, line_feed, parts}
use Rattle.transactions.specs.Answers.{Said, refused, opened, repeat, stored, bad, message, response, number_of}
use Rattle.transactions.specs.declared.header.Transaction.{Transaction}
use Rattle.counting.specs.declared.Counts.{Counts}
use Rattle.captures.specs.declared.Listing.{Listing}
use Rattle.captures.specs.declared.Listing.TheVariants.{Numbers, Deliveries}

-- what is told of a datagram: what is said, and the transaction after it
pub record Outcome : Type 0 where
  pub said : Said
  pub transaction : Transaction

-- ---- index and number

unfoldable pub number_line : ℕ → ℕ → List ℕ
number_line i n = parts (decimal i ∷ blank ∷ decimal n ∷ line_feed ∷ [])

unfoldable pub number_lines : ℕ → List ℕ → List ℕ
number_lines i [] = []
number_lines i (n ∷ ns) = number_line i n ++ number_lines ((i + 1) % 2 ^ 64) ns

unfoldable pub numbers : List Outcome → List ℕ
numbers [] = []
numbers (o ∷ os) = number_of o.said ∷ numbers os

-- `end`, datagrams, messages, refused
unfoldable pub end_line : Counts → List ℕ
end_line c = parts ((0x65 ∷ 0x6E ∷ 0x64 ∷ 0x20 ∷ []) ∷ decimal c.datagrams ∷ blank ∷ decimal c.messages ∷ blank ∷ decimal c.refused ∷ line_feed ∷ [])

-- ---- messages that are handed on

-- index and source
unfoldable pub source_part : ℕ → Transaction → List ℕ
source_part i t = parts (decimal i ∷ blank ∷ decimal t.source.0 ∷ [])

-- SAP and length
unfoldable pub size_part : Transaction → ℕ → List ℕ
size_part t n = parts (blank ∷ decimal t.sap ∷ blank ∷ decimal n ∷ [])

-- a message: index, source, SAP, length and octets
unfoldable pub message_line : ℕ → Transaction → List ℕ → List ℕ
message_line i t m = parts (source_part i t ∷ size_part t (length m) ∷ blank ∷ octets_text m ∷ line_feed ∷ [])

-- a bad one: index, source and `bad`
unfoldable pub bad_line : ℕ → Transaction → List ℕ
bad_line i t = parts (source_part i t ∷ (0x20 ∷ 0x62 ∷ 0x61 ∷ 0x64 ∷ 0x0A ∷ []) ∷ [])

-- a line for a message, handed on or bad, and none for any other answer
unfoldable pub delivery_line : ℕ → Transaction → Said → List ℕ
delivery_line i t (refused n) = []
delivery_line i t opened = []
delivery_line i t repeat = []
delivery_line i t stored = []
delivery_line i t bad = bad_line i t
delivery_line i t (message m) = message_line i t m
delivery_line i t (response h d) = []

unfoldable pub delivery_lines : ℕ → List Outcome → List ℕ
delivery_lines i [] = []
delivery_lines i (o ∷ os) = delivery_line i o.transaction o.said ++ delivery_lines ((i + 1) % 2 ^ 64) os

-- ---- either

-- from index i on
unfoldable pub listed : Listing → ℕ → List Outcome → List ℕ
listed Numbers i os = number_lines i (numbers os)
listed Deliveries i os = delivery_lines i os

-- the last line
unfoldable pub closing : Listing → Counts → List ℕ
closing Numbers c = end_line c
closing Deliveries c = []

-- the most octets of a line: 20 digits of the index, 3 of a number; 10 of the source, 3 of the SAP, 3 of the length, 630 octets
unfoldable pub line_room : Listing → ℕ
line_room Numbers = 25
line_room Deliveries = 1302
