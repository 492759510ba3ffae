-- The text of what is answered to a record: a line each.
-- Assumes nothing.
use Rattle.std.specs.Prelude.{List, [], ◌∷◌, ◌++◌, ℕ, length}
use Rattle.texts.specs.Texts.{decimal, octets_text, blank, line_feed, parts}
use Rattle.transactions.specs.Answers.{refused, opened, repeat, stored, bad, message, response}
use Rattle.logs.specs.Log.{Line, answer, restarted}

-- a refusal's number; `opened`, `repeat`, `stored`, `bad`; `message` with length and octets; `response` with header and data block; `restored`
-- with the 1,024 octets that were saved
unfoldable pub line_text : Line → List ℕ
line_text (answer (refused n)) = parts (decimal n ∷ line_feed ∷ [])
line_text (answer opened) = 0x6F ∷ 0x70 ∷ 0x65 ∷ 0x6E ∷ 0x65 ∷ 0x64 ∷ 0x0A ∷ []
line_text (answer repeat) = 0x72 ∷ 0x65 ∷ 0x70 ∷ 0x65 ∷ 0x61 ∷ 0x74 ∷ 0x0A ∷ []
line_text (answer stored) = 0x73 ∷ 0x74 ∷ 0x6F ∷ 0x72 ∷ 0x65 ∷ 0x64 ∷ 0x0A ∷ []
line_text (answer bad) = 0x62 ∷ 0x61 ∷ 0x64 ∷ 0x0A ∷ []
line_text (answer (message m)) =
    parts ((0x6D ∷ 0x65 ∷ 0x73 ∷ 0x73 ∷ 0x61 ∷ 0x67 ∷ 0x65 ∷ 0x20 ∷ []) ∷ decimal (length m) ∷ blank ∷ octets_text m ∷ line_feed ∷ [])
line_text (answer (response h d)) =
    parts ((0x72 ∷ 0x65 ∷ 0x73 ∷ 0x70 ∷ 0x6F ∷ 0x6E ∷ 0x73 ∷ 0x65 ∷ 0x20 ∷ []) ∷ octets_text h ∷ blank ∷ octets_text d ∷ line_feed ∷ [])
line_text (restarted form) = parts ((0x72 ∷ 0x65 ∷ 0x73 ∷ 0x74 ∷ 0x6F ∷ 0x72 ∷ 0x65 ∷ 0x64 ∷ 0x20 ∷ []) ∷ octets_text form ∷ line_feed ∷ [])

unfoldable pub report_text : List Line → List ℕ
report_text [] = []
report_text (l ∷ ls) = line_text l ++ report_text ls

-- room for every line: a word, 4 digits, 1,024 octets in hexadecimal, blanks and the end of the line take less
abbrev pub report_room : ℕ
report_room = 2064
