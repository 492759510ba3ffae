-- What private functions require and give: nothing that a reader has to believe.
-- Assumes nothing.
use Rattle.std.specs.Prelude.{◌≡◌, Option, Some, None, Bool, cond, List, [], ◌∷◌, ℕ, suc, ◌+◌, ◌*◌, ◌-◌, ◌≤◌, ◌<◌, min, eqb, length, get_or, take, drop}
use Rattle.texts.specs.Texts.{decimal, octets_text, blank, line_feed, parts}
use Rattle.stored.specs.Stored.{stored_block}
use Rattle.transactions.specs.Answers.{opened, repeat, stored, bad}
use Rattle.logs.specs.Log.{record_of, answer}
use Rattle.replays.specs.Log.{records, octets_taken}
use Rattle.replays.specs.Text.{line_text}
use Rattle.replays.specs.declared.Cut.{Cut}

-- the record at a place of the octets: what it is, and that the records after it follow
pub record Comes (os : List ℕ) (at : ℕ) (last : Bool) (c : Cut) : Type 0 where
  pub starts : c.start ≤ c.end
  pub within : c.end ≤ length os
  pub later : at < c.end
  pub first : (k : ℕ) → records last (suc k) (drop at os) ≡ record_of c.kind (take (c.end - c.start) (drop c.start os)) ∷ records last k (drop c.end os)
  pub taken : (k : ℕ) → octets_taken last (suc k) (drop at os) ≡ (c.end - at) + octets_taken last k (drop c.end os)

-- no record has come there
pub record NoneComes (os : List ℕ) (at : ℕ) (last : Bool) : Type 0 where
  pub no_more : (k : ℕ) → records last k (drop at os) ≡ []
  pub no_octets_lem : (k : ℕ) → octets_taken last k (drop at os) ≡ 0

abbrev pub Cuts : List ℕ → ℕ → Bool → Option Cut → Type 0
Cuts os at last None = NoneComes os at last
Cuts os at last (Some c) = Comes os at last c

-- the contents of a line in octets
unfoldable pub contents_in : List ℕ → List ℕ
contents_in line = take (min (256 * get_or line 1 0 + get_or line 2 0) (2 * stored_block)) (drop 3 line)

-- the text of a line by its code and contents
unfoldable pub code_text : ℕ → List ℕ → List ℕ
code_text code os =
    cond (eqb code 0) (parts (decimal (get_or os 0 0) ∷ line_feed ∷ []))
    (cond (eqb code 1) (line_text (answer opened))
    (cond (eqb code 2) (line_text (answer repeat))
    (cond (eqb code 3) (line_text (answer stored))
    (cond (eqb code 4) (line_text (answer bad))
    (cond (eqb code 5)
    (parts ((0x6D ∷ 0x65 ∷ 0x73 ∷ 0x73 ∷ 0x61 ∷ 0x67 ∷ 0x65 ∷ 0x20 ∷ []) ∷ decimal (length os) ∷ blank ∷ octets_text os ∷ line_feed ∷ []))
    (cond (eqb code 6)
    (parts ((0x72 ∷ 0x65 ∷ 0x73 ∷ 0x70 ∷ 0x6F ∷ 0x6E ∷ 0x73 ∷ 0x65 ∷ 0x20 ∷ []) ∷ octets_text (take 12 os) ∷ blank ∷ octets_text (drop 12 os) ∷ line_feed ∷ []))
    (parts ((0x72 ∷ 0x65 ∷ 0x73 ∷ 0x74 ∷ 0x6F ∷ 0x72 ∷ 0x65 ∷ 0x64 ∷ 0x20 ∷ []) ∷ octets_text os ∷ line_feed ∷ []))))))))

unfoldable pub octets_line : List ℕ → List ℕ
octets_line line = code_text (get_or line 0 0) (contents_in line)
