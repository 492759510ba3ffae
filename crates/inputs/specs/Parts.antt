-- What the loops of programs keep to, and what a turn of them gives: nothing that a reader has to believe.
-- Assumes nothing.
use Rattle.std.specs.Prelude.{◌≡◌, Bool, true, false, List, ℕ, ◌%◌, ◌^◌, ◌≤◌, ◌<◌, length, get_or}
use Rattle.std.specs.Io.KnownBytes.{Appends, Consumes, IsAtEnd}
use Rattle.std.specs.declared.option.Option.{Option}
use Rattle.inputs.specs.Inputs.{Continues}
use Rattle.inputs.specs.declared.printing.Turn.{Turn}

-- a turn: some of the octets are answered, and so many letters written; where nothing follows, none are left over that could be
pub record Answers {S : Type 0} (text : S → List ℕ → List ℕ) (first : S) (octets : List ℕ) (ended : Bool) (letters kept : ℕ) (now : S) (rest : List ℕ) : Type 0 where
  pub line : List ℕ
  pub long : length line ≡ letters
  pub goes_on : Continues text first octets ended line now rest
  pub fewer : kept ≤ length octets
  pub none_left : ended ≡ true → kept ≡ length octets → length octets ≡ 0

-- some turns
pub record Underway {S : Type 0} (text : S → List ℕ → List ℕ) (first : S) (octets letters : ℕ) (ended : Bool) (now : S) (rest : List ℕ) : Type 0 where
  pub read : List ℕ
  pub written : List ℕ
  pub octets-read : (i : ℕ) → get_or read i 0 < 256
  pub as_many : length read % 2 ^ 64 ≡ octets
  pub so_long : length written % 2 ^ 64 ≡ letters
  pub goes_on : Continues text first read ended written now rest

-- a turn that is written, where it is known which octets the writer holds
abbrev pub PrintsTurn : {S : Type 0} → (S → List ℕ → List ℕ) → S → List ℕ → Bool → Turn → S → List ℕ → Option (List ℕ) → Option (List ℕ) → Type 0
PrintsTurn text first octets last t now rest to to' =
    (a : Answers text first octets last t.letters t.kept now rest) × Appends to to' a.line
    × (last ≡ false → t.kept ≡ length octets → length octets < 65538)

-- and some turns, where it is known too which octets the reader has left
abbrev pub Between : {S : Type 0} → (S → List ℕ → List ℕ) → S → ℕ → ℕ → Bool → S → List ℕ → Option (List ℕ) → Option (List ℕ) → Option (List ℕ) → Option (List ℕ) → Type 0
Between text first octets letters ended now rest from from' to to' =
    (u : Underway text first octets letters ended now rest) × Consumes from from' u.read × Appends to to' u.written × (ended ≡ true → IsAtEnd from')
