-- Text in octets (ASCII): numbers in decimal, octets in hexadecimal, where a text ends that is written at a place, and what is written behind one.
-- Assumes nothing.
use Rattle.std.specs.Prelude.{◌≡◌, cond, List, [], ◌∷◌, ◌++◌, ℕ, zero, suc, ◌+◌, ◌/◌, eqb, leb, ltb, length}
use Rattle.foundation.specs.Octets.{put}
use Rattle.io.specs.Digits.{last_digits}
use Rattle.texts.specs.declared.Writer.{Writer}

-- how many digits a number has in decimal, at most k + 1
unfoldable pub places : ℕ → ℕ → ℕ
places zero n = 1
places (suc k) n = cond (ltb n 10) 1 (suc (places k (n / 10)))

-- a number in decimal, without zeros in front
unfoldable pub decimal : ℕ → List ℕ
decimal n = last_digits 10 (places n n) n

-- two digits an octet, in lower case
unfoldable pub hexadecimal : List ℕ → List ℕ
hexadecimal [] = []
hexadecimal (o ∷ os) = last_digits 16 2 o ++ hexadecimal os

-- octets in hexadecimal, `-` for none
unfoldable pub octets_text : List ℕ → List ℕ
octets_text os = cond (eqb (length os) 0) (0x2D ∷ []) (hexadecimal os)

-- a blank; the end of a line
abbrev pub blank : List ℕ
blank = 0x20 ∷ []

abbrev pub line_feed : List ℕ
line_feed = 0x0A ∷ []

-- parts one behind the other
unfoldable pub parts : List (List ℕ) → List ℕ
parts [] = []
parts (p ∷ ps) = p ++ parts ps

-- where a text ends that is written at a place; where it begins if there is no room
unfoldable pub end_at : List ℕ → ℕ → List ℕ → ℕ
end_at text at os = cond (leb (at + length os) (length text)) (at + length os) at

-- a part is written behind a text, in the same memory: where there is no room nothing is written, and the text ends where it did
pub record Writes (os : List ℕ) (w w' : Writer) : Type 0 where
  pub same_memory : w'.text.ghost_name ≡ w.text.ghost_name
  pub text : w'.text.now ≡ put w.text.now w.end os
  pub end : w'.end ≡ end_at w.text.now w.end os
