-- Octets written over others.
-- Assumes nothing.
use Rattle.std.specs.Prelude.{cond, List, ◌++◌, ℕ, ◌+◌, leb, length, take, drop}

-- octets written over a list at a place
unfoldable pub over : List ℕ → ℕ → List ℕ → List ℕ
over to at os = take at to ++ os ++ drop (at + length os) to

-- the same where they fit; else the list stays as it is
unfoldable pub put : List ℕ → ℕ → List ℕ → List ℕ
put to at os = cond (leb (at + length os) (length to)) (over to at os) to
