-- What a function gives back for its answer, a number and octets: the number, and in lent memory the octets.
-- Assumes nothing.
use Rattle.std.specs.Prelude.{◌≡◌, cond, Result, Ok, Err, List, [], ℕ, eqb, length}
use Rattle.foundation.specs.Refusals.{refusal_number}
use Rattle.foundation.specs.declared.refusal.Refusal.{Refusal}

-- a number, 0 for none, and octets
abbrev pub Answer : Type 0
Answer = ℕ × List ℕ

-- the answer of a result; a refusal has no octets
unfoldable pub answer_of : Result (List ℕ) Refusal → Answer
answer_of (Ok octets) = (0, octets)
answer_of (Err r) = (refusal_number r, [])

-- the number returned: 1 where the lent memory `out` has not n octets
unfoldable pub given : ℕ → List ℕ → ℕ → ℕ
given n out number = cond (eqb (length out) n) number 1

-- what it holds afterwards: the octets, or what it held where 0 is not returned
unfoldable pub filled : ℕ → List ℕ → ℕ → List ℕ → List ℕ
filled n out number octets = cond (eqb (given n out number) 0) octets out

-- r is returned, and lent memory of n octets that held `out` holds `after`
pub record Gives (n : ℕ) (answer : Answer) (out : List ℕ) (r : ℕ) (after : List ℕ) : Type 0 where
  pub returned : r ≡ given n out answer.0
  pub holds : after ≡ filled n out answer.0 answer.1
