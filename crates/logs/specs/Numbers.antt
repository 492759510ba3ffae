-- The kinds of records and the codes of lines, and their numbers.
-- Assumes nothing.
use Rattle.std.specs.Prelude.{cond, ℕ, eqb}
use Rattle.logs.specs.declared.numbers.Code.{Code}
use Rattle.logs.specs.declared.numbers.Code.TheVariants.{Refused, Opened, Repeat, Stored, Bad, Message, Response, Restored}
use Rattle.logs.specs.declared.numbers.Kind.{Kind}
use Rattle.logs.specs.declared.numbers.Kind.TheVariants.{Header, Block, End, Restart, Other}

-- the kind of a number
unfoldable pub kind_of : ℕ → Kind
kind_of n = cond (eqb n 0) Header (cond (eqb n 1) Block (cond (eqb n 2) End (cond (eqb n 3) Restart Other)))

-- the number of a code
unfoldable pub code_number : Code → ℕ
code_number Refused = 0
code_number Opened = 1
code_number Repeat = 2
code_number Stored = 3
code_number Bad = 4
code_number Message = 5
code_number Response = 6
code_number Restored = 7

-- the code of a number; that of a restored form for a number that is none
unfoldable pub code_at : ℕ → Code
code_at n =
    cond (eqb n 0) Refused (cond (eqb n 1) Opened (cond (eqb n 2) Repeat (cond (eqb n 3) Stored
    (cond (eqb n 4) Bad (cond (eqb n 5) Message (cond (eqb n 6) Response Restored))))))
