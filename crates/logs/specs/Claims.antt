-- What a record promises beside its definition.
-- Assumes nothing.
use Rattle.std.specs.Prelude.{◌≡◌, ℕ}
use Rattle.transactions.specs.Answers.{refused}
use Rattle.history.specs.Run.{State}
use Rattle.logs.specs.Log.{Record, answer, line_of, after_record}

-- a refused record changes nothing
abbrev pub RecordRefused : State → Record → Type 0
RecordRefused s r = (n : ℕ) → line_of s r ≡ answer (refused n) → after_record s r ≡ s
