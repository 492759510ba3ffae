-- What the history rule of document 01 gives for the records of a log, line by line.
-- Assumes nothing.
use Rattle.std.specs.Prelude.{List, [], ◌∷◌, ℕ, ◌/◌, ◌%◌, get_or}
use Rattle.addresses.specs.declared.RadioAddress.{RadioAddress}
use Rattle.messages.specs.Messages.{block_size}
use Rattle.transactions.specs.Flags.{flag_octets}
use Rattle.transactions.specs.Answers.{refused}
use Rattle.stored.specs.Stored.{stored_form}
use Rattle.history.specs.History.{History, holds, held_data, after, said_to}
use Rattle.history.specs.Run.{event, restart}
use Rattle.logs.specs.Log.{Record, act, none, Line, answer, restarted}

-- the stored form of a history: octet i of the store is that of the held block
unfoldable pub history_form : RadioAddress → History → ℕ → ℕ → List ℕ
history_form own p s0 s1 =
    stored_form own p.phase p.transaction (flag_octets (holds p.kept)) (λ i. get_or (held_data p.kept (i / block_size)) (i % block_size) 0) s0 s1

-- neither a restart nor a record that is no action changes anything
unfoldable pub lines_from : RadioAddress → History → List Record → List Line
lines_from own p [] = []
lines_from own p (act (event e) ∷ rest) = answer (said_to own p e) ∷ lines_from own (after own p e) rest
lines_from own p (act (restart s0 s1 store) ∷ rest) = restarted (history_form own p s0 s1) ∷ lines_from own p rest
lines_from own p (none ∷ rest) = answer (refused 1) ∷ lines_from own p rest
