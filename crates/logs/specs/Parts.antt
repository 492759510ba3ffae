-- What private functions require and give: nothing that a reader has to believe.
-- Assumes nothing.
use Rattle.std.specs.Prelude.{cond, List, ℕ, ◌+◌, eqb, length}
use Rattle.receiver_state.specs.Receiver.{store_size}
use Rattle.history.specs.History.{header, block, ended}
use Rattle.history.specs.Run.{event}
use Rattle.logs.specs.Log.{Record, act, none, restart_of}
use Rattle.logs.specs.declared.numbers.Kind.{Kind}
use Rattle.logs.specs.declared.numbers.Kind.TheVariants.{Header, Block, End, Restart, Other}

-- the record of this kind and these octets
unfoldable pub record_by : Kind → List ℕ → Record
record_by Header os = act (event (header os))
record_by Block os = act (event (block os))
record_by End os = cond (eqb (length os) 0) (act (event ended)) none
record_by Restart os = cond (eqb (length os) (2 + store_size)) (restart_of os) none
record_by Other os = none
