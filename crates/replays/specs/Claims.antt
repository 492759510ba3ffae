-- What the parts of a log say of the whole.
-- Assumes nothing.
use Rattle.std.specs.Prelude.{◌≡◌, Bool, true, List, [], ◌++◌, ℕ, ◌^◌, ◌≤◌, ◌<◌, length, take, drop}
use Rattle.addresses.specs.declared.RadioAddress.{RadioAddress}
use Rattle.receiver_state.specs.Receiver.{store_size}
use Rattle.stored.specs.Claims.{Savable}
use Rattle.history.specs.History.{nothing, history_from}
use Rattle.history.specs.Run.{Action, State, answers, left, events}
use Rattle.history.specs.Claims.{Possible, Demand3, Once, fresh_state}
use Rattle.logs.specs.Log.{Record, state_of}
use Rattle.replays.specs.Log.{actions_of}
use Rattle.replays.specs.Rule.{lines_from}
use Rattle.replays.specs.Replay.{ReplayAnswer, lines_given, report_from, records_answered}

-- whatever follows these octets: the whole text is what is written now, and then the whole text of the octets not yet answered and of what
-- follows, from the receiver and the store that are left. Nothing follows the last octets.
abbrev pub ReportGoesOn : State → List ℕ → Bool → ReplayAnswer → List ℕ → List ℕ → Type 0
ReportGoesOn s os last r store text =
    r.number ≡ 0 → (more : List ℕ) → (last ≡ true → more ≡ [])
    → report_from s (os ++ more) ≡ take r.end text ++ report_from (state_of r.receiver store) (drop r.taken os ++ more)

-- over actions from a fresh receiver of this address and this store: demand 3, a message handed on at most once between two openings, and a
-- receiver that can be saved and restored
pub record LogClaims (own : RadioAddress) (first : List ℕ) (actions : List Action) : Type 0 where
  pub demand3 : Demand3 own first actions
  pub once : Once true (answers (fresh_state own first) actions)
  pub savable : Savable (left (fresh_state own first) actions).receiver (left (fresh_state own first) actions).store

-- records behind those of the past, from a fresh receiver: their lines are the history rule's, what is left is what the whole run leaves, and
-- the claims hold of the whole run
pub record AsTheRule (own : RadioAddress) (first : List ℕ) (past rs : List Record) (s s' : State) : Type 0 where
  pub lines : lines_given s rs ≡ lines_from own (history_from own nothing (events (actions_of past))) rs
  pub leaves : s' ≡ left (fresh_state own first) (actions_of (past ++ rs))
  pub claims : LogClaims own first (actions_of (past ++ rs))

-- for every past that led to this receiver and this store
abbrev pub ReportsByRule : State → List Record → ReplayAnswer → List ℕ → Type 0
ReportsByRule s rs r store =
    r.number ≡ 0 → (own : RadioAddress) (first : List ℕ) (past : List Record) → own.0 < 2 ^ 24 → length first ≡ store_size
    → Possible (actions_of past) → s ≡ left (fresh_state own first) (actions_of past) → AsTheRule own first past rs s (state_of r.receiver store)

-- all of these, of what `replay` gives; and that it ends inside the text, takes no more than there is, and takes some of the last octets
pub record ReplayClaims (s : State) (os : List ℕ) (last : Bool) (text : List ℕ) (r : ReplayAnswer) (store' text' : List ℕ) : Type 0 where
  pub goes_on : ReportGoesOn s os last r store' text'
  pub by_rule : ReportsByRule s (records_answered last os text) r store'
  pub ends : r.end ≤ length text
  pub takes : r.taken ≤ length os
  pub takes_on : r.number ≡ 0 → last ≡ true → r.taken ≡ 0 → length os ≡ 0
