-- Demand 3: over every list of events and restarts from a fresh receiver the answers are those of the history rule, and what is left agrees
-- with the history and can be saved.
-- Assumes nothing.
use mathlib.Core.Path.{◌≡◌, refl, ap₂}
use mathlib.Core.List.{List, [], ◌∷◌}
use Prim.Native.Nat.{ℕ, ◌^◌, ◌<◌}
use lib.ListN.{length}
use Rattle.addresses.specs.declared.RadioAddress.{RadioAddress}
use Rattle.receiver_state.specs.Receiver.{store_size}
use Rattle.stored.specs.Claims.{Savable}
use Rattle.history.specs.History.{Event, header, block, ended, History, nothing, after, said_to, history_from, said_from}
use Rattle.history.specs.Run.{Action, event, restart, State, after_event, answer_to, answers, left, events, after_restart}
use Rattle.history.specs.Claims.{Octets, Possible, fresh_state, Demand3}
use Rattle.history.proofs.Sound.{sound_header, sound_block}
use Rattle.history.proofs.Follows.{Follows, fresh_follows, can_be_saved}
use Rattle.history.proofs.Steps.{Matches, header-step, end_step}
use Rattle.history.proofs.Blocks.{block-step}
use Rattle.history.proofs.Restart.{restart_follows}

-- an event of octets
abbrev pub Given : Event → Type 0
Given (header h) = Octets h
Given (block b) = Octets b
Given ended = Unit

pub event-step : (own : RadioAddress) (s : State) (p : History) → Follows own s p → (e : Event) → Given e
    → Matches own (after_event s e) (answer_to s e) (after own p e) (said_to own p e)
unfolding after
event-step own s p m (header h) o = header-step own s p m h (sound_header own p h o m.sound)
event-step own s p m (block b) o = block-step own s p m b (sound_block p b m.sound)
event-step own s p m ended o = end_step own s p m

-- a run against the history over its events
pub record Runs (own : RadioAddress) (s : State) (p : History) (actions : List Action) : Type 0 where
  pub same : answers s actions ≡ said_from own p (events actions)
  pub follows : Follows own (left s actions) (history_from own p (events actions))

module _ (own : RadioAddress) (s : State) (p : History) (m : Follows own s p) (e : Event) (o : Given e) (rest : List Action) where
  event-first : Runs own (after_event s e) (after own p e) rest → Runs own s p (event e ∷ rest)
  unfolding answers left events said_from history_from
  event-first r = record { same = ap₂ ◌∷◌ (event-step own s p m e o).same r.same; follows = r.follows }

module _ (own : RadioAddress) where
  pub runs : (s : State) (p : History) (actions : List Action) → Possible actions → Follows own s p → Runs own s p actions
  unfolding answers left events said_from history_from
  runs s p [] o m = record { same = refl; follows = m }
  runs s p (event (header h) ∷ rest) o m =
      event-first own s p m (header h) o.0 rest (runs (after_event s (header h)) (after own p (header h)) rest o.1 (event-step own s p m (header h) o.0).follows)
  runs s p (event (block b) ∷ rest) o m =
      event-first own s p m (block b) o.0 rest (runs (after_event s (block b)) (after own p (block b)) rest o.1 (event-step own s p m (block b) o.0).follows)
  runs s p (event ended ∷ rest) o m = event-first own s p m ended tt rest (runs (after_event s ended) (after own p ended) rest o (event-step own s p m ended tt).follows)
  runs s p (restart s0 s1 store ∷ rest) o m =
      let r = runs (after_restart s s0 s1 store) p rest o.1 (restart_follows own s p m s0 s1 store o.0) in
      record { same = r.same; follows = r.follows }

module _ (own : RadioAddress) (store : List ℕ) (actions : List Action) (small : own.0 < 2 ^ 24)
    (room : length store ≡ store_size) (o : Possible actions) where
  run : Runs own (fresh_state own store) nothing actions
  run = runs own (fresh_state own store) nothing actions o (fresh_follows own store small room)

  pub demand3 : Demand3 own store actions
  demand3 = record { answers_are = run.same; left_is = run.follows.agrees }

  pub savable : Savable (left (fresh_state own store) actions).receiver (left (fresh_state own store) actions).store
  savable = can_be_saved own _ _ run.follows
