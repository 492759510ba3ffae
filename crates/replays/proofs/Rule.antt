-- A receiver that follows a history reports of records what the history rule gives; the claims over a log.
-- Assumes nothing.
use mathlib.Core.Path.{◌≡◌, refl, sym, ap, ap₂, subst, ◌∙◌}
use mathlib.Core.Bool.{Bool, true}
use mathlib.Core.List.{List, [], ◌∷◌, ◌++◌}
use Prim.Native.Nat.{ℕ, zero, suc, ◌+◌, ◌^◌, ◌<◌}
use native.Mathlib.Omega.{arith}
use lib.Dec.{eqb, ltb}
use lib.ListN.{length, get_or, take, drop, length-drop}
use borrow.Author.Tests.{eqb-true}
use Rattle.addresses.specs.declared.RadioAddress.{RadioAddress}
use Rattle.packets.proofs.Octets.{octets-take, octets-drop}
use Rattle.foundation.specs.Order.{all}
use Rattle.foundation.proofs.Tests.{either}
use Rattle.foundation.proofs.Order.{all-at}
use Rattle.receiver_state.specs.Receiver.{store_size, receiver_good}
use Rattle.history.specs.History.{header, block, ended, History, nothing, after, history_from}
use Rattle.history.specs.Run.{after_event, after_restart, Action, event, restart, State, left, events}
use Rattle.history.specs.Claims.{Octets, Possible, fresh_state}
use Rattle.history.proofs.Demand3.{Given, event-step, runs}
use Rattle.history.proofs.Follows.{Follows, fresh_follows, good}
use Rattle.history.proofs.Restart.{restart_follows}
use Rattle.history.proofs.Claims as history
use Rattle.logs.specs.Log.{Record, act, none, record_of, Line, answer, restarted, line_of, after_record}
use Rattle.replays.specs.Log.{record_end, is_whole, records, actions_of}
use Rattle.replays.specs.Rule.{lines_from}
use Rattle.replays.specs.Replay.{line_given, left_by_record, lines_given, left_by_records}
use Rattle.replays.specs.Claims.{LogClaims, AsTheRule}
use Rattle.replays.proofs.Forms.{form_is}

-- ---- records of octets: their actions are possible

-- a record of octets, where a restart's store has its size
abbrev GivenRecord : Record → Type 0
GivenRecord (act (event e)) = Given e
GivenRecord (act (restart s0 s1 store)) = length store ≡ store_size
GivenRecord none = Unit

restart-size : (kind : ℕ) (os : List ℕ) → all (eqb kind 3 ∷ eqb (length os) (2 + store_size) ∷ []) ≡ true → length (drop 2 os) ≡ store_size
restart-size kind os t = omega (arith, length-drop 2 os, eqb-true (length os) (2 + store_size) (all-at _ 1 t))

given_record : (kind : ℕ) (os : List ℕ) → Octets os → GivenRecord (record_of kind os)
unfolding record_of
given_record kind os o =
    either (eqb kind 0) (λ a. rw a o)
    (λ a. rw a (either (eqb kind 1) (λ b. rw b o)
    (λ b. rw b (either (all (eqb kind 2 ∷ eqb (length os) 0 ∷ [])) (λ d. rw d tt)
    (λ d. rw d (either (all (eqb kind 3 ∷ eqb (length os) (2 + store_size) ∷ [])) (λ e. rw e (restart-size kind os e)) (λ e. rw e tt)))))))

abbrev GivenAll : List Record → Type 0
GivenAll [] = Unit
GivenAll (r ∷ rs) = GivenRecord r × GivenAll rs

pub given-all : (last : Bool) (k : ℕ) (os : List ℕ) → Octets os → GivenAll (records last k os)
unfolding records
given-all last zero os o = tt
given-all last (suc k) os o =
    either (is_whole os)
    (λ t. rw t (
      given_record (get_or os 0 0) _ (octets-drop 3 (take (record_end os) os) (octets-take (record_end os) os o)),
      given-all last k (drop (record_end os) os) (octets-drop (record_end os) os o),
    ))
    (λ t. rw t (either (all (last ∷ ltb 0 (length os) ∷ [])) (λ u. rw u (tt, tt)) (λ u. rw u tt)))

possible_first : (r : Record) (rest : List Record) → GivenRecord r → Possible (actions_of rest) → Possible (actions_of (r ∷ rest))
unfolding actions_of
possible_first (act (event (header h))) rest o p = (o, p)
possible_first (act (event (block b))) rest o p = (o, p)
possible_first (act (event ended)) rest o p = p
possible_first (act (restart s0 s1 store)) rest o p = (o, p)
possible_first none rest o p = p

possible : (rs : List Record) → GivenAll rs → Possible (actions_of rs)
unfolding actions_of
possible [] g = tt
possible (r ∷ rs) g = possible_first r rs g.0 (possible rs g.1)

actions_append : (rs qs : List Record) → actions_of (rs ++ qs) ≡ actions_of rs ++ actions_of qs
unfolding actions_of
actions_append [] qs = refl
actions_append (act a ∷ rs) qs = ap (λ (l : List Action). a ∷ l) (actions_append rs qs)
actions_append (none ∷ rs) qs = actions_append rs qs

possible_append : (xs ys : List Action) → Possible xs → Possible ys → Possible (xs ++ ys)
possible_append [] ys p q = q
possible_append (event (header h) ∷ xs) ys p q = (p.0, possible_append xs ys p.1 q)
possible_append (event (block b) ∷ xs) ys p q = (p.0, possible_append xs ys p.1 q)
possible_append (event ended ∷ xs) ys p q = possible_append xs ys p q
possible_append (restart s0 s1 store ∷ xs) ys p q = (p.0, possible_append xs ys p.1 q)

left-append : (s : State) (xs ys : List Action) → left s (xs ++ ys) ≡ left (left s xs) ys
unfolding left
left-append s [] ys = refl
left-append s (event e ∷ xs) ys = left-append (after_event s e) xs ys
left-append s (restart s0 s1 store ∷ xs) ys = left-append (after_restart s s0 s1 store) xs ys

-- ---- records against the history rule

-- the history after a record
unfoldable history_after : RadioAddress → History → Record → History
history_after own p (act (event e)) = after own p e
history_after own p (act (restart s0 s1 store)) = p
history_after own p none = p

-- what is reported is the history's line, and the receiver still follows
record Reports (own : RadioAddress) (s : State) (p : History) (r : Record) : Type 0 where
  lines : (rest : List Record) → lines_from own p (r ∷ rest) ≡ line_of s r ∷ lines_from own (history_after own p r) rest
  follows : Follows own (after_record s r) (history_after own p r)

record_step : (own : RadioAddress) (s : State) (p : History) → Follows own s p → (r : Record) → GivenRecord r → Reports own s p r
unfolding lines_from line_of history_after after_record
record_step own s p m (act (event e)) o =
    let t = event-step own s p m e o in
    record { lines = λ rest. ap (λ x. answer x ∷ lines_from own (after own p e) rest) (sym t.same); follows = t.follows }
record_step own s p m (act (restart s0 s1 store)) o = record {
  lines = λ rest. ap (λ (f : List ℕ). restarted f ∷ lines_from own p rest) (sym (form_is own s p m s0 s1));
  follows = restart_follows own s p m s0 s1 store o;
}
record_step own s p m none o = record { lines = λ rest. refl; follows = m }

-- a receiver that there can be
module _ (s : State) (fit : receiver_good s.receiver ≡ true) (r : Record) where
  line-good : line_given s r ≡ line_of s r
  unfolding line_given
  line-good = rw fit

  left-good : left_by_record s r ≡ after_record s r
  unfolding left_by_record
  left-good = rw fit

lines-first : (own : RadioAddress) (p : History) (r : Record) (rs : List Record) (s : State) → Reports own s p r → receiver_good s.receiver ≡ true
    → lines_given (left_by_record s r) rs ≡ lines_from own (history_after own p r) rs → lines_given s (r ∷ rs) ≡ lines_from own p (r ∷ rs)
unfolding lines_given
lines-first own p r rs s t fit e = ap₂ (λ (l : Line) (ls : List Line). l ∷ ls) (line-good s fit r) e ∙ sym (t.lines rs)

pub by_rule_all : (own : RadioAddress) (rs : List Record) (s : State) (p : History) → GivenAll rs → Follows own s p → lines_given s rs ≡ lines_from own p rs
unfolding lines_given lines_from
by_rule_all own [] s p g f = refl
by_rule_all own (r ∷ rs) s p g f =
    let t = record_step own s p f r g.0 in
    let fit = good own s p f in
    let later = subst (λ (x : State). Follows own x (history_after own p r)) (sym (left-good s fit r)) t.follows in
    lines-first own p r rs s t fit (by_rule_all own rs (left_by_record s r) (history_after own p r) g.1 later)

-- the run over the actions of the records
one_left : (s : State) (r : Record) (rs : List Record) → left s (actions_of (r ∷ rs)) ≡ left (after_record s r) (actions_of rs)
unfolding actions_of left after_record
one_left s (act (event e)) rs = refl
one_left s (act (restart s0 s1 store)) rs = refl
one_left s none rs = refl

pub leaves_all : (own : RadioAddress) (rs : List Record) (s : State) (p : History) → GivenAll rs → Follows own s p
    → left_by_records s rs ≡ left s (actions_of rs)
unfolding left_by_records actions_of left
leaves_all own [] s p g f = refl
leaves_all own (r ∷ rs) s p g f =
    let t = record_step own s p f r g.0 in
    let e = left-good s (good own s p f) r in
    let later = subst (λ (x : State). Follows own x (history_after own p r)) (sym e) t.follows in
    leaves_all own rs (left_by_record s r) (history_after own p r) g.1 later ∙ ap (λ (x : State). left x (actions_of rs)) e ∙ sym (one_left s r rs)

-- ---- from a fresh receiver, behind any past

module _ (own : RadioAddress) (first : List ℕ) (past rs : List Record) (small : own.0 < 2 ^ 24) (room : length first ≡ store_size)
    (before : Possible (actions_of past)) (given : GivenAll rs) where
  all_possible : Possible (actions_of (past ++ rs))
  all_possible = subst Possible (sym (actions_append past rs)) (possible_append (actions_of past) (actions_of rs) before (possible rs given))

  log_claims : LogClaims own first (actions_of (past ++ rs))
  log_claims = record {
    demand3 = (history.claims).demand3 own first (actions_of (past ++ rs)) small room all_possible;
    once = (history.claims).once own first (actions_of (past ++ rs)) small room all_possible;
    savable = (history.claims).savable own first (actions_of (past ++ rs)) small room all_possible;
  }

  pub as_the_rule : (s s' : State) → s ≡ left (fresh_state own first) (actions_of past) → s' ≡ left_by_records s rs → AsTheRule own first past rs s s'
  as_the_rule s s' e e' =
      let p = history_from own nothing (events (actions_of past)) in
      let f : Follows own s p =
      subst (λ (x : State). Follows own x p) (sym e)
      (runs own (fresh_state own first) nothing (actions_of past) before (fresh_follows own first small room)).follows in
      record {
        lines = by_rule_all own rs s p given f;
        leaves = e' ∙ leaves_all own rs s p given f ∙ ap (λ (x : State). left x (actions_of rs)) e
            ∙ sym (left-append (fresh_state own first) (actions_of past) (actions_of rs))
            ∙ ap (left (fresh_state own first)) (sym (actions_append past rs));
        claims = log_claims;
      }
