-- A gateway that follows a history tells of datagrams what the history rule gives.
-- Assumes nothing.
use mathlib.Core.Path.{◌≡◌, refl, sym, ap, ap₂, subst, ◌∙◌}
use mathlib.Core.List.{List, [], ◌∷◌}
use Prim.Native.Nat.{ℕ, ◌^◌, ◌<◌}
use lib.ListN.{length}
use Rattle.addresses.specs.Octets.{address_at}
use Rattle.addresses.specs.declared.RadioAddress.{RadioAddress}
use Rattle.receiver_state.specs.Receiver.{store_size, Fresh}
use Rattle.receiver_state.specs.declared.Receiver.{Receiver}
use Rattle.history.specs.History.{History, nothing}
use Rattle.history.specs.Run.{State}
use Rattle.history.proofs.Follows.{Follows, fresh_fits, fresh_follows}
use Rattle.reception.specs.Rule.{said_to_datagram, rule_after}
use Rattle.reception.proofs.Rule.{datagram-step}
use Rattle.captures.specs.Lines.{Outcome}
use Rattle.captures.specs.Captures.{started, Running, running, answer_given, left_by, outcome_of, left_by_all, outcomes}
use Rattle.captures.specs.Rule.{outcomes_by_rule, history_over}

-- the receiver and the store
abbrev state_of : Running → State
state_of s = record { receiver = s.gateway.receiver; store = s.store }

module _ (own : RadioAddress) where
  follows_left : (s : Running) (p : History) (d : List ℕ) → Follows own (state_of s) p → Follows own (state_of (left_by s d)) (rule_after own p d)
  unfolding left_by
  follows_left s p d f = (datagram-step own (state_of s) p f d).follows

  by_rule_one : (s : Running) (p : History) (d : List ℕ) → Follows own (state_of s) p
      → outcome_of s d ≡ record { said = said_to_datagram own p d; transaction = (rule_after own p d).transaction }
  unfolding outcome_of answer_given left_by
  by_rule_one s p d f =
      let t = datagram-step own (state_of s) p f d in
      λ i. record { said = t.same i; transaction = t.follows.agrees.transaction i }

  by_rule_all : (ds : List (List ℕ)) (s : Running) (p : History) → Follows own (state_of s) p → outcomes s ds ≡ outcomes_by_rule own p ds
  unfolding outcomes outcomes_by_rule
  by_rule_all [] s p f = refl
  by_rule_all (d ∷ ds) s p f =
      ap₂ (λ (o : Outcome) (os : List Outcome). o ∷ os) (by_rule_one s p d f) (by_rule_all ds (left_by s d) (rule_after own p d) (follows_left s p d f))

  follows_all : (ds : List (List ℕ)) (s : Running) (p : History) → Follows own (state_of s) p → Follows own (state_of (left_by_all s ds)) (history_over own p ds)
  unfolding left_by_all history_over
  follows_all [] s p f = f
  follows_all (d ∷ ds) s p f = follows_all ds (left_by s d) (rule_after own p d) (follows_left s p d f)

-- from a start
start_follows : (own first : List ℕ) → (address_at own 0).0 < 2 ^ 24 → length first ≡ store_size
    → Follows (address_at own 0) (state_of (running (started own) first)) nothing
unfolding started
start_follows own first small room =
    subst (λ (r : Receiver). Follows (address_at own 0) (record { receiver = r; store = first }) nothing)
    (sym (ap (λ (f : Fresh). f.receiver) (fresh_fits (address_at own 0) small))) (fresh_follows (address_at own 0) first small room)

pub by_rule : (own first : List ℕ) (past : List (List ℕ)) → (address_at own 0).0 < 2 ^ 24 → length first ≡ store_size → (s : Running)
    → s ≡ left_by_all (running (started own) first) past → (ds : List (List ℕ))
    → outcomes s ds ≡ outcomes_by_rule (address_at own 0) (history_over (address_at own 0) nothing past) ds
by_rule own first past small room s e ds =
    let f = follows_all (address_at own 0) past (running (started own) first) nothing (start_follows own first small room) in
    ap (λ (x : Running). outcomes x ds) e ∙ by_rule_all (address_at own 0) ds (left_by_all (running (started own) first) past) (history_over (address_at own 0) nothing past) f
