-- The loop of `run`: how it begins and how it ends.
-- Assumes nothing.
use Rattle.std.proofs.Common.{nat_lt, ◌≡◌, ℕ, zero, suc, ◌+◌, ◌/◌, drop, ◌^◌, ◌<◌, ◌≤◌, Bool, true, false, List, [], length, replicate, sym, refl, ap, subst, ◌∙◌, arith}
use lib.ListN.{length-replicate}
use lib.Dec.{leb}
use borrow.Author.Tests.{eq-eqb, le-leb, leb-true, leb-false, ltb-false}
use Rattle.foundation.specs.Order.{all, first_failed}
use Rattle.foundation.proofs.OctetLists.{Octets}
use Rattle.addresses.specs.Octets.{address_at}
use Rattle.receiver_state.specs.Receiver.{store_size, Fresh, fresh_for}
use Rattle.receiver_state.specs.declared.Receiver.{Receiver}
use Rattle.history.specs.History.{nothing}
use Rattle.history.specs.Run.{State}
use Rattle.history.proofs.Follows.{Follows, fresh_fits, fresh_follows}
use Rattle.logs.specs.Log.{state_of}
use Rattle.replays.specs.Log.{records_of, records, record_end, is_whole, octets_taken}
use Rattle.replays.specs.Text.{report_text, report_room}
use Rattle.replays.specs.Rule.{lines_from}
use Rattle.replays.specs.Replay.{ReplayAnswer, lines_given, report_from, replay_number, replayed}
use Rattle.replays.proofs.Rule.{given-all, by_rule_all}
use Rattle.inputs.specs.Inputs.{behind_own}
use Rattle.replay.specs.Reports.{report_of}
use Rattle.replay.specs.declared.Reporter.{Reporter}

-- where nothing is taken and more can follow, the first record has not come whole: there are fewer octets than the longest has
module _ (os : List ℕ) (o : Octets os) where
  whole_by : 65538 ≤ length os → is_whole os ≡ true
  unfolding is_whole all
  whole_by h = rw (le-leb 3 (length os) (omega arith), le-leb (record_end os) (length os) (omega (arith, o 1, o 2))) refl

  taken_more : (k : ℕ) → is_whole os ≡ true → octets_taken false (suc k) os ≡ record_end os + octets_taken false k (drop (record_end os) os)
  unfolding octets_taken
  taken_more k e = rw e refl

  few_taken : (k : ℕ) → 0 < k → octets_taken false k os ≡ 0 → length os < 65538
  few_taken zero h z = absurd (omega (arith, h))
  few_taken (suc k) h z = go (leb 65538 (length os)) refl
    where
      go : (b : Bool) → leb 65538 (length os) ≡ b → length os < 65538
      go false e = leb-false 65538 (length os) e
      go true e = absurd (omega (arith, z, taken_more k (whole_by (leb-true 65538 (length os) e))))

pub few_left : (rx : Receiver) (store os text : List ℕ) (last : Bool) (r : ReplayAnswer) → Octets os → length store ≡ store_size
    → report_room ≤ length text → r ≡ replayed rx store os last text → last ≡ false → r.taken ≡ 0 → length os < 65538
unfolding replayed replay_number first_failed
few_left rx store os text last r o room line e f z =
    let none : replay_number store text ≡ 0 = rw (eq-eqb (length store) store_size room, le-leb report_room (length text) line) refl in
    let taken : r.taken ≡ octets_taken false (length text / report_room) os =
    ap (λ (x : ReplayAnswer). x.taken) (e ∙ ap (λ (b : Bool). replayed rx store os b text) f) ∙ rw none refl in
    few_taken os o (length text / report_room) (omega (arith, line)) (sym taken ∙ z)

-- nothing more to come
pub report_none : (s : State) → report_from s [] ≡ []
unfolding report_from records_of records report_text lines_given
report_none s = refl

-- a receiver of this address before its first record, over a store of zeros
abbrev fresh_over : List ℕ → State
fresh_over own = state_of (fresh_for (address_at own 0)).receiver (replicate store_size 0)

-- from a start: by the history rule
by_the_rule : (own : List ℕ) → (address_at own 0).0 < 2 ^ 24 → (os : List ℕ) → Octets os
    → report_from (fresh_over own) os ≡ report_text (lines_from (address_at own 0) nothing (records_of os))
unfolding report_from records_of
by_the_rule own small os octets =
    let fresh : Follows (address_at own 0) (fresh_over own) nothing =
    subst (λ (rx : Receiver). Follows (address_at own 0) (state_of rx (replicate store_size 0)) nothing)
    (sym (ap (λ (f : Fresh). f.receiver) (fresh_fits (address_at own 0) small)))
    (fresh_follows (address_at own 0) (replicate store_size 0) small (length-replicate {A = ℕ} store_size 0)) in
    ap report_text (by_rule_all (address_at own 0) (records_of os) (fresh_over own) nothing (given-all true (length os) os octets) fresh)

-- the text of what comes, and a start
abbrev pub whole : Reporter → List ℕ → List ℕ
whole s = report_from (state_of s.receiver s.store)

abbrev pub fresh : Receiver → Reporter
fresh rx = record { receiver = rx; store = replicate store_size 0 }

-- what is reported from a start is the whole text
pub reported_whole : (own : List ℕ) (rx : Receiver) → rx ≡ (fresh_for (address_at own 0)).receiver → Octets own → (os : List ℕ) → (3 ≤ length own → Octets os)
    → report_of own os ≡ behind_own whole own (fresh rx) os
unfolding report_of behind_own
reported_whole own rx e octets os o = go (nat_lt (length own) 3) refl
  where
    go : (b : Bool) → nat_lt (length own) 3 ≡ b → report_of own os ≡ behind_own whole own (fresh rx) os
    go true t = rw t (sym (report_none (state_of rx (replicate store_size 0))))
    go false f = rw (f, e) (sym (by_the_rule own (omega (arith, octets 0, octets 1, octets 2)) os (o (ltb-false (length own) 3 f))))
