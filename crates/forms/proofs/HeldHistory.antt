-- A receiver and a store that can be saved follow a history: that of the held blocks. So they can be saved after every event too.
-- Assumes nothing.
use mathlib.Core.Path.{◌≡◌, refl, sym, ap, subst, ◌∙◌, fun_ext}
use mathlib.Core.Bool.{Bool, true, false, cond, not}
use mathlib.Core.List.{List, [], ◌∷◌}
use Prim.Native.Nat.{ℕ, zero, suc, ◌^◌, ◌≤◌, ◌<◌}
use native.Mathlib.Omega.{arith}
use native.Mathlib.Nat.{not-suc-le-zero}
use native.Mathlib.Decide.{dec_lt}
use lib.Dec.{T, eqb, ltb}
use borrow.Author.Tests.{eq-eqb, ne_eqb, eqb-true, eqb-false, ltb-true, leb-true, not-true}
use Rattle.foundation.specs.Order.{every}
use Rattle.foundation.proofs.Tests.{every-at}
use Rattle.transactions.specs.Flags.{flag_count, flagged}
use Rattle.foundation.proofs.Tests.{either, never}
use Rattle.foundation.proofs.Order.{all-at}
use Rattle.transactions.proofs.FlagOctets.{flagged_far}
use Rattle.receiver_state.specs.Receiver.{block_at, held, all_held, none_from, receiver_good, transaction_none, transaction_good}
use Rattle.receiver_state.specs.declared.Receiver.{Receiver}
use Rattle.stored.specs.Claims.{Savable}
use Rattle.history.specs.History.{Event, Kept, History, holds, held_data, whole}
use Rattle.history.specs.Run.{after_event}
use Rattle.history.specs.Claims.{Octets, Agrees}
use Rattle.history.proofs.Sound.{Sound}
use Rattle.history.proofs.Follows.{Follows, store-message, can_be_saved}
use Rattle.history.proofs.Demand3.{Given, event-step}
use Rattle.logs.specs.Log.{state_of}

-- ---- the held blocks of numbers below k, as kept ones

unfoldable pub kept_below : (ℕ → Bool) → (ℕ → List ℕ) → ℕ → List Kept
kept_below f octets zero = []
kept_below f octets (suc k) = cond (f k) (record { serial = k; octets = octets k } ∷ kept_below f octets k) (kept_below f octets k)

module _ (f : ℕ → Bool) (octets : ℕ → List ℕ) where
  below_none : (k n : ℕ) → f n ≡ false → holds (kept_below f octets k) n ≡ false
  unfolding kept_below holds
  below_none zero n e = refl
  below_none (suc k) n e =
      either (f k)
      (λ t. simp (t, ne_eqb k n (λ z. never (ap f (sym z) ∙ t) e)) (below_none k n e))
      (λ t. simp t (below_none k n e))

  below-held : (k n : ℕ) → n < k → f n ≡ true → holds (kept_below f octets k) n ≡ true
  unfolding kept_below holds
  below-held zero n l e = absurd (not-suc-le-zero l)
  below-held (suc k) n l e =
      either (eqb k n)
      (λ u. let t : f k ≡ true = ap f (eqb-true k n u) ∙ e in simp (t, u))
      (λ u. let l' : n < k = omega (arith, eqb-false k n u) in
      either (f k) (λ t. simp (t, u) (below-held k n l' e)) (λ t. simp t (below-held k n l' e)))

  below_data : (k n : ℕ) → n < k → f n ≡ true → held_data (kept_below f octets k) n ≡ octets n
  unfolding kept_below held_data
  below_data zero n l e = absurd (not-suc-le-zero l)
  below_data (suc k) n l e =
      either (eqb k n)
      (λ u. let t : f k ≡ true = ap f (eqb-true k n u) ∙ e in simp (t, u) (ap octets (eqb-true k n u)))
      (λ u. let l' : n < k = omega (arith, eqb-false k n u) in
      either (f k) (λ t. simp (t, u) (below_data k n l' e)) (λ t. simp t (below_data k n l' e)))

-- ---- the history

module _ (rx : Receiver) (store : List ℕ) (m : Savable rx store) (small : Octets rx.flags.octets) where
  abbrev history : History
  history = record { phase = rx.phase; transaction = rx.transaction; kept = kept_below (held rx) (block_at store) flag_count }

  few : (n : ℕ) → held rx n ≡ true → n < flag_count
  few n e = go (dec_lt n flag_count)
    where
      go : Dec (n < flag_count) → n < flag_count
      go (yes l) = l
      go (no l) = never e (flagged_far rx.flags.octets n m.flags (omega arith))

  flags_agree : (n : ℕ) → held rx n ≡ holds history.kept n
  flags_agree n =
      either (held rx n) (λ e. e ∙ sym (below-held (held rx) (block_at store) flag_count n (few n e) e))
      (λ e. e ∙ sym (below_none (held rx) (block_at store) flag_count n e))

  octets_agree : (n : ℕ) → holds history.kept n ≡ true → block_at store n ≡ held_data history.kept n
  octets_agree n e =
      let h : held rx n ≡ true = flags_agree n ∙ e in sym (below_data (held rx) (block_at store) flag_count n (few n h) h)

  all_agree : all_held rx ≡ whole rx.transaction history.kept
  unfolding all_held whole
  all_agree = ap (every rx.transaction.blocks) (fun_ext flags_agree)

  agrees : Agrees rx.own (state_of rx store) history
  agrees = record { address = refl; phase = refl; transaction = refl; flags = flags_agree; octets = octets_agree }

  fields : cond (eqb rx.phase 0) (transaction_none rx.transaction) (transaction_good rx.transaction) ≡ true
  unfolding receiver_good
  fields = all-at _ 2 m.good

  none_past_lem : none_from rx.transaction.blocks rx.flags.octets flag_count ≡ true
  unfolding receiver_good
  none_past_lem = all-at _ 3 m.good

  below : (n : ℕ) → held rx n ≡ true → n < rx.transaction.blocks
  unfolding none_from
  below n e =
      let t = every-at flag_count (λ i. cond (ltb i rx.transaction.blocks) true (not (flagged rx.flags.octets i))) (subst T (sym none_past_lem) tt) n (few n e) in
      either (ltb n rx.transaction.blocks) (λ l. ltb-true n rx.transaction.blocks l) (λ l. absurd (simp (l, e) at t))

  missing : rx.phase ≡ 1 → all_held rx ≡ false
  unfolding receiver_good
  missing p =
      let e : cond (eqb rx.phase 1) (not (all_held rx)) true ≡ true = all-at _ 4 m.good in
      not-true (all_held rx) (rw (eq-eqb rx.phase 1 p) at e)

  complete : rx.phase ≡ 2 → all_held rx ≡ true
  unfolding receiver_good
  complete p =
      let e : cond (eqb rx.phase 2) (all_held rx) true ≡ true = all-at _ 5 m.good in
      rw (eq-eqb rx.phase 2 p) at e

  phases : rx.phase ≤ 2
  unfolding receiver_good
  phases = leb-true rx.phase 2 (all-at _ 1 m.good)

  own_small : rx.own.0 < 2 ^ 24
  unfolding receiver_good
  own_small = ltb-true rx.own.0 (2 ^ 24) (all-at _ 0 m.good)

  sound : Sound history
  sound = record {
    phases = phases;
    fields = fields;
    below = λ n e. below n (flags_agree n ∙ e);
    missing = λ p. sym all_agree ∙ missing p;
    complete = λ p. sym all_agree ∙ complete p;
    checked = λ p. rw (store-message rx.own (state_of rx store) history agrees (sym all_agree ∙ complete p)) at (m.checked p);
  }

  pub savable_follows : Follows rx.own (state_of rx store) history
  savable_follows = record { small = own_small; sound = sound; agrees = agrees; room = m.room; places = m.flags; flag_octets_lem = small }

  pub savable-after : (e : Event) → Given e → Savable (after_event (state_of rx store) e).receiver (after_event (state_of rx store) e).store
  savable-after e o = can_be_saved rx.own _ _ (event-step rx.own (state_of rx store) history savable_follows e o).follows
