-- One record: what it is by its kind, what a restart does, and what `recorded` says of it.
-- Assumes nothing.
use mathlib.Core.Path.{◌≡◌, refl}
use mathlib.Core.Bool.{true, false, cond}
use mathlib.Core.List.{List}
use mathlib.Core.Logic.{◌≢◌}
use Prim.Native.Nat.{ℕ, ◌+◌, ◌*◌}
use native.Mathlib.Omega.{arith}
use lib.Dec.{eqb}
use lib.ListN.{length, get_or, drop}
use borrow.Author.Tests.{eq-eqb, ne_eqb, eqb-true}
use Rattle.foundation.specs.Order.{first_failed, all}
use Rattle.foundation.proofs.Tests.{either}
use Rattle.receiver_state.specs.Receiver.{store_size, fresh_receiver, receiver_good}
use Rattle.receiver_state.specs.declared.Receiver.{Receiver}
use Rattle.stored.specs.Stored.{stored_block, saved, save_number, after_save, restored, restored_given, after_restore}
use Rattle.history.specs.Run.{event, restart, State, saved_form, after_restart}
use Rattle.history.proofs.Claims.{claims}
use Rattle.logs.specs.Claims.{RecordRefused}
use Rattle.logs.specs.Numbers.{kind_of}
use Rattle.logs.specs.Parts.{record_by}
use Rattle.logs.specs.Log.{Record, act, none, restart_of, record_of, line_of, after_record, line_size, line_in, record_number, state_of, recorded, recorded_given, record_store, record_line}
use Rattle.std.specs.Prelude.{Result, Ok, Err, zero, suc}
use Rattle.std.specs.Result.{result_unwrap_or, IsOk}
use Rattle.foundation.specs.Refusals.{outcome, refusal}
use Rattle.foundation.specs.declared.refusal.Refusal.{Refusal}
use Rattle.foundation.specs.declared.refusal.Refusal.TheVariants.{Size}

-- ---- kinds

-- a record is the one of the kind of its number
pub by_kind : (n : ℕ) (os : List ℕ) → record_by (kind_of n) os ≡ record_of n os
unfolding record_of record_by kind_of all
by_kind n os =
    either (eqb n 0) (λ a. rw a refl)
    (λ a. either (eqb n 1) (λ b. rw (a, b) refl)
    (λ b. either (eqb n 2)
    (λ c. either (eqb (length os) 0) (λ d. rw (a, b, c, d) refl) (λ d. rw (a, b, c, d, ne_eqb n 3 (λ e. omega (arith, eqb-true n 2 c))) refl))
    (λ c. either (eqb n 3)
    (λ d. either (eqb (length os) (2 + store_size)) (λ e. rw (a, b, c, d, e) refl) (λ e. rw (a, b, c, d, e) refl)) (λ d. rw (a, b, c, d) refl))))

-- ---- a restart

module _ (rx : Receiver) (good : receiver_good rx ≡ true) where
  pub form_of : (store : List ℕ) (s0 s1 : ℕ) (form : List ℕ) → length store ≡ store_size → length form ≡ 2 * stored_block
      → after_save rx store s0 s1 form ≡ saved rx store s0 s1
  unfolding after_save save_number first_failed
  form_of store s0 s1 form e f = rw (good, eq-eqb (length store) store_size e, eq-eqb (length form) (2 * stored_block) f)

-- saving is not refused
pub saves : (rx : Receiver) (store form : List ℕ) → receiver_good rx ≡ true → length store ≡ store_size → length form ≡ 2 * stored_block
    → (r : Result (Unit {0}) Refusal) → r ≡ outcome (save_number rx store form) tt → IsOk r
unfolding save_number first_failed outcome
saves rx store form good e f r is = rw (is, good, eq-eqb (length store) store_size e, eq-eqb (length form) (2 * stored_block) f)

-- of a refused restore the receiver that was given is left
either_kept : (n : ℕ) (a b : Receiver) → result_unwrap_or (outcome n (cond (eqb n 0) a b)) b ≡ cond (eqb n 0) a b
unfolding outcome
either_kept zero a b = refl
either_kept (suc n) a b = rw (ne_eqb (suc n) 0 (λ z. omega arith))

pub restart-leaves : (rx : Receiver) (store os : List ℕ) (next : Receiver) (form other : List ℕ) → next ≡ fresh_receiver rx.own
    → form ≡ saved rx store (get_or os 0 0) (get_or os 1 0) → other ≡ drop 2 os
    → (r : Result Receiver Refusal) → r ≡ restored_given (restored next form other)
    → (result_unwrap_or r next ≡ (after_record (state_of rx store) (restart_of os)).receiver)
    × (after_restore next form other ≡ (after_record (state_of rx store) (restart_of os)).store)
unfolding after_record after_restart saved_form restored restored_given
restart-leaves rx store os next form other e f g r h = rw (h, e, f, g) (either_kept _ _ _, refl)

-- ---- what is recorded

record_refused : (s : State) (r : Record) → RecordRefused s r
unfolding line_of after_record
record_refused s (act (event e)) n h = claims.refused_changes_nothing s e n cc
record_refused s (act (restart s0 s1 store)) n h = cc
record_refused s none n h = refl

module _ (rx : Receiver) (store : List ℕ) (r : Record) (line : List ℕ) where
  -- what `record` ensures: the receiver, the store and the line are those that `recorded` tells, and a refused record changes nothing
  abbrev pub Tells : Result Receiver Refusal → List ℕ → List ℕ → Type 0
  Tells out store' line' =
      (out ≡ recorded_given (recorded rx store r line)) × (store' ≡ record_store rx store r line) × (line' ≡ record_line rx store r line)
      × RecordRefused (state_of rx store) r

  refused_tells : record_number rx store line ≡ 1 → Tells (Err Size) store line
  unfolding recorded recorded_given record_store record_line outcome refusal
  refused_tells e = rw e (refl, refl, refl, record_refused (state_of rx store) r)

  pub bad-receiver : receiver_good rx ≡ false → Tells (Err Size) store line
  unfolding record_number first_failed
  bad-receiver e = refused_tells (rw e)

  module _ (good : receiver_good rx ≡ true) where
    pub bad-store : length store ≢ store_size → Tells (Err Size) store line
    unfolding record_number first_failed
    bad-store e = refused_tells (rw (good, ne_eqb (length store) store_size e))

    module _ (room : length store ≡ store_size) where
      pub bad-line : length line ≢ line_size → Tells (Err Size) store line
      unfolding record_number first_failed
      bad-line e = refused_tells (rw (good, eq-eqb (length store) store_size room, ne_eqb (length line) line_size e))

      module _ (size : length line ≡ line_size) where
        taken-number : record_number rx store line ≡ 0
        unfolding record_number first_failed
        taken-number = rw (good, eq-eqb (length store) store_size room, eq-eqb (length line) line_size size)

        pub taken_tells : Tells (Ok (after_record (state_of rx store) r).receiver) (after_record (state_of rx store) r).store (line_in (line_of (state_of rx store) r))
        unfolding recorded recorded_given record_store record_line outcome
        taken_tells = rw taken-number (refl, refl, refl, record_refused (state_of rx store) r)
