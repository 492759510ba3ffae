-- What a stored form holds: its number, and a receiver and a store that can be saved.
-- Assumes nothing.
use mathlib.Core.Path.{◌≡◌, sym, ap, subst, ◌∙◌}
use mathlib.Core.List.{List}
use Prim.Native.Nat.{ℕ, ◌*◌}
use lib.ListN.{length, take, drop, replicate, length-replicate}
use Rattle.addresses.specs.Octets.{address_at}
use Rattle.addresses.specs.declared.RadioAddress.{RadioAddress}
use Rattle.packets.proofs.Octets.{octets-take, octets-drop}
use Rattle.transactions.specs.Flags.{flag_octet_count}
use Rattle.receiver_state.specs.Receiver.{store_size, fresh_receiver}
use Rattle.receiver_state.specs.declared.Receiver.{Receiver}
use Rattle.std.specs.Prelude.{Result, Ok, Err}
use mathlib.Core.Logic.{◌≢◌}
use Rattle.foundation.specs.Refusals.{outcome}
use Rattle.foundation.specs.declared.refusal.Refusal.{Refusal}
use Rattle.foundation.proofs.Refusals.{ok_zero, ok_same, err_number, err_any}
use Rattle.stored.specs.Stored.{stored_block, block0, receiver_in, restore_number, restored, restored_given, after_restore}
use Rattle.stored.specs.Claims.{Savable}
use Rattle.stored.proofs.Numbers.{sizes}
use Rattle.stored.proofs.SavingBack.{savable}
use Rattle.history.specs.Run.{State}
use Rattle.history.specs.Claims.{Octets}
use Rattle.logs.specs.Log.{state_of}
use Rattle.forms.specs.Forms.{state_in, form_number}

abbrev pub no_octets : List ℕ
no_octets = replicate store_size 0

pub length_none : length no_octets ≡ store_size
length_none = length-replicate {A = ℕ} store_size 0

flags-small : (form : List ℕ) → Octets form → Octets (receiver_in (block0 form)).flags.octets
unfolding receiver_in block0
flags-small form small =
    let a = take stored_block form in octets-take flag_octet_count (drop 15 a) (octets-drop 15 a (octets-take stored_block form small))

-- ---- a form that is taken

-- what is restored by a fresh receiver of the address in the form
pub fresh_taken : (form : List ℕ) (own : RadioAddress) → own ≡ address_at form 5 → (f : Receiver) → f ≡ fresh_receiver own
    → (store : List ℕ) → store ≡ no_octets → (t : Result Receiver Refusal) (left : List ℕ) → t ≡ restored_given (restored f form store)
    → left ≡ after_restore f form store
    → (t ≡ restored_given (restored (fresh_receiver (address_at form 5)) form no_octets)) × (left ≡ after_restore (fresh_receiver (address_at form 5)) form no_octets)
fresh_taken form own is f ef store es t left et el =
    let k : f ≡ fresh_receiver (address_at form 5) = ef ∙ ap fresh_receiver is in rw (← k, ← es) (et, el)

module _ (form store : List ℕ) (es : store ≡ after_restore (fresh_receiver (address_at form 5)) form no_octets) where
  abbrev given : Result Receiver Refusal
  given = restored_given (restored (fresh_receiver (address_at form 5)) form no_octets)

  -- a form that is none
  pub number_is : (r : Refusal) → Err r ≡ given → (form_number form ≢ 0) × (Err r ≡ outcome {A = Unit {0}} (form_number form) tt)
  unfolding form_number restored restored_given
  number_is r e = (err_number _ _ r (sym e), sym (err_any _ _ tt r (sym e)))

  module _ (rx : Receiver) (et : Ok rx ≡ given) where
    no_number : restore_number (fresh_receiver (address_at form 5)) form no_octets ≡ 0
    unfolding restored restored_given
    no_number = ok_zero _ _ rx (sym et)

    pub form_taken : form_number form ≡ 0
    unfolding form_number
    form_taken = no_number

    pub size_is : length form ≡ 2 * stored_block
    size_is = (sizes (fresh_receiver (address_at form 5)) form no_octets no_number).1

    receiver_is : rx ≡ receiver_in (block0 form)
    unfolding restored restored_given
    receiver_is = sym (ok_same _ _ rx (sym et)) ∙ rw no_number

    pub state_is : state_of rx store ≡ state_in form
    unfolding state_in after_restore
    state_is = rw (receiver_is, es, no_number)

    pub state_savable : Savable rx store
    unfolding state_in
    state_savable = subst (λ (s : State). Savable s.receiver s.store) (sym state_is) (savable (fresh_receiver (address_at form 5)) form no_octets no_number)

    pub state_flags : Octets form → Octets rx.flags.octets
    unfolding state_in
    state_flags small = subst (λ (s : State). Octets s.receiver.flags.octets) (sym state_is) (flags-small form small)
