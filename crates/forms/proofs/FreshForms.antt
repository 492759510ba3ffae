-- The stored form of a fresh receiver: its numbers in their order.
-- Assumes nothing.
use mathlib.Core.Path.{◌≡◌, refl, sym, ap, subst, ◌∙◌}
use mathlib.Core.Bool.{false}
use mathlib.Core.List.{List}
use mathlib.Core.Logic.{◌≢◌}
use Prim.Native.Nat.{ℕ, ◌*◌, ◌^◌, ◌<◌}
use native.Mathlib.Omega.{arith}
use lib.Dec.{ltb}
use lib.ListN.{length}
use borrow.Author.Tests.{eq-eqb, ne_eqb, ltb-true}
use Rattle.addresses.specs.declared.RadioAddress.{RadioAddress}
use Rattle.foundation.specs.Order.{first_failed}
use Rattle.foundation.proofs.Tests.{either}
use Rattle.std.specs.Prelude.{Result, Ok, Err}
use Rattle.foundation.specs.Refusals.{outcome, refusal}
use Rattle.foundation.specs.declared.refusal.Refusal.{Refusal}
use Rattle.foundation.specs.declared.refusal.Refusal.TheVariants.{Size, Unwritable}
use Rattle.foundation.proofs.Refusals.{ok_zero, ok_same, err_number, err_any}
use Rattle.receiver_state.specs.Receiver.{Fresh, fresh_receiver, fresh_for, fresh_given}
use Rattle.receiver_state.specs.declared.Receiver.{Receiver}
use Rattle.stored.specs.Stored.{stored_block, save_number, after_save}
use Rattle.stored.proofs.Numbers.{is_usable, save_taken}
use Rattle.stored.proofs.RestoredBack.{fresh_good}
use Rattle.history.proofs.Follows.{fresh_fits}
use Rattle.forms.specs.Forms.{fresh_form, fresh_number, after_fresh}
use Rattle.forms.proofs.FormStates.{no_octets, length_none}

module _ (own : RadioAddress) (s0 s1 : ℕ) (form : List ℕ) where
  abbrev Made : Result (Unit {0}) Refusal → List ℕ → Type 0
  Made given form' = (given ≡ outcome (fresh_number own form) tt) × (form' ≡ after_fresh own s0 s1 form)

  no_change : (n : ℕ) → fresh_number own form ≡ n → n ≢ 0 → Made (outcome n tt) form
  unfolding after_fresh
  no_change n e d = (rw e, rw (e, ne_eqb n 0 d))

  pub fresh_other_size : length form ≢ 2 * stored_block → Made (Err Size) form
  unfolding outcome refusal
  fresh_other_size d = no_change 1 (unfold fresh_number first_failed in rw (ne_eqb (length form) (2 * stored_block) d)) (λ z. omega arith)

  module _ (size : length form ≡ 2 * stored_block) where
    -- an address over 24 bits
    wide : ltb own.0 (2 ^ 24) ≡ false → Made (Err Unwritable) form
    unfolding fresh_for outcome refusal
    wide t = no_change 16 (unfold fresh_number first_failed in rw (eq-eqb (length form) (2 * stored_block) size, t)) (λ z. omega arith)

    pub fresh_refused : (r : Refusal) → Err r ≡ fresh_given (fresh_for own) → Made (Err r) form
    unfolding fresh_for fresh_given outcome refusal
    fresh_refused r e =
        either (ltb own.0 (2 ^ 24))
        (λ t. let k : Err r ≡ outcome 0 (fresh_receiver own) = rw t at e in absurd (err_number 0 (fresh_receiver own) r (sym k) refl))
        (λ t. let k : Err r ≡ outcome 16 (fresh_receiver (record { 0 = 0 })) = rw t at e in
        subst (λ (x : Result (Unit {0}) Refusal). Made x form) (err_any 16 (fresh_receiver (record { 0 = 0 })) tt r (sym k)) (wide t))

    module _ (rx : Receiver) (e : Ok rx ≡ fresh_given (fresh_for own)) where
      fits : own.0 < 2 ^ 24
      unfolding fresh_for fresh_given
      fits =
          either (ltb own.0 (2 ^ 24)) (λ t. ltb-true own.0 (2 ^ 24) t)
          (λ t. let k : (fresh_for own).number ≡ 16 = rw t in absurd (omega (arith, k, ok_zero (fresh_for own).number (fresh_for own).receiver rx (sym e))))

      receiver_is : rx ≡ fresh_receiver own
      unfolding fresh_given
      receiver_is = sym (ok_same (fresh_for own).number (fresh_for own).receiver rx (sym e)) ∙ ap (λ (x : Fresh). x.receiver) (fresh_fits own fits)

      number_is : fresh_number own form ≡ 0
      unfolding fresh_number first_failed
      number_is = rw (eq-eqb (length form) (2 * stored_block) size, fresh_fits own fits)

      pub fresh_made : (save_number rx no_octets form ≡ fresh_number own form) × (after_save rx no_octets s0 s1 form ≡ after_fresh own s0 s1 form)
      unfolding after_fresh fresh_form
      fresh_made =
          let usable = is_usable (fresh_receiver own) (length no_octets) (length form) (fresh_good own fits) length_none size in
          let p = save_taken (fresh_receiver own) no_octets form s0 s1 usable in
          rw (receiver_is, number_is) (sym p.0, sym p.1)
