-- The numbers of saving and restoring, one test after the other, and what is left after each.
-- Assumes nothing.
use mathlib.Core.Path.{◌≡◌, sym, ap, ◌∙◌}
use mathlib.Core.Bool.{Bool, true, false, cond}
use mathlib.Core.List.{List, [], ◌∷◌, ◌++◌}
use mathlib.Core.Logic.{◌≢◌}
use Prim.Native.Nat.{ℕ, ◌+◌, ◌*◌, ◌%◌}
use native.Mathlib.Omega.{arith}
use borrow.Author.Tests.{eq-eqb, ne_eqb, eqb-true}
use lib.Dec.{eqb}
use lib.ListN.{length, get_or}
use Rattle.addresses.specs.Octets.{number_at}
use Rattle.std.specs.Prelude.{Ok, Err}
use Rattle.foundation.specs.Order.{first_failed, all}
use Rattle.foundation.specs.Refusals.{outcome}
use Rattle.foundation.specs.declared.refusal.Refusal.{Refusal}
use Rattle.foundation.proofs.Refusals.{err_number, err_any}
use Rattle.foundation.proofs.Tests.{either, not-true, choose, same_test}
use Rattle.checks.specs.Checks.{header_good}
use Rattle.foundation.proofs.Order.{all_nil, all_cons, all-at, all_append, alike_first}
use Rattle.packets.proofs.Octets.{Octets}
use Rattle.receiver_state.specs.Receiver.{store_size, receiver_good}
use Rattle.receiver_state.specs.declared.Receiver.{Receiver}
use Rattle.stored.specs.Stored.{stored_block, zeros_at, zero_part, saved, save_number, after_save, block0, block1, receiver_in, store_in, zeros_from, clear, layout_tests, restore_tests, restore_number, restored, restored_given, after_restore}
use Rattle.stored.specs.Parts.{marked, message_checked, layout_kept, blocks_number}

-- ---- receivers and sizes

-- what a receiver and the sizes of its store and of a stored form must be
pub usable : Receiver → ℕ → ℕ → Bool
usable rx store form = all (receiver_good rx ∷ eqb store store_size ∷ eqb form (2 * stored_block) ∷ [])

module _ (rx : Receiver) (store form : ℕ) where
  pub is_usable : receiver_good rx ≡ true → store ≡ store_size → form ≡ 2 * stored_block → usable rx store form ≡ true
  unfolding usable
  is_usable g s f = all_cons _ g (all_cons _ (eq-eqb store store_size s) (all_cons _ (eq-eqb form (2 * stored_block) f) all_nil))

  pub not_good : receiver_good rx ≡ false → usable rx store form ≡ false
  unfolding usable all
  not_good g = rw g

  pub other_store : store ≢ store_size → usable rx store form ≡ false
  unfolding usable
  other_store d = not-true (usable rx store form) (λ e. d (eqb-true store store_size (all-at _ 1 e)))

  pub other_form : form ≢ 2 * stored_block → usable rx store form ≡ false
  unfolding usable
  other_form d = not-true (usable rx store form) (λ e. d (eqb-true form (2 * stored_block) (all-at _ 2 e)))

  pub usable_sizes : usable rx store form ≡ true → (store ≡ store_size) × (form ≡ 2 * stored_block)
  unfolding usable
  usable_sizes e = (eqb-true store store_size (all-at _ 1 e), eqb-true form (2 * stored_block) (all-at _ 2 e))

  usable-first : (us : List (Bool × ℕ))
      → first_failed ((receiver_good rx, 1) ∷ (eqb store store_size, 1) ∷ (eqb form (2 * stored_block), 1) ∷ us) ≡ cond (usable rx store form) (first_failed us) 1
  unfolding usable
  usable-first us = alike_first 1 (receiver_good rx ∷ eqb store store_size ∷ eqb form (2 * stored_block) ∷ []) us

-- ---- the rules of the layout

-- the starts of both blocks as numbers
module _ (a b : List ℕ) (small-a : Octets a) (small_b : Octets b) (n m : ℕ) (is-n : n ≡ number_at a 0) (is_m : m ≡ number_at b 0) where
  marks_are : marked a b ≡ true → (n ≡ 16777216 + n % 65536) × (m ≡ 16842752 + n % 65536)
  unfolding marked
  marks_are e =
      let a0 : get_or a 0 0 ≡ 1 = eqb-true _ _ (all-at _ 0 e) in
      let a1 : get_or a 1 0 ≡ 0 = eqb-true _ _ (all-at _ 1 e) in
      let b0 : get_or b 0 0 ≡ 1 = eqb-true _ _ (all-at _ 2 e) in
      let b1 : get_or b 1 0 ≡ 1 = eqb-true _ _ (all-at _ 3 e) in
      let s0 : get_or a 2 0 ≡ get_or b 2 0 = eqb-true _ _ (all-at _ 4 e) in
      let s1 : get_or a 3 0 ≡ get_or b 3 0 = eqb-true _ _ (all-at _ 5 e) in
      (omega (arith, small-a 2, small-a 3), omega (arith, small-a 2, small-a 3))

  pub not_marked : n ≢ 16777216 + n % 65536 → false ≡ marked a b
  not_marked d = sym (not-true (marked a b) (λ e. d (marks_are e).0))

  pub marked_by : n ≡ 16777216 + n % 65536 → eqb m (16842752 + n % 65536) ≡ marked a b
  unfolding marked
  marked_by h = same_test (eqb m (16842752 + n % 65536)) (marked a b) to (λ e. eq-eqb m (16842752 + n % 65536) (marks_are e).1)
    where
      to : eqb m (16842752 + n % 65536) ≡ true → marked a b ≡ true
      to e =
          let k : m ≡ 16842752 + n % 65536 = eqb-true m (16842752 + n % 65536) e in
          all_cons _ (eq-eqb (get_or a 0 0) 1 (omega (arith, small-a 0, small-a 1, small-a 2, small-a 3)))
          (all_cons _ (eq-eqb (get_or a 1 0) 0 (omega (arith, small-a 0, small-a 1, small-a 2, small-a 3)))
          (all_cons _ (eq-eqb (get_or b 0 0) 1 (omega (arith, small_b 0, small_b 1, small_b 2, small_b 3)))
          (all_cons _ (eq-eqb (get_or b 1 0) 1 (omega (arith, small_b 0, small_b 1, small_b 2, small_b 3)))
          (all_cons _ (eq-eqb (get_or a 2 0) (get_or b 2 0) (omega (arith, small-a 0, small-a 1, small-a 2, small-a 3, small_b 0, small_b 1, small_b 2, small_b 3)))
          (all_cons _ (eq-eqb (get_or a 3 0) (get_or b 3 0) (omega (arith, small-a 0, small-a 1, small-a 2, small-a 3, small_b 0, small_b 1, small_b 2, small_b 3))) all_nil)))))

module _ (a b : List ℕ) (rx : Receiver) (store : List ℕ) where
  abbrev marks : List Bool
  marks =
      eqb (get_or a 0 0) 1 ∷ eqb (get_or a 1 0) 0 ∷ eqb (get_or b 0 0) 1 ∷ eqb (get_or b 1 0) 1 ∷ eqb (get_or a 2 0) (get_or b 2 0)
      ∷ eqb (get_or a 3 0) (get_or b 3 0) ∷ []

  abbrev others : List Bool
  others = receiver_good rx ∷ clear rx store store_size ∷ zeros_from b zeros_at zero_part ∷ message_checked rx store ∷ []

  layout_first : (us : List (Bool × ℕ)) → first_failed (layout_tests a b rx store ++ us) ≡ cond (layout_kept a b rx store) (first_failed us) 18
  unfolding layout_tests layout_kept marked message_checked all
  layout_first us = alike_first 18 (marks ++ others) us ∙ ap (λ (t : Bool). cond t (first_failed us) 18) (all_append marks others)

-- ---- restoring

module _ (rx : Receiver) (form store : List ℕ) where
  -- those of one number are one
  number_steps : restore_number rx form store
      ≡ choose (usable rx (length store) (length form)) (blocks_number rx.own (block0 form) (block1 form) (receiver_in (block0 form)) (store_in (block0 form) (block1 form))) 1
  unfolding restore_number restore_tests blocks_number first_failed
  number_steps =
      let a = block0 form in
      let b = block1 form in
      usable-first rx (length store) (length form)
      ((header_good 0 a, 17) ∷ (header_good 0 b, 17) ∷ layout_tests a b (receiver_in a) (store_in a b) ++ (eqb (receiver_in a).own.0 rx.own.0, 19) ∷ [])
      ∙ rw (layout_first a b (receiver_in a) (store_in a b))

  pub restored-refused : (n : ℕ) → n ≡ restore_number rx form store → n ≢ 0
      → (outcome n rx ≡ restored_given (restored rx form store)) × (store ≡ after_restore rx form store)
  unfolding restored restored_given after_restore
  restored-refused n e d = let f : eqb (restore_number rx form store) 0 ≡ false = ne_eqb _ _ (λ z. d (e ∙ z)) in (rw (f, ← e), rw f)

  pub restored-err : (n : ℕ) → n ≡ restore_number rx form store → (r : Refusal) → outcome {A = Unit {0}} n tt ≡ Err r
      → (Err r ≡ restored_given (restored rx form store)) × (store ≡ after_restore rx form store)
  restored-err n e r o = let p = restored-refused n e (err_number {A = Unit {0}} n tt r o) in (sym (err_any {A = Unit {0}} n tt rx r o) ∙ p.0, p.1)

  pub number_1 : usable rx (length store) (length form) ≡ false → 1 ≡ restore_number rx form store
  number_1 u = sym (number_steps ∙ rw u)

  pub refused_1 : usable rx (length store) (length form) ≡ false
      → (outcome 1 rx ≡ restored_given (restored rx form store)) × (store ≡ after_restore rx form store)
  refused_1 u = restored-refused 1 (number_1 u) (λ z. omega arith)

  pub sizes : restore_number rx form store ≡ 0 → (length store ≡ store_size) × (length form ≡ 2 * stored_block)
  sizes e =
      either (usable rx (length store) (length form)) (usable_sizes rx (length store) (length form))
      (λ u. let z : ◌≡◌ {A = ℕ} 1 0 = number_1 u ∙ e in absurd (omega arith))

  module _ (u : usable rx (length store) (length form) ≡ true) (a b : List ℕ) (r : Receiver) (os : List ℕ)
      (is-a : a ≡ block0 form) (is_b : b ≡ block1 form) (is-r : r ≡ receiver_in a) (is-os : os ≡ store_in a b) where
    pub number_read : (n : ℕ) → n ≡ blocks_number rx.own a b r os → n ≡ restore_number rx form store
    number_read n e = e ∙ sym (number_steps ∙ rw (u, is-r, is-os, is-a, is_b))

    pub restored-taken : restore_number rx form store ≡ 0
        → (Ok r ≡ restored_given (restored rx form store)) × (os ≡ after_restore rx form store)
    unfolding restored restored_given after_restore outcome
    restored-taken e = (rw (e, is-r, is-a), rw (e, is-os, is-a, is_b))

-- ---- saving

module _ (rx : Receiver) (store form : List ℕ) (s0 s1 : ℕ) where
  -- the number, and what the lent octets hold
  abbrev Saved : ℕ → List ℕ → Type 0
  Saved n m = (n ≡ save_number rx store form) × (m ≡ after_save rx store s0 s1 form)

  number_by : save_number rx store form ≡ choose (usable rx (length store) (length form)) 0 1
  unfolding save_number first_failed
  number_by = usable-first rx (length store) (length form) []

  pub save_refused : usable rx (length store) (length form) ≡ false → Saved 1 form
  unfolding after_save
  save_refused u = (sym (number_by ∙ rw u), rw (number_by, u))

  pub save_taken : usable rx (length store) (length form) ≡ true → Saved 0 (saved rx store s0 s1)
  unfolding after_save
  save_taken u = (sym (number_by ∙ rw u), rw (number_by, u))
