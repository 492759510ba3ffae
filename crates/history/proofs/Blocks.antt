-- A block, given to a receiver that follows a history: it is answered as the history says, and the receiver follows.
-- Assumes nothing.
use mathlib.Core.Path.{◌≡◌, refl, sym, ap, ◌∙◌, fun_ext}
use mathlib.Core.Bool.{Bool, true, false, cond}
use mathlib.Core.List.{List, []}
use Prim.Native.Nat.{ℕ, ◌+◌, ◌*◌, ◌-◌, ◌≤◌, ◌<◌}
use native.Mathlib.Omega.{arith}
use lib.Dec.{eqb}
use lib.ListN.{length, take, length-drop}
use lib.Seq.{take-take}
use borrow.Author.Tests.{eqb-true, eqb-false, eq-eqb, ne_eqb, ltb-true}
use Rattle.addresses.specs.declared.RadioAddress.{RadioAddress}
use Rattle.foundation.specs.Order.{first_failed}
use Rattle.checks.specs.Checks.{message_good}
use Rattle.packets.specs.Blocks.{block_tests}
use Rattle.messages.specs.Messages.{block_size, check_size}
use Rattle.transactions.specs.Transactions.{serial_of, data_of, taken_tests, taken_number}
use Rattle.transactions.specs.Flags.{flagged, with_flag}
use Rattle.transactions.specs.Answers.{message}
use Rattle.transactions.specs.declared.header.Transaction.{Transaction}
use Rattle.foundation.proofs.Tests.{either, never}
use Rattle.foundation.proofs.Order.{all_nil, all_cons, all-at, passed}
use Rattle.transactions.proofs.FlagOctets.{flagged_with, octets_with, length_with}
use Rattle.receiver_state.specs.Receiver.{block_at, store_size, no_flags, held, all_held, transaction_good}
use Rattle.receiver.specs.Events.{Bad, Message, said, answered, changed, put_block, block_refusal, completed, taken, on_block}
use Rattle.receiver.proofs.StoreBlocks.{length-put, at-put-same, at-put_other}
use Rattle.history.specs.History.{History, block, holds, held_data, valid, keeping, whole, message_of, after_block, after, kept_number, handed_on, block_said, said_to}
use Rattle.history.specs.Run.{State, after_event, answer_to}
use Rattle.history.specs.Claims.{Agrees}
use Rattle.history.proofs.Kept.{holds_more, first_stays, new_data}
use Rattle.history.proofs.Sound.{Sound, good-blocks, open_fields}
use Rattle.history.proofs.Follows.{Follows, none-octets, agrees_empty, store-message, good}
use Rattle.history.proofs.Steps.{Matches}

-- octets of a serial that is not held are not looked at
unlooked : (phase : ℕ) (t : Transaction) (held : Bool) (x y b : List ℕ) → (held ≡ true → x ≡ y) → taken_number phase t held x b ≡ taken_number phase t held y b
unlooked phase t true x y b h = rw (h refl)
unlooked phase t false x y b h = unfold taken_number taken_tests in refl

-- a block that no check refuses is valid
pub valid_of : (p : History) (held : Bool) (x b : List ℕ) → taken_number p.phase p.transaction held x b ≡ 0 → valid p b ≡ true
unfolding taken_number taken_tests block_tests valid
valid_of p held x b e =
    let e0 = passed _ _ _ e in
    let e1 = passed _ _ _ e0.1 in
    let e2 = passed _ _ _ e1.1 in
    let e3 = passed _ _ _ e2.1 in
    all_cons _ e0.0 (all_cons _ e1.0 (all_cons _ e2.0 (all_cons _ e3.0 all_nil)))

-- a valid block of a serial not held is not refused
new_taken : (p : History) (x b : List ℕ) → valid p b ≡ true → taken_number p.phase p.transaction false x b ≡ 0
unfolding taken_number taken_tests block_tests valid first_failed
new_taken p x b v = simp (all-at _ 0 v, all-at _ 1 v, all-at _ 2 v, all-at _ 3 v)

module _ (own : RadioAddress) (s : State) (p : History) (m : Follows own s p) (b : List ℕ) where
  pub same_number : block_refusal s.receiver s.store b ≡ kept_number p b
  unfolding block_refusal kept_number
  same_number =
      rw (good own s p m, eq-eqb (length s.store) store_size m.room, m.agrees.flags (serial_of b), m.agrees.phase, m.agrees.transaction)
      (unlooked p.phase p.transaction (holds p.kept (serial_of b)) (block_at s.store (serial_of b)) (held_data p.kept (serial_of b)) b
      (m.agrees.octets (serial_of b)))

  -- the step as the receiver's and the history's rules say it
  abbrev Done : Type 0
  Done = Matches own (after_event s (block b)) (answer_to s (block b)) (after own p (block b)) (said_to own p (block b))

  invalid_step : valid p b ≡ false → Done
  unfolding after_event answer_to after said_to on_block after_block block_said said kept_number
  invalid_step v =
      let e : eqb (kept_number p b) 0 ≡ false
      = ne_eqb (kept_number p b) 0 (λ z. never (valid_of p (holds p.kept (serial_of b)) (held_data p.kept (serial_of b)) b z) v) in
      rw same_number (simp (e, v) (record { follows = m; same = refl }))

  module _ (v : valid p b ≡ true) where
    opened : p.phase ≡ 1
    unfolding valid
    opened = eqb-true _ _ (all-at _ 2 v)

    below : serial_of b < p.transaction.blocks
    unfolding valid
    below = ltb-true _ _ (all-at _ 3 v)

    fields : transaction_good p.transaction ≡ true
    unfolding valid
    fields = open_fields p m.sound (all-at _ 2 v)

    -- the serial is held already: the kept block is behind the first of its serial
    module _ (had : holds p.kept (serial_of b) ≡ true) where
      same-held : holds (keeping p b) ≡ holds p.kept
      unfolding keeping
      same-held = fun_ext (λ i. either (eqb (serial_of b) i)
          (λ t. rw (holds_more, t) (sym (rw (eqb-true (serial_of b) i t) at had)))
          (λ t. rw (holds_more, t)))

      held_agrees : Agrees own s (record { phase = 1; transaction = p.transaction; kept = keeping p b })
      unfolding keeping
      held_agrees = record {
        address = m.agrees.address;
        phase = m.agrees.phase ∙ opened;
        transaction = m.agrees.transaction;
        flags = λ i. m.agrees.flags i ∙ ap (λ f. f i) (sym same-held);
        octets = λ i e. let h : holds p.kept i ≡ true = ap (λ f. f i) (sym same-held) ∙ e in
            m.agrees.octets i h ∙ sym (first_stays p.kept _ i h);
      }

      held-step : Sound (after_block p b) → Done
      unfolding after_event answer_to after said_to on_block after_block block_said said whole
      held-step sound =
          let w : whole p.transaction (keeping p b) ≡ false = rw same-held (m.sound.missing opened) in
          let next : Follows own s (record { phase = 1; transaction = p.transaction; kept = keeping p b })
          = record {
            small = m.small;
            sound = simp (v, w) at sound;
            agrees = held_agrees;
            room = m.room;
            places = m.places;
            flag_octets_lem = m.flag_octets_lem;
          } in
          rw same_number (simp (m.agrees.flags (serial_of b), had, v, w)
          (either (eqb (kept_number p b) 0)
          (λ e. simp e (record { follows = next; same = refl }))
          (λ e. simp e (record { follows = next; same = refl }))))

    -- the serial is new: the block is put into the store and flagged
    module _ (new : holds p.kept (serial_of b) ≡ false) where
      abbrev next_store : List ℕ
      next_store = put_block s.store (serial_of b) (data_of b)

      abbrev next_flags : List ℕ
      next_flags = with_flag s.receiver.flags.octets (serial_of b)

      abbrev next_state : ℕ → State
      next_state phase = record { receiver = changed s.receiver phase next_flags; store = next_store }

      abbrev next_history : ℕ → History
      next_history phase = record { phase = phase; transaction = p.transaction; kept = keeping p b }

      fits : block_size * serial_of b + block_size ≤ length s.store
      fits = omega (arith, good-blocks p.transaction fields, below, m.room)

      size : length (data_of b) ≡ block_size
      unfolding valid data_of
      size = length-drop 2 b ∙ omega (arith, eqb-true (length b) 12 (all-at _ 0 v))

      flags_new : (i : ℕ) → flagged next_flags i ≡ holds (keeping p b) i
      unfolding keeping
      flags_new i =
          flagged_with s.receiver.flags.octets (serial_of b) i m.flag_octets_lem (omega (arith, good-blocks p.transaction fields, below, m.places))
          ∙ ap (cond (eqb (serial_of b) i) true) (m.agrees.flags i) ∙ sym (holds_more p.kept _ i)

      octets_new : (i : ℕ) → holds (keeping p b) i ≡ true → block_at next_store i ≡ held_data (keeping p b) i
      unfolding keeping
      octets_new i e =
          either (eqb (serial_of b) i)
          (λ t. let k : serial_of b ≡ i = eqb-true (serial_of b) i t in
          ap (block_at next_store) (sym k) ∙ at-put-same s.store (serial_of b) (data_of b) fits size
          ∙ sym (new_data p.kept _ i (rw k at new) t))
          (λ t. let h : holds p.kept i ≡ true = rw (holds_more, t) at e in
          at-put_other s.store (serial_of b) (data_of b) fits size i (λ k. eqb-false (serial_of b) i t (sym k))
          (omega (arith, m.sound.below i h, good-blocks p.transaction fields, m.room))
          ∙ m.agrees.octets i h ∙ sym (first_stays p.kept _ i h))

      agrees_new : (phase : ℕ) → Agrees own (next_state phase) (next_history phase)
      agrees_new phase = record {
        address = m.agrees.address;
        phase = refl;
        transaction = m.agrees.transaction;
        flags = flags_new;
        octets = octets_new;
      }

      follows_new : (phase : ℕ) → Sound (next_history phase) → Follows own (next_state phase) (next_history phase)
      follows_new phase sound = record {
        small = m.small;
        sound = sound;
        agrees = agrees_new phase;
        room = length-put s.store (serial_of b) (data_of b) fits size ∙ m.room;
        places = length_with s.receiver.flags.octets (serial_of b) ∙ m.places;
        flag_octets_lem = octets_with s.receiver.flags.octets (serial_of b) m.flag_octets_lem;
      }

      abbrev emptied : History
      emptied = record { phase = 1; transaction = p.transaction; kept = [] }

      follows_bad : Sound emptied → Follows own (record { receiver = changed s.receiver 1 no_flags; store = next_store }) emptied
      follows_bad sound = record {
        small = m.small;
        sound = sound;
        agrees = rw (m.agrees.address, m.agrees.transaction) (agrees_empty own 1 p.transaction next_store);
        room = length-put s.store (serial_of b) (data_of b) fits size ∙ m.room;
        places = refl;
        flag_octets_lem = none-octets;
      }

      all_new : all_held (next_state 1).receiver ≡ whole p.transaction (keeping p b)
      unfolding all_held whole
      all_new = rw (fun_ext flags_new, m.agrees.transaction)

      -- all blocks are held: the store's first octets are the message
      module _ (w : whole p.transaction (keeping p b) ≡ true) where
        whole-message : take (block_size * p.transaction.blocks) next_store ≡ message_of p.transaction (keeping p b)
        whole-message = store-message own (next_state 1) (next_history 1) (agrees_new 1) w

        handed : take (block_size * p.transaction.blocks - check_size - p.transaction.pad) next_store ≡ handed_on p.transaction (keeping p b)
        unfolding handed_on
        handed =
            sym (take-take (block_size * p.transaction.blocks - check_size - p.transaction.pad) (block_size * p.transaction.blocks) next_store (omega arith))
            ∙ ap (take (block_size * p.transaction.blocks - check_size - p.transaction.pad)) whole-message

        completed-good : message_good (message_of p.transaction (keeping p b)) ≡ true
            → completed (next_state 1).receiver next_store
            ≡ answered (next_state 2).receiver (Message (block_size * p.transaction.blocks - check_size - p.transaction.pad))
        unfolding completed
        completed-good g = rw (m.agrees.transaction, whole-message, g)

        completed-bad : message_good (message_of p.transaction (keeping p b)) ≡ false
            → completed (next_state 1).receiver next_store ≡ answered (changed s.receiver 1 no_flags) Bad
        unfolding completed
        completed-bad g = rw (m.agrees.transaction, whole-message, g)

      not_refused : kept_number p b ≡ 0
      unfolding kept_number
      not_refused = rw new (new_taken p (held_data p.kept (serial_of b)) b v)

      new_step : Sound (after_block p b) → Done
      unfolding after_event answer_to after said_to on_block taken after_block block_said said
      new_step sound =
          rw (same_number, not_refused, m.agrees.flags (serial_of b), new, all_new, v)
          (either (whole p.transaction (keeping p b))
          (λ w. either (message_good (message_of p.transaction (keeping p b)))
          (λ g. rw (w, completed-good w g, g) (record { follows = follows_new 2 (simp (v, w, g) at sound); same = ap message (handed w) }))
          (λ g. rw (w, completed-bad w g, g) (record { follows = follows_bad (simp (v, w, g) at sound); same = refl })))
          (λ w. rw w (record { follows = follows_new 1 (simp (v, w) at sound); same = refl })))

  pub block-step : Sound (after_block p b) → Done
  block-step sound =
      either (valid p b) (λ v. either (holds p.kept (serial_of b)) (λ h. held-step v h sound) (λ h. new_step v h sound)) invalid_step
