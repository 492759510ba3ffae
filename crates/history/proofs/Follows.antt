-- What a receiver and its store keep to while they follow a history; such a receiver is good and can be saved.
-- Assumes nothing.
use mathlib.Core.Path.{◌≡◌, refl, sym, ap, ◌∙◌, fun_ext}
use mathlib.Core.Bool.{Bool, true, false, cond, not}
use mathlib.Core.List.{List, []}
use Prim.Native.Nat.{ℕ, ◌*◌, ◌^◌, ◌<◌}
use lib.Dec.{eqb, ltb}
use lib.ListN.{length, take}
use borrow.Author.Tests.{eqb-true, lt-ltb, le-leb}
use Rattle.addresses.specs.declared.RadioAddress.{RadioAddress}
use Rattle.foundation.specs.Order.{every}
use Rattle.foundation.proofs.Tests.{every_true}
use Rattle.messages.specs.Messages.{block_size}
use Rattle.messages.proofs.MessageLayout.{joined-parts}
use Rattle.packets.proofs.Octets.{octets-zeros}
use Rattle.transactions.specs.Flags.{flag_octet_count, flag_count, flagged}
use Rattle.transactions.specs.declared.header.Transaction.{Transaction}
use Rattle.foundation.proofs.Tests.{either, never}
use Rattle.foundation.proofs.Order.{all_nil, all_cons}
use Rattle.transactions.proofs.FlagOctets.{flagged-none}
use Rattle.receiver_state.specs.Receiver.{block_at, store_size, no_flags, no_transaction, fresh_receiver, fresh_for, held, all_held, none_from, receiver_good}
use Rattle.stored.specs.Claims.{Savable}
use Rattle.history.specs.History.{History, nothing, holds, held_data, whole, message_of}
use Rattle.history.specs.Run.{State}
use Rattle.history.specs.Claims.{Octets, Agrees, fresh_state}
use Rattle.history.proofs.Kept.{holds-none, whole-at, joined_ext}
use Rattle.history.proofs.Sound.{Sound, sound_nothing}

pub record Follows (own : RadioAddress) (s : State) (p : History) : Type 0 where
  pub small : own.0 < 2 ^ 24
  pub sound : Sound p
  pub agrees : Agrees own s p
  pub room : length s.store ≡ store_size
  pub places : length s.receiver.flags.octets ≡ flag_octet_count
  pub flag_octets_lem : Octets s.receiver.flags.octets

-- a test that is asked for where another is passed
where_so : (t u : Bool) → (t ≡ true → u ≡ true) → cond t u true ≡ true
where_so true u h = h refl
where_so false u h = refl

pub none-octets : Octets no_flags
none-octets = octets-zeros flag_octet_count

-- a receiver with nothing held and a history with nothing kept
pub agrees_empty : (own : RadioAddress) (phase : ℕ) (t : Transaction) (store : List ℕ)
    → Agrees own (record { receiver = record { own = own; phase = phase; transaction = t; flags = record { octets = no_flags } }; store = store })
    (record { phase = phase; transaction = t; kept = [] })
agrees_empty own phase t store = record {
  address = refl;
  phase = refl;
  transaction = refl;
  flags = λ n. flagged-none n ∙ sym (holds-none n);
  octets = λ n e. never e (holds-none n);
}

pub fresh_fits : (own : RadioAddress) → own.0 < 2 ^ 24 → fresh_for own ≡ record { number = 0; receiver = fresh_receiver own }
unfolding fresh_for
fresh_fits own h = rw (lt-ltb own.0 (2 ^ 24) h)

-- a fresh receiver follows the history that has seen nothing
pub fresh_follows : (own : RadioAddress) (store : List ℕ) → own.0 < 2 ^ 24 → length store ≡ store_size → Follows own (fresh_state own store) nothing
unfolding fresh_receiver nothing no_transaction
fresh_follows own store small room = record {
  small = small;
  sound = sound_nothing;
  agrees = agrees_empty own 0 no_transaction store;
  room = room;
  places = refl;
  flag_octets_lem = none-octets;
}

-- the store's first blocks are the message
pub store-message : (own : RadioAddress) (s : State) (p : History) → Agrees own s p → whole p.transaction p.kept ≡ true
    → take (block_size * p.transaction.blocks) s.store ≡ message_of p.transaction p.kept
unfolding message_of block_at
store-message own s p a w =
    sym (joined-parts block_size s.store p.transaction.blocks)
    ∙ joined_ext (block_at s.store) (held_data p.kept) p.transaction.blocks
    (λ n l. a.octets n (whole-at p.transaction p.kept w n l))

module _ (own : RadioAddress) (s : State) (p : History) (m : Follows own s p) where
  pub held_is : held s.receiver ≡ holds p.kept
  held_is = fun_ext m.agrees.flags

  pub all_held_lem : all_held s.receiver ≡ whole p.transaction p.kept
  unfolding all_held whole
  all_held_lem = ap (λ (t : Transaction). every t.blocks (held s.receiver)) m.agrees.transaction ∙ ap (every p.transaction.blocks) held_is

  none_past_lem : none_from p.transaction.blocks s.receiver.flags.octets flag_count ≡ true
  unfolding none_from
  none_past_lem =
      every_true flag_count (λ i. cond (ltb i p.transaction.blocks) true (not (flagged s.receiver.flags.octets i)))
      (λ i l. either (held s.receiver i)
      (λ t. rw (lt-ltb i p.transaction.blocks (m.sound.below i (sym (m.agrees.flags i) ∙ t))))
      (λ t. either (ltb i p.transaction.blocks) (λ u. rw u) (λ u. rw (u, t))))

  pub good : receiver_good s.receiver ≡ true
  unfolding receiver_good
  good =
      rw (all_held_lem, m.agrees.address, m.agrees.phase, m.agrees.transaction)
      (all_cons _ (lt-ltb _ _ m.small) (all_cons _ (le-leb _ _ m.sound.phases) (all_cons _ m.sound.fields (all_cons _ none_past_lem
      (all_cons _ (where_so (eqb p.phase 1) _ (λ t. ap not (m.sound.missing (eqb-true p.phase 1 t))))
      (all_cons _ (where_so (eqb p.phase 2) _ (λ t. m.sound.complete (eqb-true p.phase 2 t))) all_nil))))))

  pub can_be_saved : Savable s.receiver s.store
  can_be_saved = record {
    good = good;
    flags = m.places;
    room = m.room;
    checked = λ e. let k : p.phase ≡ 2 = sym m.agrees.phase ∙ e in
        rw (m.agrees.transaction, store-message own s p m.agrees (m.sound.complete k)) (m.sound.checked k);
  }
