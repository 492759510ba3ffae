-- A restart leaves a receiver that follows the same history.
-- Assumes nothing.
use mathlib.Core.Path.{◌≡◌, ◌∙◌}
use mathlib.Core.List.{List}
use Prim.Native.Nat.{ℕ}
use native.Mathlib.Omega.{arith}
use lib.ListN.{length}
use Rattle.addresses.specs.declared.RadioAddress.{RadioAddress}
use Rattle.receiver_state.specs.Receiver.{store_size}
use Rattle.stored.specs.Claims.{held_store, Restores}
use Rattle.stored.proofs.Claims.{claims}
use Rattle.stored.proofs.HeldOctets.{length-held_store}
use Rattle.history.specs.History.{History}
use Rattle.history.specs.Run.{State, saved_form, after_restart}
use Rattle.history.proofs.Sound.{few_blocks}
use Rattle.history.proofs.Follows.{Follows, can_be_saved}

module _ (own : RadioAddress) (s : State) (p : History) (m : Follows own s p) (s0 s1 : ℕ) where
  back : Restores s.receiver s.store s0 s1
  back = claims.restores s.receiver s.store s0 s1 (can_be_saved own s p m)

  -- the same receiver, and the store's held octets
  abbrev kept : State
  kept = record { receiver = s.receiver; store = held_store s.receiver s.store }

  kept_follows : Follows own kept p
  unfolding held_store
  kept_follows = record {
    small = m.small;
    sound = m.sound;
    agrees = record {
      address = m.agrees.address;
      phase = m.agrees.phase;
      transaction = m.agrees.transaction;
      flags = m.agrees.flags;
      octets = λ n e. back.octets-kept n (omega (arith, m.sound.below n e, few_blocks p m.sound)) (m.agrees.flags n ∙ e) ∙ m.agrees.octets n e;
    };
    room = length-held_store s.receiver s.store;
    places = m.places;
    flag_octets_lem = m.flag_octets_lem;
  }

  pub restart_follows : (store : List ℕ) → length store ≡ store_size → Follows own (after_restart s s0 s1 store) p
  unfolding after_restart saved_form
  restart_follows store room = rw (back.receiver_back store room, back.store_back store room) kept_follows
