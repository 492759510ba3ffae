-- What a reader wants of saving and restoring.
-- Assumes nothing.
use Rattle.std.specs.Prelude.{◌≡◌, true, List, ℕ, ◌*◌, ◌<◌, length, get_or, take}
use Rattle.checks.specs.Checks.{message_good}
use Rattle.messages.specs.Messages.{block_size, most_blocks}
use Rattle.transactions.specs.Flags.{flag_octet_count}
use Rattle.receiver_state.specs.Receiver.{block_at, store_size, fresh_receiver, held, receiver_good}
use Rattle.receiver_state.specs.declared.Receiver.{Receiver}
use Rattle.stored.specs.Stored.{held_octets, saved, block0, block1, receiver_in, store_in, restore_number, restored, after_restore}

-- a receiver and a store as every run leaves them: what a receiver can be, sizes, and a good message check when complete
pub record Savable (rx : Receiver) (store : List ℕ) : Type 0 where
  pub good : receiver_good rx ≡ true
  pub flags : length rx.flags.octets ≡ flag_octet_count
  pub room : length store ≡ store_size
  pub checked : rx.phase ≡ 2 → message_good (take (block_size * rx.transaction.blocks) store) ≡ true

-- the store with zeros for the octets of blocks not held
unfoldable pub held_store : Receiver → List ℕ → List ℕ
held_store rx store = held_octets (held rx) (λ i. get_or store i 0) 0 store_size

-- what was saved is restored into any store: the receiver, and its held octets
pub record Restores (rx : Receiver) (store : List ℕ) (s0 s1 : ℕ) : Type 0 where
  pub receiver_back : (other : List ℕ) → length other ≡ store_size → restored (fresh_receiver rx.own) (saved rx store s0 s1) other ≡ record { number = 0; receiver = rx }
  pub store_back : (other : List ℕ) → length other ≡ store_size → after_restore (fresh_receiver rx.own) (saved rx store s0 s1) other ≡ held_store rx store
  pub octets-kept : (n : ℕ) → n < most_blocks → held rx n ≡ true → block_at (held_store rx store) n ≡ block_at store n

-- a stored form that is restored saves back to the same octets
abbrev pub SavesBack : Receiver → List ℕ → List ℕ → Type 0
SavesBack rx form store =
    restore_number rx form store ≡ 0 → saved (receiver_in (block0 form)) (store_in (block0 form) (block1 form)) (get_or form 2 0) (get_or form 3 0) ≡ form

pub record StoredClaims : Type 0 where
  pub restores : (rx : Receiver) (store : List ℕ) (s0 s1 : ℕ) → Savable rx store → Restores rx store s0 s1
  pub saves_back : (rx : Receiver) (form store : List ℕ) → ((i : ℕ) → get_or form i 0 < 256) → SavesBack rx form store
