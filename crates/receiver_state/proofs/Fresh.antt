-- An address in three octets has 24 bits, so a fresh receiver of it is not refused.
-- Assumes nothing.
use mathlib.Core.Path.{◌≡◌}
use mathlib.Core.List.{List}
use Prim.Native.Nat.{ℕ, ◌+◌, ◌^◌, ◌<◌}
use native.Mathlib.Omega.{arith}
use lib.ListN.{get_or}
use borrow.Author.Tests.{lt-ltb}
use Rattle.addresses.specs.Octets.{address_at}
use Rattle.receiver_state.specs.Receiver.{fresh_receiver, fresh_for}

pub fresh_at : (os : List ℕ) (at : ℕ) → ((i : ℕ) → get_or os i 0 < 256) → fresh_receiver (address_at os at) ≡ (fresh_for (address_at os at)).receiver
unfolding fresh_for
fresh_at os at small = rw (lt-ltb (address_at os at).0 (2 ^ 24) (omega (arith, small at, small (at + 1), small (at + 2))))
