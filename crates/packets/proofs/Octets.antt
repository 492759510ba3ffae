-- Lists of octets, and those of a message's check.
-- Assumes nothing.
use Prim.Native.Nat.{ℕ}
use native.Mathlib.Omega.{arith}
use Rattle.checks.specs.Checks.{lowest_first}
pub use Rattle.foundation.proofs.OctetLists.{Octets, Each, octets_cons, all-octets, octets-append, octets-take, octets-drop, octets-zeros}

pub octets-lowest_first : (c : ℕ) → Octets (lowest_first c)
unfolding lowest_first
octets-lowest_first c = all-octets (lowest_first c) (omega arith)
