-- The octets of a message with each pair exchanged, place by place.
-- Assumes nothing.
use mathlib.Core.Path.{◌≡◌, refl}
use mathlib.Core.List.{List, [], ◌∷◌}
use Prim.Native.Nat.{ℕ, zero, suc, ◌+◌, ◌%◌, ◌<◌}
use native.Mathlib.Nat.{not-suc-le-zero, suc-add}
use native.Mathlib.Omega.{arith}
use lib.ListN.{length, get_or}
use Rattle.foundation.proofs.OctetLists.{Octets, octets_cons}
use Rattle.checks.specs.Checks.{exchanged}

-- octet k of even k, with another behind it, is exchanged with that
pub exchanged_pair : (os : List ℕ) (k : ℕ) → k % 2 ≡ 0 → k + 1 < length os
    → (get_or (exchanged os) k 0 ≡ get_or os (k + 1) 0) × (get_or (exchanged os) (k + 1) 0 ≡ get_or os k 0)
unfolding exchanged
exchanged_pair [] k e h = absurd (not-suc-le-zero h)
exchanged_pair (a ∷ []) k e h = absurd (omega arith)
exchanged_pair (a ∷ b ∷ os) zero e h = (refl, refl)
exchanged_pair (a ∷ b ∷ os) (suc zero) e h = absurd (omega arith)
exchanged_pair (a ∷ b ∷ os) (suc (suc k)) e h = let both = exchanged_pair os k (omega arith) (omega arith) in rw (suc-add (suc k) 1, suc-add k 1) both

-- a last single octet stays
pub exchanged_last : (os : List ℕ) (k : ℕ) → k % 2 ≡ 0 → length os ≡ suc k → get_or (exchanged os) k 0 ≡ get_or os k 0
unfolding exchanged
exchanged_last [] k e h = refl
exchanged_last (a ∷ []) k e h = refl
exchanged_last (a ∷ b ∷ os) zero e h = absurd (omega arith)
exchanged_last (a ∷ b ∷ os) (suc zero) e h = absurd (omega arith)
exchanged_last (a ∷ b ∷ os) (suc (suc k)) e h = exchanged_last os k (omega arith) (omega arith)

pub octets-exchanged : (os : List ℕ) → Octets os → Octets (exchanged os)
unfolding exchanged
octets-exchanged [] octet = octet
octets-exchanged (a ∷ []) octet = octet
octets-exchanged (a ∷ b ∷ os) octet =
    octets_cons b (a ∷ exchanged os) (octet 1) (octets_cons a (exchanged os) (octet 0) (octets-exchanged os (λ i. octet (suc (suc i)))))
