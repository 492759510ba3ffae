-- Kept blocks: one more behind the others, and the message that they make.
-- Assumes nothing.
use mathlib.Core.Path.{◌≡◌, refl, sym, ap₂, subst}
use mathlib.Core.Bool.{Bool, true, false, cond}
use mathlib.Core.List.{List, [], ◌∷◌, ◌++◌}
use Prim.Native.Nat.{ℕ, zero, suc, ◌<◌}
use native.Mathlib.Omega.{arith}
use lib.Dec.{T, eqb}
use Rattle.foundation.proofs.Tests.{every-at}
use Rattle.messages.specs.Messages.{joined}
use Rattle.transactions.specs.declared.header.Transaction.{Transaction}
use Rattle.foundation.proofs.Tests.{either, never}
use Rattle.history.specs.History.{Kept, holds, held_data, whole}

either_order : (a b c : Bool) → cond a true (cond b true c) ≡ cond b true (cond a true c)
either_order true true c = refl
either_order true false c = refl
either_order false b c = refl

pub holds-none : (n : ℕ) → holds [] n ≡ false
unfolding holds
holds-none n = refl

pub holds_more : (ks : List Kept) (k : Kept) (n : ℕ) → holds (ks ++ (k ∷ [])) n ≡ cond (eqb k.serial n) true (holds ks n)
unfolding holds
holds_more [] k n = refl
holds_more (j ∷ ks) k n = rw (holds_more ks k n) (either_order (eqb j.serial n) (eqb k.serial n) (holds ks n))

-- a later block of a held serial changes nothing
pub first_stays : (ks : List Kept) (k : Kept) (n : ℕ) → holds ks n ≡ true → held_data (ks ++ (k ∷ [])) n ≡ held_data ks n
unfolding holds held_data
first_stays [] k n e = never e refl
first_stays (j ∷ ks) k n e =
    either (eqb j.serial n) (λ t. simp t) (λ t. simp t (first_stays ks k n (simp t at e)))

-- a block of a serial not yet held
pub new_data : (ks : List Kept) (k : Kept) (n : ℕ) → holds ks n ≡ false → eqb k.serial n ≡ true → held_data (ks ++ (k ∷ [])) n ≡ k.octets
unfolding holds held_data
new_data [] k n e t = simp t
new_data (j ∷ ks) k n e t =
    either (eqb j.serial n) (λ u. never refl (simp u at e)) (λ u. simp u (new_data ks k n (simp u at e) t))

pub whole-at : (t : Transaction) (ks : List Kept) → whole t ks ≡ true → (n : ℕ) → n < t.blocks → holds ks n ≡ true
unfolding whole
whole-at t ks e n l =
    either (holds ks n) (λ h. h) (λ h. absurd (subst T h (every-at t.blocks (holds ks) (subst T (sym e) tt) n l)))

-- lists that are equal at each place below k, joined
pub joined_ext : (f g : ℕ → List ℕ) (k : ℕ) → ((n : ℕ) → n < k → f n ≡ g n) → joined f k ≡ joined g k
unfolding joined
joined_ext f g zero h = refl
joined_ext f g (suc k) h = ap₂ ◌++◌ (joined_ext f g k (λ n l. h n (omega arith))) (h k (omega arith))
