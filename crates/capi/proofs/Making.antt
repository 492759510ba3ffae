-- What is made of an answer is given for its number, too.
-- Assumes nothing.
use mathlib.Core.Path.{◌≡◌, ap, subst}
use Prim.Native.Nat.{ℕ}
use Rattle.std.specs.Prelude.{Result, Ok, Err, IsOkAnd, MatchResult, zero, suc}
use Rattle.foundation.specs.Refusals.{outcome}
use Rattle.foundation.specs.declared.refusal.Refusal.{Refusal}

abbrev Made : {A B : Type 0} → (A → B → Type 0) → Result B Refusal → Result A Refusal → Type 0
Made P made r = MatchResult r (λ x. IsOkAnd made (P x)) (λ s. made ≡ Err s)

module _ {A B : Type 0} (P : A → B → Type 0) {r : Result A Refusal} {made : Result B Refusal} where
  pub made_of : (n : ℕ) (a : A) (b : B) → r ≡ outcome n a → Made P made r → ((y : B) → P a y → y ≡ b) → made ≡ outcome n b
  unfolding outcome
  made_of zero a b e m same = go made (subst (Made P made) e m)
    where
      go : (g : Result B Refusal) → IsOkAnd g (P a) → g ≡ Ok b
      go (Ok y) p = ap Ok (same y p)
      go (Err s) p = absurd p
  made_of (suc n) a b e m same = subst (Made P made) e m
