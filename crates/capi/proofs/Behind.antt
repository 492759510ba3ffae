-- A number behind tests: of sizes, and of values that may not be over a most.
-- Assumes nothing.
use mathlib.Core.Path.{◌≡◌, refl, sym, ap}
use mathlib.Core.Bool.{Bool, true, false}
use mathlib.Core.List.{List, [], ◌∷◌}
use Prim.Native.Nat.{ℕ, ◌<◌, ◌≤◌}
use lib.Dec.{eqb, leb}
use lib.ListN.{length}
use borrow.Author.Tests.{eqb-true, eq-eqb, ne_eqb, le-leb, lt-leb}
use Rattle.foundation.specs.Order.{first_failed}
use Rattle.foundation.proofs.Tests.{either}
use Rattle.std.specs.Prelude.{Err}
use Rattle.foundation.specs.Refusals.{refusal, outcome}
use Rattle.foundation.specs.declared.refusal.Refusal.TheVariants.{Unwritable}
use Rattle.layouts.specs.Lent.{Gives}
use Rattle.layouts.proofs.Giving.{gives_as}
use Rattle.capi.specs.Answers.{behind}

module _ (n : ℕ) where
  pub behind-none : behind [] n ≡ n
  unfolding behind first_failed
  behind-none = either (eqb n 0) (λ e. rw e (sym (eqb-true n 0 e))) (λ e. rw e)

  module _ (t : Bool) (k : ℕ) (ts : List (Bool × ℕ)) where
    pub behind_passed : t ≡ true → behind ((t, k) ∷ ts) n ≡ behind ts n
    unfolding behind first_failed
    behind_passed e = rw e

    pub behind_failed : t ≡ false → behind ((t, k) ∷ ts) n ≡ k
    unfolding behind first_failed
    behind_failed e = rw e

  module _ (os : List ℕ) (k : ℕ) (ts : List (Bool × ℕ)) where
    pub past_size : length os ≡ k → behind ((eqb (length os) k, 1) ∷ ts) n ≡ behind ts n
    past_size size = behind_passed (eqb (length os) k) 1 ts (eq-eqb (length os) k size)

    pub short : (length os ≡ k → ⊥) → behind ((eqb (length os) k, 1) ∷ ts) n ≡ 1
    short h = behind_failed (eqb (length os) k) 1 ts (ne_eqb (length os) k h)

  module _ (value most : ℕ) (ts : List (Bool × ℕ)) where
    pub past_most : value ≤ most → behind ((leb value most, 16) ∷ ts) n ≡ behind ts n
    past_most h = behind_passed (leb value most) 16 ts (le-leb value most h)

    pub over_most : most < value → behind ((leb value most, 16) ∷ ts) n ≡ 16
    over_most h = behind_failed (leb value most) 16 ts (lt-leb value most h)

-- an answer by the number that stands behind the tests
pub behind_as : {n r : ℕ} {out after : List ℕ} (number k : ℕ) (octets : List ℕ) (ts : List (Bool × ℕ)) → behind ts number ≡ k
    → Gives n (k, octets) out r after → Gives n (behind ts number, octets) out r after
behind_as number k octets ts e g = gives_as refl (ap (λ (x : ℕ). (x, octets)) (sym e)) g

-- the refusal of 16
pub unwritable : {A : Type 0} (a : A) → Err Unwritable ≡ outcome 16 a
unfolding outcome refusal
unwritable a = refl
