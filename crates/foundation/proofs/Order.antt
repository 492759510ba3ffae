-- Lists of tests: all are passed, or the first that fails gives the number.
-- Assumes nothing.
use mathlib.Core.Path.{◌≡◌, refl, sym, ap, ◌∙◌}
use mathlib.Core.Bool.{Bool, true, false, cond}
use mathlib.Core.List.{List, [], ◌∷◌, ◌++◌}
use mathlib.Core.Logic.{◌≢◌}
use Prim.Native.Nat.{ℕ, zero, suc, ◌-◌, ◌<◌}
use native.Mathlib.Nat.{not-suc-le-zero}
use native.Mathlib.Omega.{arith}
use lib.Dec.{eqb, ltb}
use lib.ListN.{get_or}
use borrow.Author.Tests.{lt-ltb, eqb-true}
use Rattle.foundation.specs.Order.{first_failed, every, all}
use Rattle.foundation.proofs.Tests.{either, never}

-- ---- all

pub all_nil : all [] ≡ true
unfolding all
all_nil = refl

pub all_cons : {t : Bool} (ts : List Bool) → t ≡ true → all ts ≡ true → all (t ∷ ts) ≡ true
unfolding all
all_cons ts p q = rw (p, q)

pub all-at : (ts : List Bool) (i : ℕ) → all ts ≡ true → get_or ts i true ≡ true
unfolding all
all-at [] i e = refl
all-at (true ∷ ts) zero e = refl
all-at (true ∷ ts) (suc i) e = all-at ts i e
all-at (false ∷ ts) i e = never e refl

pub all_fails : (ts : List Bool) (i : ℕ) → get_or ts i true ≡ false → all ts ≡ false
unfolding all
all_fails [] i e = e
all_fails (false ∷ ts) i e = refl
all_fails (true ∷ ts) zero e = never refl e
all_fails (true ∷ ts) (suc i) e = all_fails ts i e

pub all_append : (ts us : List Bool) → all (ts ++ us) ≡ cond (all ts) (all us) false
unfolding all
all_append [] us = refl
all_append (true ∷ ts) us = all_append ts us
all_append (false ∷ ts) us = refl

-- ---- the first that fails

pub passed : (t : Bool) (n : ℕ) (ts : List (Bool × ℕ)) → first_failed ((t, suc n) ∷ ts) ≡ 0 → (t ≡ true) × (first_failed ts ≡ 0)
unfolding first_failed
passed true n ts e = (refl, e)
passed false n ts e = absurd (omega arith)

module _ (n : ℕ) (ts : List (Bool × ℕ)) where
  pub first_passed : {t : Bool} → t ≡ true → first_failed ((t, n) ∷ ts) ≡ first_failed ts
  unfolding first_failed
  first_passed p = rw p

  pub first_fails : {t : Bool} → t ≡ false → first_failed ((t, n) ∷ ts) ≡ n
  unfolding first_failed
  first_fails p = rw p

-- of two runs of tests the first is tried first; no test of it has the number 0
abbrev pub numbered : List (Bool × ℕ) → Bool
numbered [] = true
numbered (t ∷ ts) = cond (ltb 0 t.1) (numbered ts) false

rest : (n : ℕ) (ts : List (Bool × ℕ)) → cond (ltb 0 (suc n)) (numbered ts) false ≡ numbered ts
rest n ts = rw (lt-ltb 0 (suc n) (omega arith))

-- where all tests are passed each is
pub passed_at : (ts : List (Bool × ℕ)) (i : ℕ) → numbered ts ≡ true → first_failed ts ≡ 0 → (get_or ts i (true, 0)).0 ≡ true
unfolding first_failed
passed_at [] i p e = refl
passed_at ((true, n) ∷ ts) zero p e = refl
passed_at ((true, zero) ∷ ts) (suc i) p e = never p refl
passed_at ((true, suc n) ∷ ts) (suc i) p e = passed_at ts i (sym (rest n ts) ∙ p) e
passed_at ((false, zero) ∷ ts) i p e = never p refl
passed_at ((false, suc n) ∷ ts) i p e = absurd (omega arith)

module _ (us : List (Bool × ℕ)) where
  pub first_run : (ts : List (Bool × ℕ)) → numbered ts ≡ true → first_failed ts ≡ 0 → first_failed (ts ++ us) ≡ first_failed us
  unfolding first_failed
  first_run [] p e = refl
  first_run ((true, zero) ∷ ts) p e = never p refl
  first_run ((true, suc n) ∷ ts) p e = first_run ts (sym (rest n ts) ∙ p) e
  first_run ((false, zero) ∷ ts) p e = never p refl
  first_run ((false, suc n) ∷ ts) p e = absurd (omega arith)

  pub run_fails : (ts : List (Bool × ℕ)) → first_failed ts ≢ 0 → first_failed (ts ++ us) ≡ first_failed ts
  unfolding first_failed
  run_fails [] n = absurd (n refl)
  run_fails ((true, k) ∷ ts) n = run_fails ts n
  run_fails ((false, k) ∷ ts) n = refl

-- a number as its own test gives it
pub itself : (n : ℕ) → cond (eqb n 0) 0 n ≡ n
itself n = either (eqb n 0) (λ t. rw t (sym (eqb-true n 0 t))) (λ t. rw t)

-- tests that have one number
abbrev pub alike : ℕ → List Bool → List (Bool × ℕ)
alike n [] = []
alike n (t ∷ ts) = (t, n) ∷ alike n ts

pub alike_first : (n : ℕ) (ts : List Bool) (us : List (Bool × ℕ)) → first_failed (alike n ts ++ us) ≡ cond (all ts) (first_failed us) n
unfolding first_failed all
alike_first n [] us = refl
alike_first n (true ∷ ts) us = alike_first n ts us
alike_first n (false ∷ ts) us = refl

-- ---- every number below a bound, from the highest down

one_less : (i : ℕ) → suc i - 1 ≡ i
one_less i = omega arith

module _ (f : ℕ → Bool) where
  pub every_stops : (i : ℕ) → 0 < i → f (i - 1) ≡ false → every i f ≡ false
  every_stops zero h e = absurd (not-suc-le-zero h)
  every_stops (suc i) h e = ap (λ (t : Bool). cond t (every i f) false) (sym (ap f (one_less i)) ∙ e)

  pub every_goes : (i : ℕ) → 0 < i → f (i - 1) ≡ true → every i f ≡ every (i - 1) f
  every_goes zero h e = absurd (not-suc-le-zero h)
  every_goes (suc i) h e =
      ap (λ (t : Bool). cond t (every i f) false) (sym (ap f (one_less i)) ∙ e) ∙ sym (ap (λ (n : ℕ). every n f) (one_less i))
