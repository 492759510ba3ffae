-- Tests that all give 16 where they fail: 0 if each is passed, 16 if one is not.
-- Assumes nothing.
use mathlib.Core.Path.{◌≡◌, refl}
use mathlib.Core.Bool.{Bool, true, false}
use mathlib.Core.List.{List, [], ◌∷◌, ◌++◌}
use Prim.Native.Nat.{ℕ, zero, suc}
use native.Mathlib.Omega.{arith}
use lib.Dec.{eqb}
use lib.ListN.{get_or}
use Rattle.foundation.specs.Order.{first_failed}
use Rattle.packets.specs.Headers.{widths}

-- every test is passed
abbrev pub passed : List Bool → Bool
passed ts = eqb (first_failed (widths ts)) 0

pub first_passed : (t : Bool) (ts : List Bool) → t ≡ true → passed (t ∷ ts) ≡ passed ts
unfolding first_failed
first_passed true ts e = refl
first_passed false ts e = absurd (let z : ◌≡◌ {A = ℕ} 0 1 = cc in omega arith)

pub last_decides : (t : Bool) → t ≡ passed (t ∷ [])
unfolding first_failed
last_decides true = refl
last_decides false = refl

pub each_passed : (ts : List Bool) → first_failed (widths ts) ≡ 0 → (i : ℕ) → get_or ts i true ≡ true
unfolding first_failed
each_passed [] p i = refl
each_passed (true ∷ ts) p zero = refl
each_passed (true ∷ ts) p (suc i) = each_passed ts p i
each_passed (false ∷ ts) p i = absurd (omega arith)

pub none_but_16 : (ts : List Bool) → passed ts ≡ false → first_failed (widths ts) ≡ 16
unfolding first_failed
none_but_16 [] e = absurd (let z : ◌≡◌ {A = ℕ} 0 1 = cc in omega arith)
none_but_16 (true ∷ ts) e = none_but_16 ts e
none_but_16 (false ∷ ts) e = refl

-- of two runs of tests the first is tried first
module _ (us : List Bool) where
  pub first_run : (ts : List Bool) → first_failed (widths ts) ≡ 0 → first_failed (widths (ts ++ us)) ≡ first_failed (widths us)
  unfolding first_failed
  first_run [] p = refl
  first_run (true ∷ ts) p = first_run ts p
  first_run (false ∷ ts) p = absurd (omega arith)

  pub run_fails : (ts : List Bool) → passed ts ≡ false → first_failed (widths (ts ++ us)) ≡ 16
  unfolding first_failed
  run_fails [] e = absurd (let z : ◌≡◌ {A = ℕ} 0 1 = cc in omega arith)
  run_fails (true ∷ ts) e = run_fails ts e
  run_fails (false ∷ ts) e = refl

  pub run_passed : (ts : List Bool) → first_failed (widths (ts ++ us)) ≡ 0 → first_failed (widths ts) ≡ 0
  unfolding first_failed
  run_passed [] p = refl
  run_passed (true ∷ ts) p = run_passed ts p
  run_passed (false ∷ ts) p = p
