-- Tests of every number below a bound, taken apart.
-- Assumes nothing.
use mathlib.Core.Path.{◌≡◌, refl, sym, ap, subst, ◌∙◌}
use mathlib.Core.Bool.{Bool, true, false, cond}
use Prim.Native.Nat.{ℕ, zero, suc, ◌+◌, ◌*◌, ◌-◌, ◌≤◌, ◌<◌}
use native.Mathlib.Nat.{add-zero, add-suc, mul-zero, mul-suc}
use native.Mathlib.Omega.{arith}
use native.Mathlib.Decide.{dec_lt}
use lib.Dec.{T, ltb}
use borrow.Author.Tests.{lt-ltb, le-ltb}
use Rattle.foundation.specs.Order.{every}
use Rattle.foundation.proofs.Tests.{every-at, every_true, every_ext, not-true}

holds : (t : Bool) → T t → t ≡ true
holds true h = refl
holds false h = absurd h

module _ (f : ℕ → Bool) where
  -- the first m, and k more
  every_append : (m k : ℕ) → every (m + k) f ≡ cond (every k (λ i. f (m + i))) (every m f) false
  every_append m zero = ap (λ (n : ℕ). every n f) (add-zero m)
  every_append m (suc k) =
      ap (λ (n : ℕ). every n f) (add-suc m k) ∙ ap (λ (t : Bool). cond (f (m + k)) t false) (every_append m k)
      ∙ both (f (m + k)) (every k (λ i. f (m + i))) (every m f)
    where
      both : (s t u : Bool) → cond s (cond t u false) false ≡ cond (cond s t false) u false
      both true t u = refl
      both false t u = refl

  -- n runs of k
  pub every_runs : (k n : ℕ) → every (k * n) f ≡ every n (λ j. every k (λ i. f (k * j + i)))
  every_runs k zero = ap (λ (m : ℕ). every m f) (mul-zero k)
  every_runs k (suc n) =
      ap (λ (m : ℕ). every m f) (mul-suc k n) ∙ every_append (k * n) k
      ∙ ap (λ (t : Bool). cond (every k (λ i. f (k * n + i))) t false) (every_runs k n)

  -- the first m decide where the others are passed
  every_first : (m n : ℕ) → m ≤ n → ((i : ℕ) → m ≤ i → i < n → f i ≡ true) → every n f ≡ every m f
  every_first m n h passed =
      ap (λ (k : ℕ). every k f) whole ∙ every_append m (n - m)
      ∙ ap (λ (t : Bool). cond t (every m f) false) (every_true (n - m) (λ i. f (m + i)) (λ i l. passed (m + i) (omega arith) (omega arith)))
    where
      whole : n ≡ m + (n - m)
      whole = omega arith

  pub every_held : (n : ℕ) → every n f ≡ true → (i : ℕ) → i < n → f i ≡ true
  every_held n e i h = holds (f i) (every-at n f (subst T (sym e) tt) i h)

  pub every_fails : (n i : ℕ) → i < n → f i ≡ false → every n f ≡ false
  every_fails n i h e = not-true (every n f) (λ t. subst T e (every-at n f (subst T (sym t) tt) i h))

-- the test f, asked only below n
abbrev asked : (ℕ → Bool) → ℕ → ℕ → Bool
asked f n i = cond (ltb i n) (f i) true

-- it is one of every number below n if f is passed from m on
pub every-asked : (f : ℕ → Bool) (m n : ℕ) → ((i : ℕ) → m ≤ i → i < n → f i ≡ true) → every m (asked f n) ≡ every n f
every-asked f m n passed = go (dec_lt m n)
  where
    same : (k : ℕ) → k ≤ n → every k (asked f n) ≡ every k f
    same k h = every_ext k (asked f n) f (λ i l. ap (λ (t : Bool). cond t (f i) true) (lt-ltb i n (omega arith)))

    go : Dec (m < n) → every m (asked f n) ≡ every n f
    go (yes l) = same m (omega arith) ∙ sym (every_first f m n (omega arith) passed)
    go (no l) =
        every_first (asked f n) n m (omega arith) (λ i h _. ap (λ (t : Bool). cond t (f i) true) (le-ltb i n h)) ∙ same n (omega arith)
