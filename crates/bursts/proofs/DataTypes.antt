-- Which data types are known: 6, a header, and 7, a block.
-- Assumes nothing.
use mathlib.Core.Path.{◌≡◌, refl}
use mathlib.Core.Bool.{Bool, true, false, cond}
use Prim.Native.Nat.{ℕ, ◌<◌}
use native.Mathlib.Omega.{arith}
use lib.Dec.{eqb}
use borrow.Author.Tests.{eqb-true, eq-eqb, ne_eqb}
use Rattle.bursts.specs.Bursts.{kind_of, known}
use Rattle.bursts.specs.declared.burst.Kind.TheVariants.{Header, Block, Other}

module _ (t : ℕ) where
  pub kind-header : t ≡ 6 → Header ≡ kind_of t
  unfolding kind_of
  kind-header e = rw (eq-eqb t 6 e)

  pub kind-block : t ≡ 7 → Block ≡ kind_of t
  unfolding kind_of
  kind-block e = let six : t ≡ 6 → ⊥ = λ p. omega arith in rw (ne_eqb t 6 six, eq-eqb t 7 e)

  pub kind_other : (t ≡ 6 → ⊥) → (t ≡ 7 → ⊥) → Other ≡ kind_of t
  unfolding kind_of
  kind_other six seven = rw (ne_eqb t 6 six, ne_eqb t 7 seven)

  -- a known data type has four bits
  pub known-lt : known (kind_of t) ≡ true → t < 16
  unfolding kind_of known
  known-lt h = go (eqb t 6) (eqb t 7) refl refl h
    where
      go : (a b : Bool) → eqb t 6 ≡ a → eqb t 7 ≡ b → known (cond a Header (cond b Block Other)) ≡ true → t < 16
      go true b p q e = omega (arith, eqb-true t 6 p)
      go false true p q e = omega (arith, eqb-true t 7 q)
      go false false p q e = absurd (let z : ◌≡◌ {A = ℕ} 0 1 = cc in omega arith)
