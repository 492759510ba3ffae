-- What a block reads as, by the first test that it fails.
-- Assumes nothing.
use mathlib.Core.Path.{◌≡◌, refl, sym, ◌∙◌}
use mathlib.Core.Bool.{Bool, true, false, cond}
use mathlib.Core.List.{List}
use Prim.Native.Nat.{ℕ, zero, suc, ◌/◌}
use native.Mathlib.Omega.{arith}
use borrow.Author.Tests.{eq-eqb, ne_eqb}
use lib.Dec.{eqb}
use lib.ListN.{length, get_or, take, drop, replicate, length-drop}
use lib.Seq.{take_all}
use Rattle.foundation.specs.Order.{first_failed}
use Rattle.checks.specs.Checks.{block_good}
use Rattle.foundation.specs.Octets.{put}
use Rattle.foundation.proofs.Copying.{put_all}
use Rattle.foundation.specs.Refusals.{outcome}
use Rattle.packets.specs.Blocks.{block_tests, block_number, refused_block, read_block, block_given}

-- what the reader gives: serial and data, or the refusal of the first test that fails
pub given_is : (b : List ℕ) → block_given (read_block b) ≡ outcome (first_failed (block_tests b)) (record { serial = get_or b 0 0 / 2; octets = drop 2 b })
unfolding read_block block_number block_given outcome
given_is b = go (first_failed (block_tests b))
  where
    go : (n : ℕ) → block_given (cond (eqb n 0) (record { number = 0; serial = get_or b 0 0 / 2; octets = drop 2 b }) (refused_block n))
        ≡ outcome n (record { serial = get_or b 0 0 / 2; octets = drop 2 b })
    go zero = refl
    go (suc n) = rw (ne_eqb (suc n) 0 (λ e. omega arith))

-- the number of a block of 12 octets, by the test that is left
by_test : Bool → ℕ
by_test good = cond good 0 13

module _ (b : List ℕ) where
  pub size-refused : (length b ≡ 12 → ⊥) → refused_block 1 ≡ read_block b
  unfolding read_block block_number block_tests first_failed
  size-refused n = rw (ne_eqb (length b) 12 n)

  module _ (size : length b ≡ 12) where
    pub check-refused : block_good b ≡ false → refused_block 13 ≡ read_block b
    unfolding read_block block_number block_tests first_failed
    check-refused g = rw (eq-eqb (length b) 12 size, g)

    pub accepted : block_good b ≡ true → record { number = 0; serial = get_or b 0 0 / 2; octets = drop 2 b } ≡ read_block b
    unfolding read_block block_number block_tests first_failed
    accepted g = rw (eq-eqb (length b) 12 size, g)

    tested : (read_block b).number ≡ by_test (block_good b)
    unfolding by_test read_block block_number block_tests first_failed
    tested = rw (eq-eqb (length b) 12 size) (go (block_good b))
      where
        go : (good : Bool)
            → (cond (eqb (by_test good) 0) (record { number = 0; serial = get_or b 0 0 / 2; octets = drop 2 b }) (refused_block (by_test good))).number ≡ by_test good
        go true = refl
        go false = refl

    -- the octets behind the first two, put into an array
    pub data_is : put (replicate 10 0) 0 (take 10 (drop 2 b)) ≡ drop 2 b
    data_is =
        let rest = length-drop 2 b in
        rw (take_all 10 (drop 2 b) (omega arith)) (put_all (replicate 10 0) (drop 2 b) (omega arith))

-- the other way: what a number says of the octets
module _ (b : List ℕ) (size : length b ≡ 12) where
  pub 1-size : (read_block b).number ≡ 1 → ⊥
  unfolding by_test
  1-size e = go (block_good b) (sym e ∙ tested b size)
    where
      go : (good : Bool) → 1 ≡ by_test good → ⊥
      go true q = omega arith
      go false q = omega arith

  pub 13-check : (read_block b).number ≡ 13 → block_good b ≡ false
  unfolding by_test
  13-check e = go (block_good b) (sym e ∙ tested b size)
    where
      go : (good : Bool) → 13 ≡ by_test good → good ≡ false
      go true q = absurd (omega arith)
      go false q = refl
