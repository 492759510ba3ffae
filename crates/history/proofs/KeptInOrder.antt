-- The blocks of a message, kept in order.
-- Assumes nothing.
use mathlib.Core.Path.{◌≡◌, refl, ◌∙◌}
use mathlib.Core.Bool.{true, false}
use mathlib.Core.List.{List, [], ◌∷◌, ◌++◌}
use Prim.Native.Nat.{ℕ, zero, suc, ◌≤◌, ◌<◌}
use native.Mathlib.Nat.{not-suc-le-zero}
use native.Mathlib.Omega.{arith}
use borrow.Author.Tests.{eq-eqb, ne_eqb}
use Rattle.foundation.proofs.Tests.{extend}
use Rattle.messages.specs.Messages.{block_data}
use Rattle.history.specs.History.{Kept, holds, held_data}
use Rattle.history.proofs.Kept.{holds_more, first_stays, new_data}

-- the first k blocks of the message m
unfoldable pub kept_to : List ℕ → ℕ → List Kept
kept_to m zero = []
kept_to m (suc k) = kept_to m k ++ record { serial = k; octets = block_data m k } ∷ []

module _ (m : List ℕ) where
  abbrev own : ℕ → Kept
  own k = record { serial = k; octets = block_data m k }

  pub none_from : (k n : ℕ) → k ≤ n → holds (kept_to m k) n ≡ false
  unfolding kept_to holds
  none_from zero n h = refl
  none_from (suc k) n h = rw (holds_more (kept_to m k) (own k) n, ne_eqb k n (λ e. omega arith)) (none_from k n (omega arith))

  pub all-below : (k n : ℕ) → n < k → holds (kept_to m k) n ≡ true
  unfolding kept_to
  all-below zero n h = absurd (not-suc-le-zero h)
  all-below (suc k) n h =
      extend (λ n. holds (kept_to m (suc k)) n ≡ true) k
      (λ n h. rw (holds_more (kept_to m k) (own k) n, ne_eqb k n (λ e. omega arith)) (all-below k n h))
      (rw (holds_more (kept_to m k) (own k) k, eq-eqb k k refl)) n h

  pub data_below : (k n : ℕ) → n < k → held_data (kept_to m k) n ≡ block_data m n
  unfolding kept_to
  data_below zero n h = absurd (not-suc-le-zero h)
  data_below (suc k) n h =
      extend (λ n. held_data (kept_to m (suc k)) n ≡ block_data m n) k
      (λ n h. first_stays (kept_to m k) (own k) n (all-below k n h) ∙ data_below k n h)
      (new_data (kept_to m k) (own k) k (none_from k k (omega arith)) (eq-eqb k k refl)) n h
