-- A line in octets: what is written one behind the other, and what is said in it.
-- Assumes nothing.
use mathlib.Core.Path.{◌≡◌, refl, ap, ◌∙◌}
use mathlib.Core.List.{List, [], ◌∷◌, ◌++◌}
use Prim.Native.Nat.{ℕ, ◌+◌, ◌*◌, ◌-◌, ◌/◌, ◌%◌, ◌≤◌}
use native.Mathlib.Omega.{arith}
use lib.ListN.{length, take, drop, replicate, length-append, length-replicate}
use lib.Seq.{take_all}
use Rattle.foundation.specs.Octets.{put}
use Rattle.foundation.proofs.Copying.{Grown, grown_none, grown_put, grown_all}
use Rattle.foundation.proofs.Filling.{drop-zeros}
use Rattle.receiver.specs.Events.{Answer, said}
use Rattle.stored.specs.Stored.{stored_block}
use Rattle.logs.specs.Log.{answer, line_size, line_octets, line_in}

-- zeros behind the contents
zeros-behind : (n k : ℕ) → take (n - k) (drop k (replicate {A = ℕ} n 0)) ≡ replicate (n - k) 0
zeros-behind n k = rw (drop-zeros k n) (take_all (n - k) (replicate (n - k) 0) (omega (arith, length-replicate {A = ℕ} (n - k) 0)))

-- the octets before the contents
abbrev head : ℕ → List ℕ → List ℕ
head code os = code ∷ length os / 256 ∷ length os % 256 ∷ []

module _ (code : ℕ) (os : List ℕ) (small : length os ≤ 2 * stored_block) where
  abbrev zeros : List ℕ
  zeros = take (2 * stored_block - length os) (drop (length os) (replicate (2 * stored_block) 0))

  length-zeros : length zeros ≡ 2 * stored_block - length os
  length-zeros = ap length (zeros-behind (2 * stored_block) (length os)) ∙ length-replicate {A = ℕ} (2 * stored_block - length os) 0

  length_front : length (head code os ++ os) ≡ 3 + length os
  length_front = length-append (head code os) os

  -- head, contents and zeros, written one behind the other
  pub line-written : (d d1 d2 d3 : List ℕ) → length d ≡ line_size → d1 ≡ put d 0 (head code os) → d2 ≡ put d1 3 os
      → d3 ≡ put d2 (3 + length os) zeros → d3 ≡ line_octets code os
  unfolding line_octets
  line-written d d1 d2 d3 room e1 e2 e3 =
      let g1 : Grown (head code os) d d1 = e1 ∙ grown_put d [] (head code os) d 0 refl (omega arith) (grown_none d) in
      let g2 : Grown (head code os ++ os) d d2 = e2 ∙ grown_put d (head code os) os d1 3 refl (omega arith) g1 in
      let g3 : Grown (head code os ++ os ++ zeros) d d3 =
      e3 ∙ grown_put d (head code os ++ os) zeros d2 (3 + length os) length_front (omega (arith, length-zeros)) g2 in
      grown_all d (head code os ++ os ++ zeros) d3 (length-append (head code os ++ os) zeros ∙ omega (arith, length_front, length-zeros)) g3
      ∙ ap (λ (l : List ℕ). head code os ++ os ++ l) (zeros-behind (2 * stored_block) (length os))

-- ---- what is said

pub said-line : (store : List ℕ) (a b : Answer) (line : List ℕ) → a ≡ b → line ≡ line_in (answer (said b store)) → line ≡ line_in (answer (said a store))
said-line store a b line e h = rw e h
