-- Tests of blocks by words: bit i of word j is the test of block 64 j + i, so one comparison of words decides for 64 blocks.
-- Assumes nothing.
use mathlib.Core.Path.{◌≡◌, refl, sym, ap, ap₂, ◌∙◌}
use mathlib.Core.Bool.{Bool, true, false, not, cond, beq}
use mathlib.Core.List.{List}
use Prim.Native.Nat.{ℕ, zero, suc, ◌+◌, ◌*◌, ◌-◌, ◌%◌, ◌^◌, ◌≤◌, ◌<◌}
use native.Mathlib.Nat.{add-zero, add-suc, mul-add, mul_comm, one-mul, pow-suc}
use native.Mathlib.Omega.{arith}
use lib.Bits.{bit_and, and_block}
use lib.Dec.{eqb, ltb}
use lib.ListN.{get_or}
use lib.Pow.{pow_pos, pow-add, shl_exact}
use borrow.Author.Tests.{eqb-true, eq-eqb, ne_eqb, ltb-true, lt-ltb, le-ltb}
use Rattle.foundation.specs.Order.{every}
use Rattle.foundation.proofs.Tests.{last, same_test, every_ext, all-eq}
use Rattle.std.specs.Int.{w64, from_le_bytes, sum_through, byte_worth}
use Rattle.std.specs.List.{slice_index}
use Rattle.transactions.specs.Flags.{flagged, weights}
use Rattle.transactions.specs.Parts.{word_of, is_between, as_wanted}
use Rattle.foundation.proofs.Every.{every-asked}
use Rattle.transactions.proofs.FlagOctets.{weights_more, weights-lt, weights_ext, octet_of_flags}

-- ---- the word of a test

-- the first k blocks, and l more
weights-append : (f : ℕ → Bool) (at k l : ℕ) → weights f at (k + l) ≡ weights f at k + 2 ^ k * weights f (at + k) l
unfolding weights
weights-append f at k zero = ap (weights f at) (add-zero k) ∙ omega arith
weights-append f at k (suc l) =
    ap (weights f at) (add-suc k l)
    ∙ ap₂ (λ (x : ℕ) (t : Bool). x + cond t (2 ^ (k + l)) 0) (weights-append f at k l) (ap f place)
    ∙ regroup (f (at + k + l)) (weights f at k) (weights f (at + k) l)
  where
    place : at + (k + l) ≡ at + k + l
    place = omega arith

    regroup : (t : Bool) (x y : ℕ) → x + 2 ^ k * y + cond t (2 ^ (k + l)) 0 ≡ x + 2 ^ k * (y + cond t (2 ^ l) 0)
    regroup true x y = omega (arith, mul-add (2 ^ k) y (2 ^ l), pow-add 2 k l)
    regroup false x y = omega (arith, mul-add (2 ^ k) y 0)

weights-none : (at m : ℕ) → weights (λ _. false) at m ≡ 0
unfolding weights
weights-none at zero = refl
weights-none at (suc m) = omega (arith, weights-none at m)

-- the blocks of which a test does not hold
weights_not : (f : ℕ → Bool) (at m : ℕ) → weights f at m + weights (λ i. not (f i)) at m + 1 ≡ 2 ^ m
weights_not f at zero = unfold weights in refl
weights_not f at (suc m) =
    ap₂ (λ (x y : ℕ). x + y + 1) (weights_more f at m) (weights_more (λ i. not (f i)) at m)
    ∙ one (f (at + m)) (weights f at m) (weights (λ i. not (f i)) at m) (weights_not f at m)
  where
    one : (t : Bool) (x y : ℕ) → x + y + 1 ≡ 2 ^ m → cond t 1 0 * 2 ^ m + x + (cond (not t) 1 0 * 2 ^ m + y) + 1 ≡ 2 ^ suc m
    one true x y e = omega (arith, pow-suc 2 m)
    one false x y e = omega (arith, pow-suc 2 m)

module _ (f g : ℕ → Bool) (at : ℕ) where
  -- the blocks of which two tests hold
  weights_both : (m : ℕ) → bit_and (weights f at m) (weights g at m) ≡ weights (λ i. cond (g i) (f i) false) at m
  weights_both zero = unfold weights in refl
  weights_both (suc m) =
      ap₂ bit_and (weights_more f at m) (weights_more g at m)
      ∙ and_block m (cond (f (at + m)) 1 0) (cond (g (at + m)) 1 0) (weights f at m) (weights g at m) (weights-lt f at m) (weights-lt g at m)
      ∙ ap₂ (λ (x y : ℕ). x * 2 ^ m + y) (one (f (at + m)) (g (at + m))) (weights_both m)
      ∙ sym (weights_more (λ i. cond (g i) (f i) false) at m)
    where
      one : (s t : Bool) → bit_and (cond s 1 0) (cond t 1 0) ≡ cond (cond t s false) 1 0
      one true true = refl
      one true false = refl
      one false true = refl
      one false false = refl

  -- words are equal exactly if the tests are, block by block
  weights-same : (m : ℕ) → eqb (weights f at m) (weights g at m) ≡ every m (λ i. beq (f (at + i)) (g (at + i)))
  weights-same zero = unfold weights in refl
  weights-same (suc m) =
      ap₂ eqb (weights_more f at m) (weights_more g at m) ∙ one (f (at + m)) (g (at + m)) (weights f at m) (weights g at m) (weights-lt f at m) (weights-lt g at m)
      ∙ ap (λ (t : Bool). cond (beq (f (at + m)) (g (at + m))) t false) (weights-same m)
    where
      eqb_same : (a b c d : ℕ) → (a ≡ b → c ≡ d) → (c ≡ d → a ≡ b) → eqb a b ≡ eqb c d
      eqb_same a b c d p q = same_test (eqb a b) (eqb c d) (λ t. eq-eqb c d (p (eqb-true a b t))) (λ t. eq-eqb a b (q (eqb-true c d t)))

      one : (s t : Bool) (x y : ℕ) → x < 2 ^ m → y < 2 ^ m → eqb (cond s 1 0 * 2 ^ m + x) (cond t 1 0 * 2 ^ m + y) ≡ cond (beq s t) (eqb x y) false
      one true true x y l h = eqb_same (1 * 2 ^ m + x) (1 * 2 ^ m + y) x y (λ e. omega arith) (λ e. omega arith)
      one true false x y l h = ne_eqb (1 * 2 ^ m + x) (0 * 2 ^ m + y) (λ e. omega arith)
      one false true x y l h = ne_eqb (0 * 2 ^ m + x) (1 * 2 ^ m + y) (λ e. omega arith)
      one false false x y l h = eqb_same (0 * 2 ^ m + x) (0 * 2 ^ m + y) x y (λ e. omega arith) (λ e. omega arith)

-- ---- the flags

powers : (k : ℕ) → 256 ^ k ≡ 2 ^ (8 * k)
powers zero = refl
powers (suc k) =
    let more : 8 * k + 8 ≡ 8 * suc k = omega arith in
    pow-suc 256 k ∙ ap (λ (x : ℕ). x * 256) (powers k) ∙ sym (pow-add 2 (8 * k) 8) ∙ ap (λ (n : ℕ). 2 ^ n) more

module _ (os : List ℕ) (octet : (i : ℕ) → get_or os i 0 < 256) (j : ℕ) (l : List ℕ) (same : (i : ℕ) → i < 8 → get_or l i 0 ≡ get_or os (8 * j + i) 0) where
  -- the first octets of a word, the lowest first
  octets-read : (k : ℕ) → k < 8 → sum_through (λ i. byte_worth i (slice_index l i)) k ≡ weights (flagged os) (64 * j) (8 * (k + 1))
  octets-read zero h =
      same 0 h ∙ sym (octet_of_flags os octet (8 * j + 0)) ∙ ap (λ (at : ℕ). weights (flagged os) at 8) place
    where
      place : 8 * (8 * j + 0) ≡ 64 * j
      place = omega arith
  octets-read (suc k) h =
      ap₂ ◌+◌ (octets-read k (omega arith)) worth
      ∙ sym (weights-append (flagged os) (64 * j) (8 * (k + 1)) 8)
      ∙ ap (weights (flagged os) (64 * j)) more
    where
      place : 8 * (8 * j + suc k) ≡ 64 * j + 8 * (k + 1)
      place = omega arith

      more : 8 * (k + 1) + 8 ≡ 8 * (suc k + 1)
      more = omega arith

      times : 8 * suc k ≡ 8 * (k + 1)
      times = omega arith

      worth : get_or l (suc k) 0 * 256 ^ suc k ≡ 2 ^ (8 * (k + 1)) * weights (flagged os) (64 * j + 8 * (k + 1)) 8
      worth =
          ap₂ ◌*◌ (same (suc k) h ∙ sym (octet_of_flags os octet (8 * j + suc k)) ∙ ap (λ (at : ℕ). weights (flagged os) at 8) place)
          (powers (suc k) ∙ ap (λ (n : ℕ). 2 ^ n) times)
          ∙ mul_comm (weights (flagged os) (64 * j + 8 * (k + 1)) 8) (2 ^ (8 * (k + 1)))

  -- the word of eight octets
  pub word_read : from_le_bytes w64 l ≡ word_of (flagged os) j
  word_read = octets-read 7 (omega arith)

-- ---- the blocks below n

module _ (n j : ℕ) where
  -- they are the first k of word j
  below-first : (k : ℕ) → k < 65 → ((i : ℕ) → i < 64 → (64 * j + i < n → i < k) × (i < k → 64 * j + i < n)) → word_of (λ i. ltb i n) j ≡ 2 ^ k - 1
  below-first k few same =
      weights_ext (λ i. ltb i n) (λ i. ltb i k) (64 * j) 0 64 (λ i h. ltb-same (64 * j + i) n (0 + i) k (λ l. omega (arith, (same i h).0 l)) (λ l. (same i h).1 (omega arith)))
      ∙ computed k few
    where
      ltb-same : (a b c d : ℕ) → (a < b → c < d) → (c < d → a < b) → ltb a b ≡ ltb c d
      ltb-same a b c d p q = same_test (ltb a b) (ltb c d) (λ t. lt-ltb c d (p (ltb-true a b t))) (λ t. lt-ltb a b (q (ltb-true c d t)))

      -- computed for every k
      computed : (k : ℕ) → k < 65 → weights (λ i. ltb i k) 0 64 ≡ 2 ^ k - 1
      computed = unfold weights in all-eq 65 (λ k. weights (λ i. ltb i k) 0 64) (λ k. 2 ^ k - 1) tt

  pub below_none : n ≤ 64 * j → 0 ≡ word_of (λ i. ltb i n) j
  below_none h = sym (below-first 0 (omega arith) (λ i l. ((λ b. omega arith), (λ b. omega arith))))

  pub below_all : 64 ≤ n - 64 * j → 0xFFFFFFFFFFFFFFFF ≡ word_of (λ i. ltb i n) j
  below_all h = sym (below-first 64 (omega arith) (λ i l. ((λ b. omega arith), (λ b. omega arith))))

  -- a power as the code shifts it
  power : n - 64 * j < 64 → 1 * 2 ^ (n - 64 * j) % 2 ^ 64 ≡ 2 ^ (n - 64 * j)
  power h = shl_exact 1 (n - 64 * j) 64 (omega arith) (omega arith) ∙ one-mul (2 ^ (n - 64 * j))

  pub power_some : n - 64 * j < 64 → 1 ≤ 1 * 2 ^ (n - 64 * j) % 2 ^ 64
  power_some h = rw (power h) (pow_pos (n - 64 * j))

  pub below_some : n - 64 * j < 64 → 1 * 2 ^ (n - 64 * j) % 2 ^ 64 - 1 ≡ word_of (λ i. ltb i n) j
  below_some h = rw (power h) (sym (below-first (n - 64 * j) (omega arith) (λ i l. ((λ b. omega arith), (λ b. omega arith)))))

-- ---- the blocks from `from` on and below `to`

pub between_is : (from to j f t : ℕ) → f ≡ word_of (λ i. ltb i from) j → t ≡ word_of (λ i. ltb i to) j → bit_and t (0xFFFFFFFFFFFFFFFF - f) ≡ word_of (is_between from to) j
between_is from to j f t p q =
    ap₂ bit_and q (ap (λ (x : ℕ). 0xFFFFFFFFFFFFFFFF - x) p ∙ others) ∙ weights_both (λ i. ltb i to) (λ i. not (ltb i from)) (64 * j) 64
  where
    others : 0xFFFFFFFFFFFFFFFF - word_of (λ i. ltb i from) j ≡ word_of (λ i. not (ltb i from)) j
    others = omega (arith, weights_not (λ i. ltb i from) (64 * j) 64)

-- the flags that they are to have
due_is : (g : ℕ → Bool) (at m : ℕ) (wanted : Bool) → cond wanted (weights g at m) 0 ≡ weights (λ i. cond (g i) wanted false) at m
due_is g at m true = weights_ext g (λ i. cond (g i) true false) at at m (λ k l. last (g (at + k)))
due_is g at m false = sym (weights_ext (λ i. cond (g i) false false) (λ _. false) at at m (λ k l. none (g (at + k))) ∙ weights-none at m)
  where
    none : (t : Bool) → cond t false false ≡ false
    none true = refl
    none false = refl

-- one comparison decides for 64 blocks
module _ (flags : List ℕ) (from to : ℕ) (wanted : Bool) where
  pub word_decides : (j w b a : ℕ) → w ≡ word_of (flagged flags) j → b ≡ word_of (is_between from to) j → a ≡ cond wanted b 0
      → eqb (bit_and w b) a ≡ every 64 (λ i. as_wanted flags from to wanted (64 * j + i))
  word_decides j w b a p q r =
      ap₂ eqb (ap₂ bit_and p q ∙ weights_both (flagged flags) (is_between from to) (64 * j) 64) (r ∙ ap (λ (x : ℕ). cond wanted x 0) q ∙ due_is (is_between from to) (64 * j) 64 wanted)
      ∙ weights-same (λ i. cond (is_between from to i) (flagged flags i) false) (λ i. cond (is_between from to i) wanted false) (64 * j) 64
      ∙ every_ext 64 _ (λ i. as_wanted flags from to wanted (64 * j + i)) (λ i l. one (is_between from to (64 * j + i)) (flagged flags (64 * j + i)))
    where
      one : (s t : Bool) → beq (cond s t false) (cond s wanted false) ≡ cond s (beq t wanted) true
      one true t = refl
      one false t = refl

-- ---- of m flags, every one below n, and every one from n on

is_true : (t : Bool) → beq t true ≡ t
is_true true = refl
is_true false = refl

is_false : (t : Bool) → beq t false ≡ not t
is_false true = refl
is_false false = refl

module _ (flags : List ℕ) (m n : ℕ) where
  wanted_below : (wanted : Bool) → ((i : ℕ) → m ≤ i → i < n → beq (flagged flags i) wanted ≡ true) → every m (as_wanted flags 0 n wanted) ≡ every n (λ i. beq (flagged flags i) wanted)
  wanted_below wanted past =
      every_ext m _ _ (λ i l. ap (λ (t : Bool). cond (cond (not t) (ltb i n) false) (beq (flagged flags i) wanted) true) (le-ltb i 0 (omega arith)))
      ∙ every-asked (λ i. beq (flagged flags i) wanted) m n past

  pub all-below : n ≤ m → every m (as_wanted flags 0 n true) ≡ every n (flagged flags)
  all-below h = wanted_below true (λ i l k. absurd (omega arith)) ∙ every_ext n _ (flagged flags) (λ i l. is_true (flagged flags i))

  pub none_below : ((i : ℕ) → m ≤ i → flagged flags i ≡ false) → every m (as_wanted flags 0 n false) ≡ every n (λ i. not (flagged flags i))
  none_below past = wanted_below false (λ i l k. is_false (flagged flags i) ∙ ap not (past i l)) ∙ every_ext n _ _ (λ i l. is_false (flagged flags i))

  pub none_from : every m (as_wanted flags n m false) ≡ every m (λ i. cond (ltb i n) true (not (flagged flags i)))
  none_from = every_ext m _ _ (λ i l. one i l (ltb i n))
    where
      one : (i : ℕ) → i < m → (t : Bool) → cond (cond (not t) (ltb i m) false) (beq (flagged flags i) false) true ≡ cond t true (not (flagged flags i))
      one i l true = refl
      one i l false = ap (λ (t : Bool). cond t (beq (flagged flags i) false) true) (lt-ltb i m l) ∙ is_false (flagged flags i)
