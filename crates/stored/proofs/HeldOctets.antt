-- Laws of the octets of held blocks.
-- Assumes nothing.
use mathlib.Core.Path.{◌≡◌, refl, sym, ap, ◌∙◌}
use mathlib.Core.Bool.{Bool, true, false, cond}
use mathlib.Core.List.{List, ◌++◌}
use Prim.Native.Nat.{ℕ, zero, suc, ◌+◌, ◌*◌, ◌/◌, ◌≤◌, ◌<◌}
use native.Mathlib.Nat.{add-zero, zero-add, suc-add}
use native.Mathlib.Omega.{arith}
use borrow.Author.Tests.{eq-eqb, eqb-true}
use lib.Dec.{eqb}
use lib.ListN.{length, get_or, take, drop, length-drop}
use lib.Seq.{length-take-le, ext_get_or, get_or-take, get_or-drop}
use Rattle.foundation.specs.Order.{every}
use Rattle.foundation.proofs.Tests.{either, every_true}
use Rattle.foundation.proofs.Every.{every_held}
use Rattle.messages.specs.Messages.{block_size, most_blocks}
use Rattle.receiver_state.specs.Receiver.{block_at, store_size, held}
use Rattle.receiver_state.specs.declared.Receiver.{Receiver}
use Rattle.stored.specs.Stored.{held_octets, clear, zeros_from}
use Rattle.stored.specs.Claims.{held_store}

module _ (f : ℕ → Bool) (o : ℕ → ℕ) where
  -- octet i, zero where its block is not held
  abbrev pub held_octet : ℕ → ℕ
  held_octet i = cond (f (i / block_size)) (o i) 0

  pub length-held : (at n : ℕ) → length (held_octets f o at n) ≡ n
  unfolding held_octets
  length-held at zero = refl
  length-held at (suc n) = ap suc (length-held (suc at) n)

  pub held_at : (at n i : ℕ) → i < n → get_or (held_octets f o at n) i 0 ≡ held_octet (at + i)
  unfolding held_octets
  held_at at zero i h = absurd (omega arith)
  held_at at (suc n) zero h = rw (add-zero at)
  held_at at (suc n) (suc i) h =
      let e : suc at + i ≡ at + suc i = omega arith in
      held_at (suc at) n i (omega arith) ∙ ap held_octet e

  pub held-append : (at n m : ℕ) → held_octets f o at n ++ held_octets f o (at + n) m ≡ held_octets f o at (n + m)
  unfolding held_octets
  held-append at zero m = rw (add-zero at, zero-add m)
  held-append at (suc n) m =
      let e : at + suc n ≡ suc at + n = omega arith in
      rw (e, held-append (suc at) n m, suc-add n m)

  -- those that stand in a list at their places are a part of it
  pub held-part : (os : List ℕ) (at n : ℕ) → at + n ≤ length os → ((i : ℕ) → at ≤ i → i < at + n → held_octet i ≡ get_or os i 0)
      → held_octets f o at n ≡ take n (drop at os)
  held-part os at n h k =
      ext_get_or 0 (held_octets f o at n) (take n (drop at os)) (size ∙ sym (length-take-le n (drop at os) (omega (arith, length-drop at os))))
      (λ i l. same i (omega (arith, size)))
    where
      size : length (held_octets f o at n) ≡ n
      size = length-held at n

      same : (i : ℕ) → i < n → get_or (held_octets f o at n) i 0 ≡ get_or (take n (drop at os)) i 0
      same i l = held_at at n i l ∙ k (at + i) (omega arith) (omega arith) ∙ sym (get_or-take n (drop at os) i 0 l ∙ get_or-drop at os i 0)

-- where the octets of blocks not held are zero, the held octets are all
pub held_all : (f : ℕ → Bool) (os : List ℕ) (at n : ℕ) → at + n ≤ length os → ((i : ℕ) → i < at + n → f (i / block_size) ≡ false → get_or os i 0 ≡ 0)
    → held_octets f (λ i. get_or os i 0) at n ≡ take n (drop at os)
held_all f os at n h z =
    held-part f (λ i. get_or os i 0) os at n h (λ i l k. either (f (i / block_size)) (λ e. rw e) (λ e. rw e (sym (z i k e))))

-- parts of two lists with the same octets
part_same : (x y : List ℕ) (at n : ℕ) → at + n ≤ length x → at + n ≤ length y → ((i : ℕ) → at ≤ i → i < at + n → get_or x i 0 ≡ get_or y i 0)
    → take n (drop at x) ≡ take n (drop at y)
part_same x y at n hx hy h =
    ext_get_or 0 (take n (drop at x)) (take n (drop at y)) (size ∙ sym (length-take-le n (drop at y) (omega (arith, length-drop at y))))
    (λ i l. same i (omega (arith, size)))
  where
    size : length (take n (drop at x)) ≡ n
    size = length-take-le n (drop at x) (omega (arith, length-drop at x))

    at_part : (z : List ℕ) (i : ℕ) → i < n → get_or (take n (drop at z)) i 0 ≡ get_or z (at + i) 0
    at_part z i l = get_or-take n (drop at z) i 0 l ∙ get_or-drop at z i 0

    same : (i : ℕ) → i < n → get_or (take n (drop at x)) i 0 ≡ get_or (take n (drop at y)) i 0
    same i l = at_part x i l ∙ h (at + i) (omega arith) (omega arith) ∙ sym (at_part y i l)

-- the tests of octets that are zero, and what they say of each
module _ (os : List ℕ) (at n : ℕ) where
  pub zeros_from_true : ((i : ℕ) → i < n → get_or os (at + i) 0 ≡ 0) → zeros_from os at n ≡ true
  unfolding zeros_from
  zeros_from_true z = every_true n (λ i. eqb (get_or os (at + i) 0) 0) (λ i h. eq-eqb (get_or os (at + i) 0) 0 (z i h))

  pub zeros_from-at : zeros_from os at n ≡ true → (i : ℕ) → i < n → get_or os (at + i) 0 ≡ 0
  unfolding zeros_from
  zeros_from-at e i h = eqb-true (get_or os (at + i) 0) 0 (every_held (λ i. eqb (get_or os (at + i) 0) 0) n e i h)

module _ (rx : Receiver) (os : List ℕ) where
  pub clear_true : (n : ℕ) → ((i : ℕ) → i < n → held rx (i / block_size) ≡ false → get_or os i 0 ≡ 0) → clear rx os n ≡ true
  unfolding clear
  clear_true n z =
      every_true n (λ i. cond (held rx (i / block_size)) true (eqb (get_or os i 0) 0))
      (λ i h. either (held rx (i / block_size)) (λ e. rw e) (λ e. rw e (eq-eqb (get_or os i 0) 0 (z i h e))))

  pub clear_at : (n : ℕ) → clear rx os n ≡ true → (i : ℕ) → i < n → held rx (i / block_size) ≡ false → get_or os i 0 ≡ 0
  unfolding clear
  clear_at n c i h e =
      eqb-true (get_or os i 0) 0
      (rw e at (every_held (λ i. cond (held rx (i / block_size)) true (eqb (get_or os i 0) 0)) n c i h))

module _ (rx : Receiver) (store : List ℕ) where
  pub length-held_store : length (held_store rx store) ≡ store_size
  unfolding held_store
  length-held_store = length-held (held rx) (λ i. get_or store i 0) 0 store_size

  pub held_store-at : (i : ℕ) → i < store_size → get_or (held_store rx store) i 0 ≡ cond (held rx (i / block_size)) (get_or store i 0) 0
  unfolding held_store
  held_store-at i h = held_at (held rx) (λ i. get_or store i 0) 0 store_size i h ∙ rw (zero-add i)

  pub held_store-clear : clear rx (held_store rx store) store_size ≡ true
  held_store-clear = clear_true rx (held_store rx store) store_size (λ i h e. held_store-at i h ∙ rw e)

  -- the octets of held blocks are those of the store
  held_store-kept : (i : ℕ) → i < store_size → held rx (i / block_size) ≡ true → get_or (held_store rx store) i 0 ≡ get_or store i 0
  held_store-kept i h e = held_store-at i h ∙ rw e

  module _ (room : length store ≡ store_size) where
    pub block-kept : (n : ℕ) → n < most_blocks → held rx n ≡ true → block_at (held_store rx store) n ≡ block_at store n
    unfolding block_at
    block-kept n h e =
        part_same (held_store rx store) store (block_size * n) block_size
        (omega (arith, length-held_store)) (omega arith)
        (λ i l l'. let k : i / block_size ≡ n = omega arith in held_store-kept i (omega arith) (ap (held rx) k ∙ e))

    -- so the first blocks where all of them are held
    pub first-kept : (n : ℕ) → n ≤ most_blocks → every n (held rx) ≡ true → take (block_size * n) (held_store rx store) ≡ take (block_size * n) store
    first-kept n h e =
        part_same (held_store rx store) store 0 (block_size * n) (omega (arith, length-held_store)) (omega arith)
        (λ i l l'. held_store-kept i (omega arith) (every_held (held rx) n e (i / block_size) (omega arith)))
