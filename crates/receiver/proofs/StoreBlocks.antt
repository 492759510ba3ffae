-- Blocks of the store: one that is compared, one that is put in, and what stands there then.
-- Assumes nothing.
use mathlib.Core.Path.{◌≡◌, sym, ap, ◌∙◌}
use mathlib.Core.Bool.{Bool}
use mathlib.Core.List.{List, ◌++◌}
use mathlib.Core.Logic.{◌≢◌}
use Prim.Native.Nat.{ℕ, ◌+◌, ◌*◌, ◌-◌, ◌≤◌, ◌<◌}
use native.Mathlib.Omega.{arith}
use lib.Dec.{eqb, ltb}
use lib.ListN.{length, get_or, take, drop, length-append, length-take, length-drop, get_or-append}
use lib.Seq.{ext_get_or, get_or-take, get_or-drop, get_or-append-add}
use lib.Pointwise.{pointwise, bytes_decides}
use borrow.Author.Tests.{ltb-true, ltb-false, eqb-true, eq-eqb}
use Rattle.foundation.specs.Octets.{over, put}
use Rattle.foundation.specs.Order.{every}
use Rattle.foundation.proofs.Every.{every_held}
use Rattle.foundation.proofs.Tests.{either, same_test, every_true}
use Rattle.transactions.specs.Transactions.{same_data}
use Rattle.foundation.proofs.Copying.{put_fits}
use Rattle.receiver_state.specs.Receiver.{block_at}
use Rattle.receiver.specs.Events.{put_block}

pub length_at : (store : List ℕ) (n : ℕ) → 10 * n + 10 ≤ length store → length (block_at store n) ≡ 10
unfolding block_at
length_at store n h = simp (length-take, length-drop) (omega arith)

pub get_d_at : (store : List ℕ) (n i : ℕ) → i < 10 → get_or (block_at store n) i 0 ≡ get_or store (10 * n + i) 0
unfolding block_at
get_d_at store n i h = rw (get_or-take, get_or-drop)

-- ---- compared

-- slices are equal exactly if their octets are
pub slices_same : (store : List ℕ) (n : ℕ) (os : List ℕ) → 10 * n + 10 ≤ length store → length os ≡ 10
    → pointwise eqb (block_at store n) os ≡ same_data (block_at store n) os
unfolding same_data
slices_same store n os room ten =
    let x : List ℕ = block_at store n in
    let test : ℕ → Bool = λ i. eqb (get_or x i 0) (get_or os i 0) in
    same_test (pointwise eqb x os) (every 10 test)
    (λ t. every_true 10 test (λ i l. eq-eqb (get_or x i 0) (get_or os i 0) (ap (λ (ys : List ℕ). get_or ys i 0) ((bytes_decides x os).0 t))))
    (λ t. (bytes_decides x os).1 (ext_get_or 0 x os (length_at store n room ∙ sym ten)
    (λ i l. eqb-true (get_or x i 0) (get_or os i 0) (every_held test 10 t i (omega (arith, length_at store n room))))))

-- ---- put in

module _ (store : List ℕ) (n : ℕ) (os : List ℕ) (fits : 10 * n + 10 ≤ length store) (ten : length os ≡ 10) where
  pub put-block : put store (10 * n) os ≡ put_block store n os
  put-block = put_fits store (10 * n) os (omega arith) ∙ unfold over put_block in rw ten

  head_length : length (take (10 * n) store) ≡ 10 * n
  head_length = simp (length-take) (omega arith)

  front_length : length (take (10 * n) store ++ os) ≡ 10 * n + 10
  front_length = length-append (take (10 * n) store) os ∙ omega (arith, head_length)

  pub length-put : length (put_block store n os) ≡ length store
  unfolding put_block
  length-put = simp (length-append, length-take, length-drop) (omega arith)

  put-below : (i : ℕ) → i < 10 * n → get_or (put_block store n os) i 0 ≡ get_or store i 0
  unfolding put_block
  put-below i h =
      get_or-append (take (10 * n) store ++ os) (drop (10 * n + 10) store) 0 i (omega (arith, front_length))
      ∙ get_or-append (take (10 * n) store) os 0 i (omega (arith, head_length))
      ∙ get_or-take (10 * n) store i 0 h

  put-within : (i : ℕ) → i < 10 → get_or (put_block store n os) (10 * n + i) 0 ≡ get_or os i 0
  unfolding put_block
  put-within i h =
      get_or-append (take (10 * n) store ++ os) (drop (10 * n + 10) store) 0 (10 * n + i) (omega (arith, front_length))
      ∙ ap (λ k. get_or (take (10 * n) store ++ os) (k + i) 0) (sym head_length)
      ∙ get_or-append-add (take (10 * n) store) os i 0

  put-above : (i : ℕ) → get_or (put_block store n os) (10 * n + 10 + i) 0 ≡ get_or store (10 * n + 10 + i) 0
  unfolding put_block
  put-above i =
      ap (λ k. get_or (take (10 * n) store ++ os ++ drop (10 * n + 10) store) (k + i) 0) (sym front_length)
      ∙ get_or-append-add (take (10 * n) store ++ os) (drop (10 * n + 10) store) i 0
      ∙ get_or-drop (10 * n + 10) store i 0

  pub at-put-same : block_at (put_block store n os) n ≡ os
  at-put-same =
      let l : length (block_at (put_block store n os) n) ≡ 10 = length_at (put_block store n os) n (omega (arith, length-put)) in
      ext_get_or 0 (block_at (put_block store n os) n) os (l ∙ sym ten)
      (λ i h. get_d_at (put_block store n os) n i (omega arith) ∙ put-within i (omega arith))

  put_elsewhere : (m : ℕ) → m ≢ n → (i : ℕ) → i < 10 → get_or (put_block store n os) (10 * m + i) 0 ≡ get_or store (10 * m + i) 0
  put_elsewhere m other i h =
      either (ltb m n) (λ t. let l : m < n = ltb-true m n t in put-below (10 * m + i) (omega arith))
      (λ t. let l : n ≤ m = ltb-false m n t in
      let k : 10 * n + 10 + (10 * m + i - (10 * n + 10)) ≡ 10 * m + i = omega arith in
      rw k at (put-above (10 * m + i - (10 * n + 10))))

  pub at-put_other : (m : ℕ) → m ≢ n → 10 * m + 10 ≤ length store → block_at (put_block store n os) m ≡ block_at store m
  at-put_other m other room =
      let l : length (block_at (put_block store n os) m) ≡ 10 = length_at (put_block store n os) m (omega (arith, length-put)) in
      ext_get_or 0 (block_at (put_block store n os) m) (block_at store m) (l ∙ sym (length_at store m room))
      (λ i h. get_d_at (put_block store n os) m i (omega arith) ∙ put_elsewhere m other i (omega arith) ∙ sym (get_d_at store m i (omega arith)))
