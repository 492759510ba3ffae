-- The held octets of a store: copied block by block, and in the two parts of a stored form.
-- Assumes nothing.
use mathlib.Core.Path.{◌≡◌, refl, sym, ap, ◌∙◌}
use mathlib.Core.Bool.{Bool, true, false}
use mathlib.Core.List.{List, ◌++◌}
use Prim.Native.Nat.{ℕ, ◌+◌, ◌*◌, ◌-◌, ◌/◌, ◌≤◌, ◌<◌}
use native.Mathlib.Nat.{zero-add}
use native.Mathlib.Omega.{arith}
use lib.ListN.{length, get_or, take, drop, replicate, length-append, length-drop, length-replicate}
use lib.Seq.{take_all, take_at, drop_at}
use Rattle.foundation.specs.Octets.{put}
use Rattle.foundation.proofs.Copying.{Grown, grown_kept, grown_put, grown_all}
use Rattle.foundation.proofs.Filling.{get_d_zeros}
use Rattle.messages.specs.Messages.{block_size, most_blocks}
use Rattle.receiver_state.specs.Receiver.{store_size}
use Rattle.stored.specs.Stored.{first_part, second_part, held_octets}
use Rattle.stored.proofs.HeldOctets.{length-held, held-append, held-part}

module _ (f : ℕ → Bool) (store : List ℕ) where
  -- n octets from position `at` on
  abbrev pub part : ℕ → ℕ → List ℕ
  part at n = held_octets f (λ i. get_or store i 0) at n

  length_part : (at n : ℕ) → length (part at n) ≡ n
  length_part at n = length-held f (λ i. get_or store i 0) at n

  -- ---- in two parts

  two-parts : part 0 first_part ++ part first_part second_part ≡ part 0 store_size
  two-parts = held-append f (λ i. get_or store i 0) 0 first_part second_part

  module _ (m : List ℕ) (is : m ≡ part 0 store_size) where
    pub first_part_lem : take first_part m ≡ part 0 first_part
    first_part_lem =
        ap (take first_part) (is ∙ sym two-parts) ∙ take_at (part 0 first_part) (part first_part second_part) first_part (length_part 0 first_part)

    pub second-part : take second_part (drop first_part m) ≡ part first_part second_part
    second-part =
        ap (λ (l : List ℕ). take second_part (drop first_part l)) (is ∙ sym two-parts)
        ∙ ap (take second_part) (drop_at (part 0 first_part) (part first_part second_part) first_part (length_part 0 first_part))
        ∙ take_all second_part (part first_part second_part) (omega (arith, length_part first_part second_part))

  -- ---- block by block

  -- zeros over which the held octets of the first n blocks are written
  abbrev pub BlocksCopied : ℕ → List ℕ → Type 0
  BlocksCopied n m = Grown (part 0 (block_size * n)) (replicate store_size 0) m

  pub blocks-none : BlocksCopied 0 (replicate store_size 0)
  unfolding held_octets
  blocks-none = refl

  pub blocks-length : (n : ℕ) (m : List ℕ) → n ≤ most_blocks → BlocksCopied n m → length m ≡ store_size
  blocks-length n m h g =
      ap length g ∙ length-append (part 0 (block_size * n)) (drop (length (part 0 (block_size * n))) (replicate store_size 0))
      ∙ omega (arith, length_part 0 (block_size * n), length-drop (length (part 0 (block_size * n))) (replicate {A = ℕ} store_size 0), length-replicate {A = ℕ} store_size 0)

  pub blocks-all : (n : ℕ) (m : List ℕ) → n ≡ most_blocks → BlocksCopied n m → m ≡ part 0 store_size
  blocks-all n m e g =
      let k : block_size * n ≡ store_size = omega arith in
      grown_all (replicate store_size 0) (part 0 (block_size * n)) m
      (length_part 0 (block_size * n) ∙ k ∙ sym (length-replicate {A = ℕ} store_size 0)) g
      ∙ ap (part 0) k

  module _ (n : ℕ) (m : List ℕ) (h : n < most_blocks) (g : BlocksCopied n m) where
    abbrev at : ℕ
    at = block_size * n

    more : part 0 at ++ part at block_size ≡ part 0 (block_size * (n + 1))
    more =
        let k : at + block_size ≡ block_size * (n + 1) = omega arith in
        ap (λ (j : ℕ). part 0 at ++ part j block_size) (sym (zero-add at)) ∙ held-append f (λ i. get_or store i 0) 0 at block_size ∙ ap (part 0) k

    pub block_copied : (m' : List ℕ) → f n ≡ true → length store ≡ store_size → m' ≡ put m at (take (at + block_size - at) (drop at store)) → BlocksCopied (n + 1) m'
    block_copied m' e room p =
        p ∙ rw (more, is) at
        (grown_put (replicate store_size 0) (part 0 at) (part at block_size) m at (length_part 0 at)
        (omega (arith, length_part at block_size, length-replicate {A = ℕ} store_size 0)) g)
      where
        is : part at block_size ≡ take (at + block_size - at) (drop at store)
        is =
            let k : block_size ≡ at + block_size - at = omega arith in
            held-part f (λ i. get_or store i 0) store at block_size (omega arith)
            (λ i l j. let b : i / block_size ≡ n = omega arith in rw (b, e))
            ∙ ap (λ (j : ℕ). take j (drop at store)) k

    pub block-left : (m' : List ℕ) → f n ≡ false → m' ≡ m → BlocksCopied (n + 1) m'
    block-left m' e p =
        p ∙ rw more at
        (grown_kept (part 0 at) (part at block_size) (replicate store_size 0) m
        (rw (length_part at block_size, length_part 0 at) (sym is)) g)
      where
        is : part at block_size ≡ take block_size (drop at (replicate store_size 0))
        is =
            held-part f (λ i. get_or store i 0) (replicate store_size 0) at block_size (omega (arith, length-replicate {A = ℕ} store_size 0))
            (λ i l k. let b : i / block_size ≡ n = omega arith in rw (b, e) (sym (get_d_zeros store_size i)))
