-- What a stored form holds, octet by octet, and octets compared.
-- Assumes nothing.
use mathlib.Core.Path.{◌≡◌, refl, sym, ap, ap₂, subst, ◌∙◌}
use mathlib.Core.Bool.{Bool, true, false, cond}
use mathlib.Core.List.{List}
use Prim.Native.Nat.{ℕ, ◌+◌, ◌/◌, ◌≤◌, ◌<◌}
use native.Mathlib.Nat.{zero-add}
use native.Mathlib.Omega.{arith}
use borrow.Author.Tests.{eq-eqb, eqb-true}
use lib.Dec.{eqb}
use lib.ListN.{length, get_or, take, drop, replicate, length-append, length-drop, length-replicate}
use lib.Seq.{length-take-le, get_or-take, get_or-drop, ext_get_or}
use Rattle.std.specs.Cmp.Lexicographic.{pointwise, same_text}
use Rattle.std.proofs.lemmas.Cmp.{nat_list_eq_equiv}
use Rattle.foundation.specs.Bits.{tabulate}
use Rattle.foundation.proofs.Runs.{tabulated}
use Rattle.foundation.specs.Octets.{put}
use Rattle.foundation.proofs.Copying.{put_both}
use Rattle.foundation.proofs.Filling.{get_d_zeros}
use Rattle.foundation.specs.Order.{every}
use Rattle.foundation.proofs.Every.{every_held}
use Rattle.foundation.proofs.Tests.{every_ext, every_true, same_test}
use Rattle.messages.specs.Messages.{block_size}
use Rattle.receiver_state.specs.Receiver.{store_size, held}
use Rattle.receiver_state.specs.declared.Receiver.{Receiver}
use Rattle.stored.specs.Stored.{stored_block, first_part, second_part, store_at0, store_at1, held_octets, store_in, zeros_from, clear}
use Rattle.stored.proofs.HeldOctets.{length-held, held_at}

-- the octets of a part
pub part_tabulated : (os : List ℕ) (at n : ℕ) → at + n ≤ length os → take n (drop at os) ≡ tabulate n (λ i. get_or os (at + i) 0)
part_tabulated os at n h =
    tabulated n (λ i. get_or os (at + i) 0) (take n (drop at os)) (length-take-le n (drop at os) (omega (arith, length-drop at os)))
    (λ i l. get_or-take n (drop at os) i 0 l ∙ get_or-drop at os i 0)

-- the store's octets in block 0 and in block 1
abbrev pub part0 : List ℕ → List ℕ
part0 a = take first_part (drop store_at0 a)

abbrev pub part1 : List ℕ → List ℕ
part1 b = take second_part (drop store_at1 b)

module _ (a : List ℕ) (size : length a ≡ stored_block) where
  pub length_part0 : length (part0 a) ≡ first_part
  length_part0 = length-take-le first_part (drop store_at0 a) (omega (arith, length-drop store_at0 a))

  pub length_part1 : length (part1 a) ≡ second_part
  length_part1 = length-take-le second_part (drop store_at1 a) (omega (arith, length-drop store_at1 a))

module _ (a b : List ℕ) (size-a : length a ≡ stored_block) (size-b : length b ≡ stored_block) where
  pub length-store_in : length (store_in a b) ≡ store_size
  unfolding store_in
  length-store_in = length-append (part0 a) (part1 b) ∙ omega (arith, length_part0 a size-a, length_part1 b size-b)

  pub store_is : (d m : List ℕ) → length d ≡ store_size → m ≡ put (put d 0 (part0 a)) first_part (part1 b) → m ≡ store_in a b
  unfolding store_in
  store_is d m e p =
      p ∙ put_both d (part0 a) (part1 b) first_part (length_part0 a size-a) (omega (arith, length_part1 b size-b))

-- ---- octets compared

-- the octets of two lists are the same
abbrev same_octets : List ℕ → List ℕ → ℕ → Bool
same_octets a b n = every n (λ i. eqb (get_or a i 0) (get_or b i 0))

-- what `==` tells of two lists of one length
module _ (a b : List ℕ) where
  same_lists : length b ≡ length a → pointwise eqb a b ≡ same_octets a b (length a)
  same_lists size =
      same_test (pointwise eqb a b) (every (length a) (λ i. eqb (get_or a i 0) (get_or b i 0)))
      (λ e. every_true (length a) (λ i. eqb (get_or a i 0) (get_or b i 0)) (λ i l. eq-eqb (get_or a i 0) (get_or b i 0) (ap (λ (os : List ℕ). get_or os i 0) (same_text a b (sym e)))))
      (λ e. subst (λ (os : List ℕ). pointwise eqb a os ≡ true)
      (ext_get_or 0 a b (sym size) (λ i l. eqb-true (get_or a i 0) (get_or b i 0) (every_held (λ i. eqb (get_or a i 0) (get_or b i 0)) (length a) e i l)))
      (nat_list_eq_equiv.refl a))

-- octets that are zero
pub zeros-same : (os : List ℕ) (at n : ℕ) → at + n ≤ length os
    → pointwise eqb (take n (drop at os)) (replicate n 0) ≡ zeros_from os at n
unfolding zeros_from
zeros-same os at n room =
    let l : length (take n (drop at os)) ≡ n = length-take-le n (drop at os) (omega (arith, length-drop at os)) in
    same_lists (take n (drop at os)) (replicate n 0) (length-replicate n 0 ∙ sym l)
    ∙ rw l (every_ext n (λ i. eqb (get_or (take n (drop at os)) i 0) (get_or (replicate n 0) i 0)) (λ i. eqb (get_or os (at + i) 0) 0)
    (λ i h. ap₂ eqb (get_or-take n (drop at os) i 0 h ∙ get_or-drop at os i 0) (get_d_zeros n i)))

-- an octet, or 0 in its place, compared with it
compared : (t : Bool) (x : ℕ) → eqb (cond t x 0) x ≡ cond t true (eqb x 0)
compared true x = eq-eqb x x refl
compared false x = same_test (eqb 0 x) (eqb x 0) (λ e. eq-eqb x 0 (sym (eqb-true 0 x e))) (λ e. eq-eqb 0 x (sym (eqb-true x 0 e)))

-- the octets of blocks not held are zero where the held octets are all
module _ (rx : Receiver) (store : List ℕ) (n : ℕ) where
  abbrev octets : List ℕ
  octets = held_octets (held rx) (λ i. get_or store i 0) 0 n

  octet : (i : ℕ) → i < n → eqb (get_or octets i 0) (get_or store i 0) ≡ cond (held rx (i / block_size)) true (eqb (get_or store i 0) 0)
  octet i h =
      ap (λ (x : ℕ). eqb x (get_or store i 0)) (held_at (held rx) (λ i. get_or store i 0) 0 n i h ∙ rw (zero-add i))
      ∙ compared (held rx (i / block_size)) (get_or store i 0)

  pub clear-same : (m : List ℕ) → m ≡ octets → length store ≡ n → pointwise eqb m store ≡ clear rx store n
  unfolding clear
  clear-same m e size =
      let l : length octets ≡ n = length-held (held rx) (λ i. get_or store i 0) 0 n in
      ap (λ (os : List ℕ). pointwise eqb os store) e ∙ same_lists octets store (size ∙ sym l)
      ∙ rw l (every_ext n (λ i. eqb (get_or octets i 0) (get_or store i 0)) (λ i. cond (held rx (i / block_size)) true (eqb (get_or store i 0) 0)) octet)
