-- The parts that saving writes, one behind the other, are the stored form.
-- Assumes nothing.
use mathlib.Core.Path.{◌≡◌, refl, sym, ap, ◌∙◌}
use mathlib.Core.List.{List, [], ◌∷◌, ◌++◌, append_assoc}
use Prim.Native.Nat.{ℕ, ◌+◌, ◌*◌, ◌≤◌}
use native.Mathlib.Omega.{arith}
use lib.ListN.{length, get_or, take, drop, length-append}
use lib.Seq.{take_at, drop_at}
use Rattle.addresses.specs.Octets.{three_octets}
use Rattle.foundation.specs.Bits.{tabulate}
use Rattle.foundation.proofs.Runs.{tabulated}
use Rattle.transactions.specs.Flags.{flag_octet_count}
use Rattle.receiver_state.specs.Receiver.{store_size, held}
use Rattle.receiver_state.specs.declared.Receiver.{Receiver}
use Rattle.stored.specs.Stored.{stored_block, checked_size, first_part, second_part, store_at0, store_at1, zeros_at, with_stored_check, held_octets, head0, body0, stored_form, saved}
use Rattle.foundation.specs.Octets.{put}
use Rattle.stored.proofs.HeldOctets.{length-held}
use Rattle.stored.proofs.HeldStore.{first_part_lem, second-part}
use Rattle.stored.proofs.ReadingBack.{check_octets, length-checked, written0, written1, fields, head1, zeros, length-zeros, head, length_head1, length_head, written1_parts, length_written1, length_written0}
use Rattle.foundation.proofs.Copying.{Grown, grown_none, grown_put, grown_all}

-- the head, octet by octet
pub head_is : (rx : Receiver) (s0 s1 : ℕ) (os ts : List ℕ) → length rx.flags.octets ≡ flag_octet_count → os ≡ three_octets rx.own.0
    → ts ≡ three_octets rx.transaction.source.0
    → (1 ∷ 0 ∷ s0 ∷ s1 ∷ rx.phase ∷ tabulate 3 (λ i. get_or os i 0)) ++ tabulate 3 (λ i. get_or ts i 0)
    ++ (rx.transaction.sap ∷ rx.transaction.ns ∷ rx.transaction.pad ∷ rx.transaction.blocks ∷ []) ++ tabulate flag_octet_count (λ i. get_or rx.flags.octets i 0)
    ≡ head rx s0 s1
unfolding head0 fields
head_is rx s0 s1 os ts eight eo et =
    rw (eo, et)
    (ap (λ (l : List ℕ). fields rx s0 s1 ++ l) (sym (tabulated flag_octet_count (λ i. get_or rx.flags.octets i 0) rx.flags.octets eight (λ i h. refl))))

-- a body behind what was written, and its check behind it
module _ (p body d m m' : List ℕ) (at n : ℕ) (before : length p ≡ at) (size : length body ≡ n) (room : at + n + 2 ≤ length d)
    (g : Grown (p ++ body) d m) (o : m' ≡ put m (at + n) (check_octets (take n (drop at m)))) where
  body_is : take n (drop at m) ≡ body
  body_is =
      ap (λ (l : List ℕ). take n (drop at l)) (g ∙ append_assoc p body (drop (length (p ++ body)) d))
      ∙ ap (take n) (drop_at p (body ++ drop (length (p ++ body)) d) at before)
      ∙ take_at body (drop (length (p ++ body)) d) n size

  whole : p ++ body ++ check_octets body ≡ p ++ with_stored_check body
  unfolding with_stored_check
  whole = append_assoc p body (check_octets body)

  pub checked_grown : Grown (p ++ with_stored_check body) d m'
  checked_grown =
      o ∙ ap (λ (l : List ℕ). put m (at + n) (check_octets l)) body_is
      ∙ rw whole at (grown_put d (p ++ body) (check_octets body) m (at + n) (length-append p body ∙ omega arith) room g)

module _ (rx : Receiver) (store : List ℕ) (s0 s1 : ℕ) (eight : length rx.flags.octets ≡ flag_octet_count) where
  abbrev octet : ℕ → ℕ
  octet = λ i. get_or store i 0

  abbrev part : ℕ → ℕ → List ℕ
  part at n = held_octets (held rx) octet at n

  abbrev first : List ℕ
  first = written0 rx octet s0 s1

  abbrev second : List ℕ
  second = written1 rx octet s0 s1

  abbrev block : List ℕ
  block = with_stored_check first

  length-block : length block ≡ stored_block
  length-block = length-checked first ∙ omega (arith, length_written0 rx octet s0 s1 eight)

  length_part : (at n : ℕ) → length (part at n) ≡ n
  length_part at n = length-held (held rx) octet at n

  first_is : head rx s0 s1 ++ part 0 first_part ≡ first
  unfolding body0
  first_is = refl

  -- h is the head, m has the held octets
  module _ (h m : List ℕ) (is-h : h ≡ head rx s0 s1) (is_m : m ≡ part 0 store_size) (d d1 d2 d3 d4 d5 d6 d7 : List ℕ) (room : length d ≡ 2 * stored_block)
      (e1 : d1 ≡ put d 0 h)
      (e2 : d2 ≡ put d1 store_at0 (take first_part m))
      (e3 : d3 ≡ put d2 checked_size (check_octets (take checked_size (drop 0 d2))))
      (e4 : d4 ≡ put d3 stored_block (head1 s0 s1))
      (e5 : d5 ≡ put d4 (stored_block + store_at1) (take second_part (drop first_part m)))
      (e6 : d6 ≡ put d5 (stored_block + zeros_at) zeros)
      (e7 : d7 ≡ put d6 (stored_block + checked_size) (check_octets (take checked_size (drop stored_block d6)))) where
    g1 : Grown (head rx s0 s1) d d1
    g1 = e1 ∙ ap (put d 0) is-h ∙ grown_put d [] (head rx s0 s1) d 0 refl (omega (arith, length_head rx s0 s1 eight)) (grown_none d)

    g2 : Grown first d d2
    g2 =
        e2 ∙ ap (put d1 store_at0) (first_part_lem (held rx) store m is_m)
        ∙ rw first_is at (grown_put d (head rx s0 s1) (part 0 first_part) d1 store_at0 (length_head rx s0 s1 eight) (omega (arith, length_part 0 first_part)) g1)

    g3 : Grown block d d3
    g3 = checked_grown [] first d d2 d3 0 checked_size refl (length_written0 rx octet s0 s1 eight) (omega arith) g2 e3

    g4 : Grown (block ++ head1 s0 s1) d d4
    g4 = e4 ∙ grown_put d block (head1 s0 s1) d3 stored_block length-block (omega (arith, length_head1 rx s0 s1)) g3

    l4 : length (block ++ head1 s0 s1) ≡ stored_block + store_at1
    l4 = length-append block (head1 s0 s1) ∙ omega (arith, length-block, length_head1 rx s0 s1)

    g5 : Grown (block ++ head1 s0 s1 ++ part first_part second_part) d d5
    g5 =
        e5 ∙ ap (put d4 (stored_block + store_at1)) (second-part (held rx) store m is_m)
        ∙ grown_put d (block ++ head1 s0 s1) (part first_part second_part) d4 (stored_block + store_at1) l4 (omega (arith, length_part first_part second_part)) g4

    l5 : length (block ++ head1 s0 s1 ++ part first_part second_part) ≡ stored_block + zeros_at
    l5 = length-append (block ++ head1 s0 s1) (part first_part second_part) ∙ omega (arith, l4, length_part first_part second_part)

    both : block ++ head1 s0 s1 ++ part first_part second_part ++ zeros ≡ block ++ second
    both =
        append_assoc (block ++ head1 s0 s1) (part first_part second_part) zeros
        ∙ append_assoc block (head1 s0 s1) (part first_part second_part ++ zeros)
        ∙ ap (λ (l : List ℕ). block ++ l) (sym (append_assoc (head1 s0 s1) (part first_part second_part) zeros) ∙ sym (written1_parts rx octet s0 s1))

    g6 : Grown (block ++ second) d d6
    g6 = e6 ∙ rw both at
        (grown_put d (block ++ head1 s0 s1 ++ part first_part second_part) zeros d5 (stored_block + zeros_at) l5 (omega (arith, length-zeros)) g5)

    g7 : Grown (block ++ with_stored_check second) d d7
    g7 = checked_grown block second d d6 d7 stored_block checked_size length-block (length_written1 rx octet s0 s1) (omega arith) g6 e7

    l7 : length (block ++ with_stored_check second) ≡ length d
    l7 = length-append block (with_stored_check second) ∙ omega (arith, length-block, length-checked second, length_written1 rx octet s0 s1)

    pub written : d7 ≡ saved rx store s0 s1
    unfolding saved stored_form
    written = grown_all d (block ++ with_stored_check second) d7 l7 g7
