-- The stored form of a receiver read back.
-- Assumes nothing.
use mathlib.Core.Path.{◌≡◌, refl, sym, ap, ap₂, ◌∙◌}
use mathlib.Core.Bool.{true}
use mathlib.Core.List.{List, [], ◌∷◌, ◌++◌, append_assoc}
use Prim.Native.Nat.{ℕ, ◌+◌, ◌*◌, ◌/◌, ◌%◌, ◌^◌, ◌<◌}
use native.Mathlib.Omega.{arith}
use lib.ListN.{length, get_or, take, drop, replicate, length-append, length-replicate, get_or-replicate}
use lib.Seq.{take_at, drop_at, get_or-take, get_or-drop}
use Rattle.addresses.proofs.OctetsBack.{three_back}
use Rattle.addresses.specs.Octets.{address_at, three_octets}
use Rattle.addresses.specs.declared.RadioAddress.{RadioAddress}
use Rattle.checks.specs.Checks.{header_check, header_good}
use Rattle.checks.proofs.Claims.{claims as check-claims}
use Rattle.transactions.specs.Flags.{flag_octet_count}
use Rattle.receiver_state.specs.Receiver.{store_size, held}
use Rattle.receiver_state.specs.declared.Receiver.{Receiver}
use Rattle.stored.specs.Stored.{stored_block, checked_size, first_part, second_part, zero_part, store_at0, store_at1, zeros_at, with_stored_check, held_octets, head0, body0, body1, stored_form, block0, block1, receiver_in, store_in, zeros_from}
use Rattle.stored.proofs.HeldOctets.{length-held, held-append, zeros_from_true}

-- the second of three lists
module _ (l p q r : List ℕ) (n m : ℕ) (parts : l ≡ p ++ q ++ r) (before : length p ≡ n) (size : length q ≡ m) where
  pub middle : take m (drop n l) ≡ q
  middle = ap (λ (x : List ℕ). take m (drop n x)) (parts ∙ append_assoc p q r) ∙ ap (take m) (drop_at p (q ++ r) n before) ∙ take_at q r m size

  pub middle_at : (i : ℕ) → i < m → get_or l (n + i) 0 ≡ get_or q i 0
  middle_at i h = sym (get_or-take m (drop n l) i 0 h ∙ get_or-drop n l i 0) ∙ ap (λ (x : List ℕ). get_or x i 0) middle

length_three : (p q r : List ℕ) → length (p ++ q ++ r) ≡ length p + length q + length r
length_three p q r = length-append (p ++ q) r ∙ ap (λ (n : ℕ). n + length r) (length-append p q)

address_back : (x : RadioAddress) → x.0 < 2 ^ 24 → record { 0 = 65536 * (x.0 / 65536 % 256) + 256 * (x.0 / 256 % 256) + x.0 % 256 } ≡ x
address_back x h = rw (three_back x.0 h)

-- ---- octets with their check

abbrev pub check_octets : List ℕ → List ℕ
check_octets os = header_check 0 os / 256 ∷ header_check 0 os % 256 ∷ []

module _ (os : List ℕ) where
  pub length-checked : length (with_stored_check os) ≡ length os + 2
  unfolding with_stored_check
  length-checked = length-append os (check_octets os)

  pub checked-good : header_good 0 (with_stored_check os) ≡ true
  unfolding with_stored_check
  checked-good = check-claims.header 0 os

-- ---- the two blocks in parts

-- the octets before the checks, of a receiver and octet i of its store
abbrev pub written0 : Receiver → (ℕ → ℕ) → ℕ → ℕ → List ℕ
written0 rx octet s0 s1 = body0 rx.own rx.phase rx.transaction rx.flags.octets octet s0 s1

abbrev pub written1 : Receiver → (ℕ → ℕ) → ℕ → ℕ → List ℕ
written1 rx octet s0 s1 = body1 rx.flags.octets octet s0 s1

-- how the two blocks start
pub record Starts (a b : List ℕ) : Type 0 where
  pub one0 : get_or a 0 0 ≡ 1
  pub index0 : get_or a 1 0 ≡ 0
  pub one1 : get_or b 0 0 ≡ 1
  pub index1 : get_or b 1 0 ≡ 1
  pub stamp0 : get_or a 2 0 ≡ get_or b 2 0
  pub stamp1 : get_or a 3 0 ≡ get_or b 3 0

-- the octets before the flags
unfoldable pub fields : Receiver → ℕ → ℕ → List ℕ
fields rx s0 s1 =
    (1 ∷ 0 ∷ s0 ∷ s1 ∷ rx.phase ∷ []) ++ three_octets rx.own.0 ++ three_octets rx.transaction.source.0
    ++ (rx.transaction.sap ∷ rx.transaction.ns ∷ rx.transaction.pad ∷ rx.transaction.blocks ∷ [])

-- the octets of block 1 before the store, and the zeros behind it
unfoldable pub head1 : ℕ → ℕ → List ℕ
head1 s0 s1 = 1 ∷ 1 ∷ s0 ∷ s1 ∷ []

unfoldable pub zeros : List ℕ
zeros = replicate zero_part 0

pub length-zeros : length zeros ≡ zero_part
unfolding zeros
length-zeros = length-replicate {A = ℕ} zero_part 0

pub zeros-at : (i : ℕ) → i < zero_part → get_or zeros i 0 ≡ 0
unfolding zeros
zeros-at i h = get_or-replicate zero_part i 0 0 h

module _ (rx : Receiver) (s0 s1 : ℕ) where
  abbrev pub head : List ℕ
  head = head0 rx.own rx.phase rx.transaction rx.flags.octets s0 s1

  length_fields : length (fields rx s0 s1) ≡ 15
  unfolding fields
  length_fields = refl

  pub length_head1 : length (head1 s0 s1) ≡ store_at1
  unfolding head1
  length_head1 = refl

  pub head_parts : head ≡ fields rx s0 s1 ++ rx.flags.octets
  unfolding head0 fields
  head_parts = refl

  pub length_head : length rx.flags.octets ≡ flag_octet_count → length head ≡ store_at0
  length_head eight = ap length head_parts ∙ length-append (fields rx s0 s1) rx.flags.octets ∙ omega (arith, length_fields)

module _ (rx : Receiver) (octet : ℕ → ℕ) (s0 s1 : ℕ) where
  abbrev first : List ℕ
  first = held_octets (held rx) octet 0 first_part

  abbrev second : List ℕ
  second = held_octets (held rx) octet first_part second_part

  length-first : length first ≡ first_part
  length-first = length-held (held rx) octet 0 first_part

  length-second : length second ≡ second_part
  length-second = length-held (held rx) octet first_part second_part

  pub written1_parts : written1 rx octet s0 s1 ≡ head1 s0 s1 ++ second ++ zeros
  unfolding body1 zeros head1
  written1_parts = refl

  pub length_written1 : length (written1 rx octet s0 s1) ≡ checked_size
  length_written1 =
      ap length written1_parts ∙ length_three (head1 s0 s1) second zeros ∙ omega (arith, length_head1 rx s0 s1, length-second, length-zeros)

  -- ---- the stored form

  module _ (eight : length rx.flags.octets ≡ flag_octet_count) where
    pub length_written0 : length (written0 rx octet s0 s1) ≡ checked_size
    unfolding body0
    length_written0 = length-append (head rx s0 s1) first ∙ omega (arith, length_head rx s0 s1 eight, length-first)

    abbrev a : List ℕ
    a = with_stored_check (written0 rx octet s0 s1)

    abbrev b : List ℕ
    b = with_stored_check (written1 rx octet s0 s1)

    abbrev check0 : List ℕ
    check0 = check_octets (written0 rx octet s0 s1)

    abbrev check1 : List ℕ
    check1 = check_octets (written1 rx octet s0 s1)

    abbrev form : List ℕ
    form = stored_form rx.own rx.phase rx.transaction rx.flags.octets octet s0 s1

    length_a : length a ≡ stored_block
    length_a = length-checked (written0 rx octet s0 s1) ∙ omega (arith, length_written0)

    length_b : length b ≡ stored_block
    length_b = length-checked (written1 rx octet s0 s1) ∙ omega (arith, length_written1)

    pub length_form : length form ≡ 2 * stored_block
    unfolding stored_form
    length_form = length-append a b ∙ omega (arith, length_a, length_b)

    pub block0_back : block0 form ≡ a
    unfolding stored_form block0
    block0_back = take_at a b stored_block length_a

    pub block1_back : block1 form ≡ b
    unfolding stored_form block1
    block1_back = drop_at a b stored_block length_a

    a_parts : a ≡ head rx s0 s1 ++ first ++ check0
    unfolding with_stored_check body0
    a_parts = refl

    b_parts : b ≡ head1 s0 s1 ++ second ++ zeros ++ check1
    unfolding with_stored_check
    b_parts = ap (λ (l : List ℕ). l ++ check1) written1_parts

    -- ---- the receiver

    flags_back : take flag_octet_count (drop 15 a) ≡ rx.flags.octets
    flags_back =
        middle a (fields rx s0 s1) rx.flags.octets (first ++ check0) 15 flag_octet_count
        (a_parts ∙ append_assoc (head rx s0 s1) first check0 ∙ ap (λ (l : List ℕ). l ++ (first ++ check0)) (head_parts rx s0 s1))
        (length_fields rx s0 s1) eight

    own_back : rx.own.0 < 2 ^ 24 → address_at a 5 ≡ rx.own
    unfolding with_stored_check body0 head0
    own_back h = address_back rx.own h

    source_back : rx.transaction.source.0 < 2 ^ 24 → address_at a 8 ≡ rx.transaction.source
    unfolding with_stored_check body0 head0
    source_back h = address_back rx.transaction.source h

    others_back : receiver_in a ≡ record {
      own = address_at a 5;
      phase = rx.phase;
      transaction = record { source = address_at a 8; sap = rx.transaction.sap; ns = rx.transaction.ns; pad = rx.transaction.pad; blocks = rx.transaction.blocks };
      flags = record { octets = take flag_octet_count (drop 15 a) };
    }
    unfolding receiver_in with_stored_check body0 head0
    others_back = refl

    pub receiver_back : rx.own.0 < 2 ^ 24 → rx.transaction.source.0 < 2 ^ 24 → receiver_in a ≡ rx
    receiver_back ho hs = others_back ∙ rw (own_back ho, source_back hs, flags_back)

    -- ---- the store

    pub store_back : store_in a b ≡ held_octets (held rx) octet 0 store_size
    unfolding store_in
    store_back =
        ap₂ (λ (x y : List ℕ). x ++ y)
        (middle a (head rx s0 s1) first check0 store_at0 first_part a_parts (length_head rx s0 s1 eight) length-first)
        (middle b (head1 s0 s1) second (zeros ++ check1) store_at1 second_part (b_parts ∙ append_assoc (head1 s0 s1 ++ second) zeros check1)
        (length_head1 rx s0 s1) length-second)
        ∙ held-append (held rx) octet 0 first_part second_part

    pub zeros_back : zeros_from b zeros_at zero_part ≡ true
    zeros_back =
        zeros_from_true b zeros_at zero_part
        (λ i h. middle_at b (head1 s0 s1 ++ second) zeros check1 zeros_at zero_part b_parts
        (length-append (head1 s0 s1) second ∙ omega (arith, length_head1 rx s0 s1, length-second)) length-zeros i h ∙ zeros-at i h)

    pub starts_back : Starts a b
    unfolding with_stored_check body0 head0 body1
    starts_back = record { one0 = refl; index0 = refl; one1 = refl; index1 = refl; stamp0 = refl; stamp1 = refl }
