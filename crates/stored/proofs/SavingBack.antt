-- A stored form that is restored saves back to the same octets.
-- Assumes nothing.
use mathlib.Core.Path.{◌≡◌, refl, sym, ap, ap₂, ◌∙◌}
use mathlib.Core.Bool.{true, cond}
use mathlib.Core.List.{List, [], ◌∷◌, ◌++◌}
use Prim.Native.Nat.{ℕ, suc, ◌+◌, ◌*◌, ◌-◌, ◌/◌, ◌%◌, ◌≤◌, ◌<◌}
use native.Mathlib.Omega.{arith}
use borrow.Author.Tests.{eq-eqb, eqb-true}
use lib.Dec.{eqb}
use lib.ListN.{length, get_or, take, drop, length-drop, take-append-drop, drop_of_length-le}
use lib.Seq.{length-take-le, take_at, drop_at, take_all, take-add, drop-cons, get_or-take, get_or-drop, ext_get_or}
use Rattle.addresses.specs.Octets.{address_at, three_octets}
use Rattle.foundation.specs.Bits.{tabulate}
use Rattle.checks.specs.Checks.{header_check, header_good, message_good}
use Rattle.checks.proofs.HeaderChecks.{header-long}
use Rattle.packets.proofs.Octets.{Octets, octets-take, octets-drop}
use Rattle.messages.specs.Messages.{block_size}
use Rattle.transactions.specs.Flags.{flag_octet_count}
use Rattle.foundation.proofs.Order.{numbered, passed_at}
use Rattle.receiver_state.specs.Receiver.{store_size, held, receiver_good}
use Rattle.receiver_state.specs.declared.Receiver.{Receiver}
use Rattle.stored.specs.Stored.{stored_block, checked_size, first_part, second_part, zero_part, store_at0, store_at1, zeros_at, with_stored_check, held_octets, body0, stored_form, saved, block0, block1, receiver_in, store_in, zeros_from, clear, layout_tests, restore_tests, restore_number}
use Rattle.stored.specs.Claims.{Savable}
use Rattle.stored.proofs.HeldOctets.{held_all, clear_at, zeros_from-at}
use Rattle.stored.proofs.StoreReading.{part_tabulated, part0, part1, length_part0, length_part1, length-store_in}
use Rattle.stored.proofs.ReadingBack.{Starts, written0, written1, zeros, length-zeros, zeros-at, fields, head, head1, head_parts, written1_parts}

-- each test of restoring is passed where there is no number
tests_numbered : (rx : Receiver) (form store : List ℕ) → numbered (restore_tests rx form store) ≡ true
unfolding restore_tests layout_tests
tests_numbered rx form store = refl

restore_passed : (rx : Receiver) (form store : List ℕ) → restore_number rx form store ≡ 0 → (i : ℕ) → (get_or (restore_tests rx form store) i (true, 0)).0 ≡ true
unfolding restore_number
restore_passed rx form store none i = passed_at (restore_tests rx form store) i (tests_numbered rx form store) none

-- three octets of an address
three-same : (x y z : ℕ) → x < 256 → y < 256 → z < 256 → three_octets (65536 * x + 256 * y + z) ≡ x ∷ y ∷ z ∷ []
three-same x y z hx hy hz =
    let k : ℕ = 65536 * x + 256 * y + z in
    let a : k / 65536 % 256 ≡ x = omega arith in
    let b : k / 256 % 256 ≡ y = omega arith in
    let c : k % 256 ≡ z = omega arith in
    rw (a, b, c)

-- octets with a good check end with it
module _ (os : List ℕ) (n : ℕ) (size : length os ≡ n + 2) (small : Octets os) (good : header_good 0 os ≡ true) where
  check_is : get_or os n 0 * 256 + get_or os (n + 1) 0 ≡ header_check 0 (take n os)
  check_is =
      let e : length os - 2 ≡ n = omega arith in
      let f : length os - 1 ≡ n + 1 = omega arith in
      eqb-true (get_or os n 0 * 256 + get_or os (n + 1) 0) (header_check 0 (take n os))
      (header-long 0 os (get_or os n 0 * 256 + get_or os (n + 1) 0) (header_check 0 (take n os)) (omega arith) (rw (e, f)) (rw e) ∙ good)

  last_two : drop n os ≡ get_or os n 0 ∷ get_or os (suc n) 0 ∷ []
  last_two =
      drop-cons os n 0 (omega arith) ∙ ap (λ (l : List ℕ). get_or os n 0 ∷ l) (drop-cons os (suc n) 0 (omega arith)
      ∙ ap (λ (l : List ℕ). get_or os (suc n) 0 ∷ l) (drop_of_length-le os {i = suc (suc n)} (omega arith)))

  pub check-same : with_stored_check (take n os) ≡ os
  unfolding with_stored_check
  check-same =
      let s : n + 1 ≡ suc n = omega arith in
      let c : get_or os n 0 * 256 + get_or os (suc n) 0 ≡ header_check 0 (take n os) = rw s at check_is in
      let high : header_check 0 (take n os) / 256 ≡ get_or os n 0 = omega (arith, small n, small (suc n)) in
      let low : header_check 0 (take n os) % 256 ≡ get_or os (suc n) 0 = omega (arith, small n, small (suc n)) in
      rw (high, low) (ap (λ (l : List ℕ). take n os ++ l) (sym last_two) ∙ take-append-drop n os)

-- a list in three parts
three-parts : (l : List ℕ) (n m k : ℕ) → take n l ++ take m (drop n l) ++ take k (drop (n + m) l) ≡ take (n + m + k) l
three-parts l n m k = ap (λ (x : List ℕ). x ++ take k (drop (n + m) l)) (sym (take-add n m l)) ∙ sym (take-add (n + m) k l)

-- ---- block 0 and block 1

-- octet i of the store
abbrev octet_in : List ℕ → List ℕ → ℕ → ℕ
octet_in a b = λ i. get_or (store_in a b) i 0

module _ (a b : List ℕ) (size0 : length a ≡ stored_block) (size1 : length b ≡ stored_block) where
  abbrev rx : Receiver
  rx = receiver_in a

  module _ (clean : clear rx (store_in a b) store_size ≡ true) (starts : Starts a b) where
    held-part : (at n : ℕ) → at + n ≤ store_size → held_octets (held rx) (octet_in a b) at n ≡ take n (drop at (store_in a b))
    held-part at n h =
        held_all (held rx) (store_in a b) at n (omega (arith, length-store_in a b size0 size1)) (λ i l e. clear_at rx (store_in a b) store_size clean i (omega arith) e)

    held0 : held_octets (held rx) (octet_in a b) 0 first_part ≡ part0 a
    held0 = held-part 0 first_part (omega arith) ∙ (unfold store_in in take_at (part0 a) (part1 b) first_part (length_part0 a size0))

    held1 : held_octets (held rx) (octet_in a b) first_part second_part ≡ part1 b
    held1 =
        held-part first_part second_part (omega arith)
        ∙ (unfold store_in in ap (take second_part) (drop_at (part0 a) (part1 b) first_part (length_part0 a size0)) ∙ take_all second_part (part1 b) (omega (arith, length_part1 b size1)))

    module _ (small : Octets a) where
      address_same : (i : ℕ) → three_octets (address_at a i).0 ≡ get_or a i 0 ∷ get_or a (i + 1) 0 ∷ get_or a (i + 2) 0 ∷ []
      address_same i = three-same (get_or a i 0) (get_or a (i + 1) 0) (get_or a (i + 2) 0) (small i) (small (i + 1)) (small (i + 2))

      fields-same : fields rx (get_or a 2 0) (get_or a 3 0) ≡ take 15 a
      unfolding fields receiver_in
      fields-same =
          ap₂ (λ (x y : List ℕ). (1 ∷ 0 ∷ get_or a 2 0 ∷ get_or a 3 0 ∷ get_or a 4 0 ∷ []) ++ x ++ y ++ (get_or a 11 0 ∷ get_or a 12 0 ∷ get_or a 13 0 ∷ get_or a 14 0 ∷ []))
          (address_same 5) (address_same 8)
          ∙ ap₂ (λ (x y : ℕ). x ∷ y ∷ tabulate 13 (λ i. get_or a (2 + i) 0)) (sym starts.one0) (sym starts.index0)
          ∙ sym (part_tabulated a 0 15 (omega arith))

      head_same : head rx (get_or a 2 0) (get_or a 3 0) ≡ take store_at0 a
      unfolding receiver_in
      head_same =
          head_parts rx (get_or a 2 0) (get_or a 3 0) ∙ ap (λ (l : List ℕ). l ++ take flag_octet_count (drop 15 a)) fields-same
          ∙ sym (take-add 15 flag_octet_count a)

      pub written0_same : written0 rx (octet_in a b) (get_or a 2 0) (get_or a 3 0) ≡ take checked_size a
      unfolding body0
      written0_same = ap₂ (λ (x y : List ℕ). x ++ y) head_same held0 ∙ sym (take-add store_at0 first_part a)

    module _ (blank : zeros_from b zeros_at zero_part ≡ true) where
      zeros-same : zeros ≡ take zero_part (drop zeros_at b)
      zeros-same =
          let l : length (take zero_part (drop zeros_at b)) ≡ zero_part = length-take-le zero_part (drop zeros_at b) (omega (arith, length-drop zeros_at b)) in
          ext_get_or 0 zeros (take zero_part (drop zeros_at b)) (length-zeros ∙ sym l)
          (λ i h. let k : i < zero_part = omega (arith, length-zeros) in
          zeros-at i k ∙ sym (get_or-take zero_part (drop zeros_at b) i 0 k ∙ get_or-drop zeros_at b i 0 ∙ zeros_from-at b zeros_at zero_part blank i k))

      head1_same : head1 (get_or b 2 0) (get_or b 3 0) ≡ take store_at1 b
      unfolding head1
      head1_same =
          ap₂ (λ (x y : ℕ). x ∷ y ∷ get_or b 2 0 ∷ get_or b 3 0 ∷ []) (sym starts.one1) (sym starts.index1) ∙ sym (part_tabulated b 0 store_at1 (omega arith))

      pub written1_same : written1 rx (octet_in a b) (get_or b 2 0) (get_or b 3 0) ≡ take checked_size b
      written1_same =
          written1_parts rx (octet_in a b) (get_or b 2 0) (get_or b 3 0)
          ∙ ap₂ (λ (x y : List ℕ). x ++ y) (ap₂ (λ (x y : List ℕ). x ++ y) head1_same held1) zeros-same
          ∙ three-parts b store_at1 second_part zero_part

-- ---- the whole form

module _ (rx : Receiver) (form store : List ℕ) (none : restore_number rx form store ≡ 0) where
  abbrev a : List ℕ
  a = block0 form

  abbrev b : List ℕ
  b = block1 form

  test : (i : ℕ) → (get_or (restore_tests rx form store) i (true, 0)).0 ≡ true
  test = restore_passed rx form store none

  length_form : length form ≡ 2 * stored_block
  unfolding restore_tests
  length_form = eqb-true (length form) (2 * stored_block) (test 2)

  good0 : header_good 0 a ≡ true
  unfolding restore_tests
  good0 = test 3

  good1 : header_good 0 b ≡ true
  unfolding restore_tests
  good1 = test 4

  starts : Starts a b
  unfolding restore_tests layout_tests
  starts = record {
    one0 = eqb-true (get_or a 0 0) 1 (test 5);
    index0 = eqb-true (get_or a 1 0) 0 (test 6);
    one1 = eqb-true (get_or b 0 0) 1 (test 7);
    index1 = eqb-true (get_or b 1 0) 1 (test 8);
    stamp0 = eqb-true (get_or a 2 0) (get_or b 2 0) (test 9);
    stamp1 = eqb-true (get_or a 3 0) (get_or b 3 0) (test 10);
  }

  good : receiver_good (receiver_in a) ≡ true
  unfolding restore_tests layout_tests
  good = test 11

  clean : clear (receiver_in a) (store_in a b) store_size ≡ true
  unfolding restore_tests layout_tests
  clean = test 12

  blank : zeros_from b zeros_at zero_part ≡ true
  unfolding restore_tests layout_tests
  blank = test 13

  checked : cond (eqb (receiver_in a).phase 2) (message_good (take (block_size * (receiver_in a).transaction.blocks) (store_in a b))) true ≡ true
  unfolding restore_tests layout_tests
  checked = test 14

  size0 : length a ≡ stored_block
  unfolding block0
  size0 = length-take-le stored_block form (omega (arith, length_form))

  size1 : length b ≡ stored_block
  unfolding block1
  size1 = length-drop stored_block form ∙ omega (arith, length_form)

  eight : length (receiver_in a).flags.octets ≡ flag_octet_count
  unfolding receiver_in
  eight = length-take-le flag_octet_count (drop 15 a) (omega (arith, length-drop 15 a, size0))

  -- the receiver and the store in it can be saved
  pub savable : Savable (receiver_in a) (store_in a b)
  savable = record {
    good = good;
    flags = eight;
    room = length-store_in a b size0 size1;
    checked = λ p. rw (eq-eqb (receiver_in a).phase 2 p) at checked;
  }

  module _ (small : Octets form) where
    small0 : Octets a
    unfolding block0
    small0 = octets-take stored_block form small

    small1 : Octets b
    unfolding block1
    small1 = octets-drop stored_block form small

    stamp : (i : ℕ) → i < stored_block → get_or form i 0 ≡ get_or a i 0
    unfolding block0
    stamp i h = sym (get_or-take stored_block form i 0 h)

    block0-same : with_stored_check (written0 (receiver_in a) (octet_in a b) (get_or form 2 0) (get_or form 3 0)) ≡ a
    block0-same =
        ap₂ (λ (s t : ℕ). with_stored_check (written0 (receiver_in a) (octet_in a b) s t)) (stamp 2 (omega arith)) (stamp 3 (omega arith))
        ∙ ap with_stored_check (written0_same a b size0 size1 clean starts small0) ∙ check-same a checked_size size0 small0 good0

    block1-same : with_stored_check (written1 (receiver_in a) (octet_in a b) (get_or form 2 0) (get_or form 3 0)) ≡ b
    block1-same =
        ap₂ (λ (s t : ℕ). with_stored_check (written1 (receiver_in a) (octet_in a b) s t))
        (stamp 2 (omega arith) ∙ starts.stamp0) (stamp 3 (omega arith) ∙ starts.stamp1)
        ∙ ap with_stored_check (written1_same a b size0 size1 clean starts blank) ∙ check-same b checked_size size1 small1 good1

    pub saved_back : saved (receiver_in a) (store_in a b) (get_or form 2 0) (get_or form 3 0) ≡ form
    unfolding saved stored_form block0 block1
    saved_back = ap₂ (λ (x y : List ℕ). x ++ y) block0-same block1-same ∙ take-append-drop stored_block form
