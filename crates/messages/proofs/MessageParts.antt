-- Messages by their parts: numbers of blocks, headers and blocks.
-- Assumes nothing.
use mathlib.Core.Path.{◌≡◌, refl, sym, ap, ◌∙◌}
use mathlib.Core.List.{List, ◌++◌}
use Prim.Native.Nat.{ℕ, ◌+◌, ◌*◌, ◌-◌, ◌≤◌, ◌<◌}
use native.Mathlib.Decide.{dec_lt}
use native.Mathlib.Omega.{arith}
use lib.Dec.{leb}
use lib.ListN.{length, take, drop, get_or, replicate, length-append, length-drop, length-replicate}
use lib.Seq.{length-take-le, take_all, take-append-le, drop-append-le, get_or-take, get_or-drop, ext_get_or}
use borrow.Author.Tests.{eq-eqb, ne_eqb, lt-ltb, le-ltb, le-leb, lt-leb}
use Rattle.foundation.specs.Bits.{tabulate}
use Rattle.foundation.specs.Octets.{over, put}
use Rattle.foundation.specs.Order.{first_failed}
use Rattle.foundation.specs.Refusals.{refusal}
use Rattle.foundation.specs.declared.refusal.Refusal.{Refusal}
use Rattle.foundation.proofs.Refusals.{ok_zero, ok_same, err_number, err_refusal}
use Rattle.std.specs.Prelude.{Ok, Err}
use Rattle.foundation.proofs.Copying.{put_fits, length-put}
use Rattle.foundation.proofs.Filling.{get_d_padded, drop-zeros}
use Rattle.foundation.proofs.Runs.{tabulated}
use Rattle.foundation.proofs.Tests.{either}
use Rattle.checks.specs.Checks.{message_check, lowest_first}
use Rattle.packets.specs.Headers.{width_number, write_header, header_octets_given}
use Rattle.packets.specs.Blocks.{write_block}
use Rattle.messages.specs.Messages.{Sized, block_size, check_size, most_octets, blocks_of, pad_of, size_of, size_given, padded, laid_out, block_data, block_part_tests, write_message_block, attempt_header, refused_header, full_header, partial_header}
use Rattle.messages.specs.Parts.{Ends, padded_header, octets_in}
use Rattle.messages.specs.declared.message.Delivery.{Delivery}
use Rattle.messages.specs.declared.message.Size.{Size}
use Rattle.packets.proofs.HeaderWriting.{widths_else}
use Rattle.packets.proofs.BlockWriting.{written}
use Rattle.messages.proofs.MessageLayout.{few_blocks, filled, length-block_data}

-- ---- numbers of blocks and pad

module _ (n : ℕ) where
  pub size-refused : most_octets < n → record { number = 16; blocks = 0; pad = 0 } ≡ size_of n
  unfolding size_of
  size-refused h = rw (lt-leb n most_octets h)

  pub size-accepted : n ≤ most_octets → (b p : ℕ) → b ≡ blocks_of n → p ≡ pad_of n → record { number = 0; blocks = b; pad = p } ≡ size_of n
  unfolding size_of
  size-accepted h b p e f = rw (le-leb n most_octets h) (λ i. record { number = 0; blocks = e i; pad = f i })

  -- a refusal: the message is too long
  module _ (r : Refusal) (e : size_given (size_of n) ≡ Err r) where
    pub too_long : most_octets < n
    unfolding size_given
    too_long = go (dec_lt most_octets n)
      where
        go : Dec (most_octets < n) → most_octets < n
        go (yes h) = h
        go (no h) = absurd (err_number _ _ r e (ap (λ (x : Sized). x.number) (sym (size-accepted (omega arith) _ _ refl refl))))

    pub refusal-16 : r ≡ refusal 16
    unfolding size_given
    refusal-16 = sym (err_refusal _ _ r e) ∙ ap (λ (x : Sized). refusal x.number) (sym (size-refused too_long))

  -- an answer: blocks and pad
  module _ (s : Size) (e : size_given (size_of n) ≡ Ok s) where
    pub short : n ≤ most_octets
    unfolding size_given
    short = go (dec_lt most_octets n)
      where
        go : Dec (most_octets < n) → n ≤ most_octets
        go (yes h) =
            let z : (size_of n).number ≡ 0 = ok_zero _ _ s e in
            let k : 16 ≡ (size_of n).number = ap (λ (x : Sized). x.number) (size-refused h) in
            absurd (omega arith)
        go (no h) = omega arith

    size-is : record { number = 0; blocks = blocks_of n; pad = pad_of n } ≡ size_of n
    size-is = size-accepted short _ _ refl refl

    pub blocks-given : s.blocks ≡ blocks_of n
    unfolding size_given
    blocks-given = ap (λ (x : Size). x.blocks) (sym (ok_same _ _ s e)) ∙ ap (λ (x : Sized). x.blocks) (sym size-is)

    pub pad-given : s.pad ≡ pad_of n
    unfolding size_given
    pad-given = ap (λ (x : Size). x.pad) (sym (ok_same _ _ s e)) ∙ ap (λ (x : Sized). x.pad) (sym size-is)

-- ---- headers

module _ (n : ℕ) (d : Delivery) where
  pub full-long : most_octets < n → refused_header ≡ full_header n d
  unfolding full_header
  full-long h = rw (lt-leb n most_octets h)

  pub partial_long : (count : ℕ) → most_octets < n → refused_header ≡ partial_header n d count
  unfolding partial_header
  partial_long count h = rw (lt-leb n most_octets h)

  pub partial_none : (count : ℕ) → n ≤ most_octets → count ≡ 0 → refused_header ≡ partial_header n d count
  unfolding partial_header
  partial_none count h z = rw (le-leb n most_octets h, eq-eqb count 0 z)

  module _ (s : Size) (e : size_given (size_of n) ≡ Ok s) where
    pub full_is : write_header (padded_header s.pad d 1 s.blocks) ≡ full_header n d
    unfolding full_header attempt_header padded_header
    full_is =
        let p = pad-given n s e in
        let b = blocks-given n s e in
        rw (le-leb n most_octets (short n s e)) (λ i. write_header (padded_header (p i) d 1 (b i)))

    module _ (count : ℕ) (some : count ≡ 0 → ⊥) where
      pub partial_many : s.blocks < count → refused_header ≡ partial_header n d count
      unfolding partial_header
      partial_many m =
          rw (le-leb n most_octets (short n s e), ne_eqb count 0 some, lt-leb count (blocks_of n) (omega (arith, blocks-given n s e)))

      pub partial_is : count ≤ s.blocks → write_header (padded_header s.pad d 0 count) ≡ partial_header n d count
      unfolding partial_header attempt_header padded_header
      partial_is m =
          let p = pad-given n s e in
          rw (le-leb n most_octets (short n s e), ne_eqb count 0 some, le-leb count (blocks_of n) (omega (arith, blocks-given n s e)))
          (λ i. write_header (padded_header (p i) d 0 count))

-- its only refusal is 16
pub full-16 : (n : ℕ) (d : Delivery) (r : Refusal) → header_octets_given (full_header n d) ≡ Err r → r ≡ refusal 16
unfolding full_header write_header header_octets_given
full-16 n d r e =
    let h = attempt_header n d 1 (blocks_of n) in
    either (leb n most_octets)
    (λ t. let f = rw t at e in sym (err_refusal (width_number h) _ r f) ∙ ap refusal (widths_else h (err_number (width_number h) _ r f)))
    (λ t. let f = rw t at e in sym (err_refusal 16 _ r f))

-- ---- octets

module _ (m : List ℕ) where
  length-padded : length (padded m) ≡ length m + pad_of (length m)
  unfolding padded
  length-padded = simp (length-append, length-replicate)

  padded_octet : (i : ℕ) → get_or (padded m) i 0 ≡ get_or m i 0
  unfolding padded
  padded_octet i = get_d_padded m (pad_of (length m)) i

  ends : (b : ℕ) → b ≡ blocks_of (length m) → length m ≤ most_octets → Ends m (block_size * b - check_size)
  ends b e h =
      let l = length-padded in
      let f = filled (length m) in
      let k = few_blocks (length m) h in
      record { place = omega arith; small = omega arith }

  -- the message in a longer array of zeros
  pub stored : (end : ℕ) → Ends m end → take end (put (replicate most_octets 0) 0 m) ≡ padded m
  unfolding over
  stored end e = ext_get_or 0 (take end store) (padded m) (size ∙ e.place) (λ i l. get_or-take end store i 0 (omega (arith, size)) ∙ at i ∙ sym (padded_octet i))
    where
      store : List ℕ
      store = put (replicate most_octets 0) 0 m

      size : length (take end store) ≡ end
      size = length-take-le end store (omega (arith, length-put (replicate most_octets 0) 0 m, length-replicate {A = ℕ} most_octets 0, e.small))

      at : (i : ℕ) → get_or store i 0 ≡ get_or m i 0
      at i =
          ap (λ (os : List ℕ). get_or os i 0)
          (put_fits (replicate most_octets 0) 0 m (omega (arith, length-padded, length-replicate {A = ℕ} most_octets 0, e.place, e.small))
          ∙ ap (λ (os : List ℕ). m ++ os) (drop-zeros (0 + length m) most_octets))
          ∙ get_d_padded m (most_octets - (0 + length m)) i

  module _ (n : ℕ) where
    -- the padded message from the block's start on, and the check behind it
    abbrev rest : List ℕ
    rest = drop (block_size * n) (padded m)

    abbrev check : List ℕ
    check = lowest_first (message_check (padded m))

    front : (k : ℕ) → block_size * n + k ≤ length (padded m) → take k rest ≡ tabulate k (λ i. get_or m (block_size * n + i) 0)
    front k h =
        tabulated k _ (take k rest) (length-take-le k rest (omega (arith, length-drop (block_size * n) (padded m))))
        (λ i l. get_or-take k rest i 0 l ∙ get_or-drop (block_size * n) (padded m) i 0 ∙ padded_octet (block_size * n + i))

    in_rest : block_size * n ≤ length (padded m) → block_data m n ≡ take block_size (rest ++ check)
    unfolding block_data laid_out
    in_rest h = ap (take block_size) (drop-append-le (block_size * n) (padded m) check h)

    -- only the last block has octets of the check
    inner_block : n + 1 < blocks_of (length m) → octets_in m n ≡ block_data m n
    inner_block h =
        let long : block_size * n + block_size ≤ length (padded m) = omega (arith, length-padded, filled (length m)) in
        sym (in_rest (omega arith) ∙ take-append-le block_size rest check (omega (arith, length-drop (block_size * n) (padded m))) ∙ front block_size long)

    last_block : n + 1 ≡ blocks_of (length m) → put (octets_in m n) (block_size - check_size) check ≡ block_data m n
    unfolding over lowest_first
    last_block e =
        let k : ℕ = block_size - check_size in
        let size : length (padded m) ≡ block_size * n + k = omega (arith, length-padded, filled (length m)) in
        let part : length rest ≡ k = omega (arith, length-drop (block_size * n) (padded m)) in
        let is : rest ≡ tabulate k (λ i. get_or m (block_size * n + i) 0) = sym (take_all k rest (omega arith)) ∙ front k (omega arith) in
        put_fits (octets_in m n) k check (omega arith)
        ∙ sym (in_rest (omega arith) ∙ take_all block_size (rest ++ check) (omega (arith, length-append rest check)) ∙ ap (λ (os : List ℕ). os ++ check) is)

  -- ---- what is written

  pub block-long : (n : ℕ) → most_octets < length m → record { number = 16; octets = replicate 12 0 } ≡ write_message_block m n
  unfolding write_message_block block_part_tests first_failed
  block-long n h = rw (lt-leb (length m) most_octets h)

  module _ (n : ℕ) (h : length m ≤ most_octets) where
    block_none : blocks_of (length m) ≤ n → record { number = 16; octets = replicate 12 0 } ≡ write_message_block m n
    unfolding write_message_block block_part_tests first_failed
    block_none l = rw (le-leb (length m) most_octets h, le-ltb n (blocks_of (length m)) l)

    block_written : (os : List ℕ) → n < blocks_of (length m) → os ≡ block_data m n → write_block n os ≡ write_message_block m n
    unfolding write_message_block block_part_tests first_failed
    block_written os l e =
        ap (write_block n) e ∙ sym (written n (block_data m n) (length-block_data m n l) (omega (arith, few_blocks (length m) h)))
        ∙ rw (le-leb (length m) most_octets h, lt-ltb n (blocks_of (length m)) l)

  -- by the size that is given
  module _ (s : Size) (e : size_given (size_of (length m)) ≡ Ok s) (n : ℕ) where
    small : length m ≤ most_octets
    small = short (length m) s e

    are : s.blocks ≡ blocks_of (length m)
    are = blocks-given (length m) s e

    pub block_refused : s.blocks ≤ n → record { number = 16; octets = replicate 12 0 } ≡ write_message_block m n
    block_refused l = block_none n small (omega (arith, are))

    module _ (l : n < s.blocks) where
      pub block-ends : Ends m (block_size * s.blocks - check_size)
      block-ends = ends s.blocks are small

      module _ (os : List ℕ) (o : os ≡ octets_in m n) where
        pub inner_written : n + 1 < s.blocks → write_block n os ≡ write_message_block m n
        inner_written k = block_written n small os (omega (arith, are)) (o ∙ inner_block n (omega (arith, are)))

        pub last_written : s.blocks ≤ n + 1 → (check whole : List ℕ) → check ≡ lowest_first (message_check (padded m))
            → whole ≡ put os (block_size - check_size) check → write_block n whole ≡ write_message_block m n
        last_written k check whole c p = block_written n small whole (omega (arith, are)) (p ∙ rw (o, c) (last_block n (omega (arith, are))))
