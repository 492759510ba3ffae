-- Laws of a message laid out in blocks, and of the headers before it.
-- Assumes nothing.
use mathlib.Core.Path.{◌≡◌, sym, ◌∙◌}
use mathlib.Core.Bool.{true}
use mathlib.Core.List.{List, append_assoc}
use Prim.Native.Nat.{ℕ, zero, suc, ◌+◌, ◌*◌, ◌≤◌, ◌<◌}
use native.Mathlib.Nat.{mul-zero, mul-suc}
use native.Mathlib.Omega.{arith}
use lib.ListN.{length, take, drop, replicate, length-append, length-drop, length-replicate}
use lib.Seq.{length-take-le, take_all, take-append_seam, take-add}
use borrow.Author.Tests.{le-leb, ne_eqb}
use Rattle.checks.specs.Checks.{message_check, lowest_first, message_good}
use Rattle.checks.proofs.MessageChecks.{message_carried}
use Rattle.packets.specs.Headers.{width_number, written_header, write_header}
use Rattle.messages.specs.Messages.{block_size, check_size, most_blocks, most_octets, blocks_of, pad_of, padded, laid_out, block_data, attempt_header, full_header, partial_header, joined}
use Rattle.messages.specs.MessageClaims.{Within}
use Rattle.messages.specs.declared.message.Delivery.{Delivery}
use Rattle.packets.proofs.Octets.{Octets, octets-append, octets-take, octets-drop, octets-zeros, octets-lowest_first}
use Rattle.packets.proofs.HeaderWriting.{fits}

module _ (n : ℕ) where
  pub some_block : 1 ≤ blocks_of n
  unfolding blocks_of
  some_block = omega arith

  pub few_blocks : n ≤ most_octets → blocks_of n ≤ most_blocks
  unfolding blocks_of
  few_blocks h = omega arith

  pub filled : n + pad_of n + check_size ≡ block_size * blocks_of n
  unfolding pad_of blocks_of
  filled = omega arith

  pub small-pad : pad_of n < block_size
  unfolding pad_of blocks_of
  small-pad = omega arith

-- parts of equal size, joined
pub joined-parts : (s : ℕ) (l : List ℕ) (k : ℕ) → joined (λ i. take s (drop (s * i) l)) k ≡ take (s * k) l
unfolding joined
joined-parts s l zero = rw mul-zero
joined-parts s l (suc k) = rw (joined-parts s l k, mul-suc) (sym (take-add (s * k) s l))

module _ (m : List ℕ) where
  pub length-laid_out : length (laid_out m) ≡ block_size * blocks_of (length m)
  unfolding laid_out padded lowest_first
  length-laid_out = simp (length-append, length-replicate) (filled (length m))

  pub good-laid_out : message_good (laid_out m) ≡ true
  unfolding laid_out
  good-laid_out = message_carried (padded m)

  pub front-laid_out : take (length m) (laid_out m) ≡ m
  unfolding laid_out padded
  front-laid_out = rw append_assoc (take-append_seam m _)

  pub joined-blocks : joined (block_data m) (blocks_of (length m)) ≡ laid_out m
  unfolding block_data
  joined-blocks =
      let b : ℕ = blocks_of (length m) in
      joined-parts block_size (laid_out m) b ∙ take_all (block_size * b) (laid_out m) (omega (arith, length-laid_out))

  pub length-block_data : (k : ℕ) → k < blocks_of (length m) → length (block_data m k) ≡ block_size
  unfolding block_data
  length-block_data k h = length-take-le block_size (drop (block_size * k) (laid_out m)) (omega (arith, length-drop (block_size * k) (laid_out m), length-laid_out))

  pub octets-laid_out : Octets m → Octets (laid_out m)
  unfolding laid_out padded
  octets-laid_out h =
      let pad : ℕ = pad_of (length m) in
      let c : ℕ = message_check (padded m) in
      octets-append (padded m) (lowest_first c) (octets-append m (replicate pad 0) h (octets-zeros pad)) (octets-lowest_first c)

  pub octets-block_data : Octets m → (k : ℕ) → Octets (block_data m k)
  unfolding block_data
  octets-block_data h k = octets-take block_size (drop (block_size * k) (laid_out m)) (octets-drop (block_size * k) (laid_out m) (octets-laid_out h))

-- ---- the headers before it

module _ (n : ℕ) (d : Delivery) (w : Within d) where
  attempt_fits : (full count : ℕ) → full < 2 → count < 128 → width_number (attempt_header n d full count) ≡ 0
  unfolding attempt_header
  attempt_fits full count hf hc =
      fits (attempt_header n d full count) (record {
        group = omega arith;
        requested = omega arith;
        pad = omega (arith, small-pad n);
        sap = w.sap;
        destination = w.destination;
        source = w.source;
        full = hf;
        blocks = hc;
      }) (omega arith, w.ns, omega arith)

module _ (n : ℕ) (d : Delivery) (w : Within d) (small : n ≤ most_octets) where
  pub full-written : full_header n d ≡ record { number = 0; octets = written_header (attempt_header n d 1 (blocks_of n)) }
  unfolding full_header write_header
  full-written = rw (le-leb n most_octets small, attempt_fits n d w 1 (blocks_of n) (omega arith) (omega (arith, few_blocks n small)))

  pub partial_written : (count : ℕ) → 1 ≤ count → count ≤ blocks_of n
      → partial_header n d count ≡ record { number = 0; octets = written_header (attempt_header n d 0 count) }
  unfolding partial_header write_header
  partial_written count some few =
      rw (
        le-leb n most_octets small,
        ne_eqb count 0 (λ e. omega arith),
        le-leb count (blocks_of n) few,
        attempt_fits n d w 0 count (omega arith) (omega (arith, few_blocks n small)),
      )
