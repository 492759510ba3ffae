-- The claims of messages hold.
-- Assumes nothing.
use mathlib.Core.Path.{◌≡◌, refl, sym}
use mathlib.Core.List.{List}
use Prim.Native.Nat.{ℕ, ◌≤◌, ◌<◌}
use native.Mathlib.Omega.{arith}
use borrow.Author.Tests.{le-leb, lt-leb, lt-ltb, le-ltb, ne_eqb}
use lib.ListN.{length, replicate}
use Rattle.foundation.specs.Order.{first_failed}
use Rattle.packets.specs.Blocks.{written_block}
use Rattle.messages.specs.Messages.{most_octets, blocks_of, pad_of, size_of, block_data, block_part_tests, write_message_block, refused_header, partial_header}
use Rattle.messages.specs.declared.message.Delivery.{Delivery}
use Rattle.messages.specs.MessageClaims.{MessageClaims}
use Rattle.messages.proofs.MessageParts.{full-long, partial_long, partial_none}
use Rattle.messages.proofs.MessageLayout.{some_block, few_blocks, filled, small-pad, length-laid_out, length-block_data, joined-blocks, good-laid_out, front-laid_out, octets-laid_out, octets-block_data, full-written, partial_written}

sized : (n : ℕ) → n ≤ most_octets → size_of n ≡ record { number = 0; blocks = blocks_of n; pad = pad_of n }
unfolding size_of
sized n h = rw (le-leb n most_octets h)

too_long : (n : ℕ) → most_octets < n → size_of n ≡ record { number = 16; blocks = 0; pad = 0 }
unfolding size_of
too_long n h = rw (lt-leb n most_octets h)

module _ (m : List ℕ) (k : ℕ) where
  block_written : length m ≤ most_octets → k < blocks_of (length m) → write_message_block m k ≡ record { number = 0; octets = written_block k (block_data m k) }
  unfolding write_message_block block_part_tests first_failed
  block_written h l = rw (le-leb (length m) most_octets h, lt-ltb k (blocks_of (length m)) l)

  block_too_long : most_octets < length m → write_message_block m k ≡ record { number = 16; octets = replicate 12 0 }
  unfolding write_message_block block_part_tests first_failed
  block_too_long h = rw (lt-leb (length m) most_octets h)

  block_none : length m ≤ most_octets → blocks_of (length m) ≤ k → write_message_block m k ≡ record { number = 16; octets = replicate 12 0 }
  unfolding write_message_block block_part_tests first_failed
  block_none h l = rw (le-leb (length m) most_octets h, le-ltb k (blocks_of (length m)) l)

partial_many : (n : ℕ) (d : Delivery) (count : ℕ) → n ≤ most_octets → blocks_of n < count → partial_header n d count ≡ refused_header
unfolding partial_header
partial_many n d count h l = rw (le-leb n most_octets h, ne_eqb count 0 (λ e. omega arith), lt-leb count (blocks_of n) l)

pub messages : MessageClaims
messages = record {
  some_block = some_block;
  few_blocks = few_blocks;
  filled = filled;
  small-pad = small-pad;
  size = length-laid_out;
  block_size_is = length-block_data;
  blocks-joined = joined-blocks;
  good = good-laid_out;
  front = front-laid_out;
  octets = octets-laid_out;
  block-octets = octets-block_data;
  full-header = full-written;
  partial_header_lem = partial_written;
  sized = sized;
  too_long = too_long;
  block_written = block_written;
  block_too_long = block_too_long;
  block_none = block_none;
  full_too_long = λ n d h. sym (full-long n d h);
  partial_too_long = λ n d count h. sym (partial_long n d count h);
  partial_none = λ n d h. sym (partial_none n d 0 h refl);
  partial_many = partial_many;
}
