-- What a reader of document 01 wants of messages.
-- Assumes nothing.
use Rattle.std.specs.Prelude.{◌≡◌, true, List, ℕ, ◌+◌, ◌*◌, ◌^◌, ◌≤◌, ◌<◌, length, take, get_or, replicate}
use Rattle.checks.specs.Checks.{message_good}
use Rattle.packets.specs.Headers.{written_header}
use Rattle.packets.specs.Blocks.{written_block}
use Rattle.messages.specs.Messages.{block_size, check_size, most_blocks, most_octets, blocks_of, pad_of, size_of, laid_out, block_data, joined, write_message_block, attempt_header, refused_header, full_header, partial_header}
use Rattle.messages.specs.declared.message.Delivery.{Delivery}

-- each field of a delivery within its width
pub record Within (d : Delivery) : Type 0 where
  pub sap : d.sap < 16
  pub ns : d.ns < 8
  pub destination : d.destination.0 < 2 ^ 24
  pub source : d.source.0 < 2 ^ 24

-- n is the length of a message, m its octets
pub record MessageClaims : Type 0 where
  -- every message takes a block
  pub some_block : (n : ℕ) → 1 ≤ blocks_of n
  -- one of at most 626 octets takes at most 63
  pub few_blocks : (n : ℕ) → n ≤ most_octets → blocks_of n ≤ most_blocks
  -- message, pad and check fill the blocks
  pub filled : (n : ℕ) → n + pad_of n + check_size ≡ block_size * blocks_of n
  -- the pad is less than a block
  pub small-pad : (n : ℕ) → pad_of n < block_size
  -- a message laid out fills its blocks
  pub size : (m : List ℕ) → length (laid_out m) ≡ block_size * blocks_of (length m)
  -- each of them holds 10 octets
  pub block_size_is : (m : List ℕ) (k : ℕ) → k < blocks_of (length m) → length (block_data m k) ≡ block_size
  -- joined they are the message, its pad and its check
  pub blocks-joined : (m : List ℕ) → joined (block_data m) (blocks_of (length m)) ≡ laid_out m
  -- the message check of the whole is good
  pub good : (m : List ℕ) → message_good (laid_out m) ≡ true
  -- the message stands in front
  pub front : (m : List ℕ) → take (length m) (laid_out m) ≡ m
  -- octets are laid out as octets, below 256
  pub octets : (m : List ℕ) → ((j : ℕ) → get_or m j 0 < 256) → (j : ℕ) → get_or (laid_out m) j 0 < 256
  -- and so are those of each block
  pub block-octets : (m : List ℕ) → ((j : ℕ) → get_or m j 0 < 256) → (k j : ℕ) → get_or (block_data m k) j 0 < 256
  -- blocks and pad are given for at most 626 octets, else 16
  pub sized : (n : ℕ) → n ≤ most_octets → size_of n ≡ record { number = 0; blocks = blocks_of n; pad = pad_of n }
  pub too_long : (n : ℕ) → most_octets < n → size_of n ≡ record { number = 16; blocks = 0; pad = 0 }
  -- block k is written with k for its serial; 16 for a message that is too long or has no such block
  pub block_written : (m : List ℕ) (k : ℕ) → length m ≤ most_octets → k < blocks_of (length m)
      → write_message_block m k ≡ record { number = 0; octets = written_block k (block_data m k) }
  pub block_too_long : (m : List ℕ) (k : ℕ) → most_octets < length m → write_message_block m k ≡ record { number = 16; octets = replicate 12 0 }
  pub block_none : (m : List ℕ) (k : ℕ) → length m ≤ most_octets → blocks_of (length m) ≤ k
      → write_message_block m k ≡ record { number = 16; octets = replicate 12 0 }
  -- the header before a whole message, with fields within their widths: flag 1 and the message's number of blocks
  pub full-header : (n : ℕ) (d : Delivery) → Within d → n ≤ most_octets
      → full_header n d ≡ record { number = 0; octets = written_header (attempt_header n d 1 (blocks_of n)) }
  -- the header before a repeat attempt: flag 0 and the number of blocks in that attempt
  pub partial_header_lem : (n : ℕ) (d : Delivery) → Within d → n ≤ most_octets → (count : ℕ) → 1 ≤ count → count ≤ blocks_of n
      → partial_header n d count ≡ record { number = 0; octets = written_header (attempt_header n d 0 count) }
  -- 16 for the header of a message that is too long, and of an attempt with no block or more than the message has
  pub full_too_long : (n : ℕ) (d : Delivery) → most_octets < n → full_header n d ≡ refused_header
  pub partial_too_long : (n : ℕ) (d : Delivery) (count : ℕ) → most_octets < n → partial_header n d count ≡ refused_header
  pub partial_none : (n : ℕ) (d : Delivery) → n ≤ most_octets → partial_header n d 0 ≡ refused_header
  pub partial_many : (n : ℕ) (d : Delivery) (count : ℕ) → n ≤ most_octets → blocks_of n < count → partial_header n d count ≡ refused_header
