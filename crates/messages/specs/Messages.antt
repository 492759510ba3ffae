-- A message of L octets takes B = ceil((L + 4) / 10) blocks, numbered from 0, with a pad of 10 B - 4 - L zero octets and a message check.
-- Assumes nothing.
use Rattle.std.specs.Prelude.{Bool, cond, Result, List, [], ◌∷◌, ◌++◌, ℕ, zero, suc, ◌+◌, ◌*◌, ◌-◌, ◌/◌, eqb, leb, ltb, length, take, drop, replicate}
use Rattle.foundation.specs.Order.{first_failed}
use Rattle.foundation.specs.Refusals.{outcome}
use Rattle.foundation.specs.declared.refusal.Refusal.{Refusal}
use Rattle.checks.specs.Checks.{message_check, lowest_first}
use Rattle.packets.specs.Headers.{write_header}
use Rattle.packets.specs.Blocks.{written_block}
use Rattle.packets.specs.declared.header.Header.{Header}
use Rattle.packets.specs.declared.header.Header.TheVariants.{Confirmed}
use Rattle.packets.specs.Headers.{HeaderOctets}
use Rattle.packets.specs.Blocks.{BlockOctets}
use Rattle.messages.specs.declared.message.Delivery.{Delivery}
use Rattle.messages.specs.declared.message.Size.{Size}

-- blocks and pad of a message, with a number, 0 for none
pub record Sized : Type 0 where
  pub number : ℕ
  pub blocks : ℕ
  pub pad : ℕ

-- data octets of a block, octets of a message check, and the most blocks that a message takes
abbrev pub block_size : ℕ
block_size = 10

abbrev pub check_size : ℕ
check_size = 4

abbrev pub most_blocks : ℕ
most_blocks = 63

-- 626
abbrev pub most_octets : ℕ
most_octets = block_size * most_blocks - check_size

unfoldable pub blocks_of : ℕ → ℕ
blocks_of n = (n + check_size + (block_size - 1)) / block_size

unfoldable pub pad_of : ℕ → ℕ
pad_of n = block_size * blocks_of n - check_size - n

-- zeros beside the number of a refusal
unfoldable pub size_of : ℕ → Sized
size_of n = cond (leb n most_octets) (record { number = 0; blocks = blocks_of n; pad = pad_of n }) (record { number = 16; blocks = 0; pad = 0 })

-- what is given for a message's length
unfoldable pub size_given : Sized → Result Size Refusal
size_given s = outcome s.number (record { blocks = s.blocks; pad = s.pad })

-- the message and its pad, and these with their check: the octets of its blocks in order
unfoldable pub padded : List ℕ → List ℕ
padded m = m ++ replicate (pad_of (length m)) 0

unfoldable pub laid_out : List ℕ → List ℕ
laid_out m = padded m ++ lowest_first (message_check (padded m))

-- the data of block n
unfoldable pub block_data : List ℕ → ℕ → List ℕ
block_data m n = take block_size (drop (block_size * n) (laid_out m))

-- f 0, f 1, .. of k lists, one behind the other
unfoldable pub joined : (ℕ → List ℕ) → ℕ → List ℕ
joined f zero = []
joined f (suc k) = joined f k ++ f k

-- what the writer of block n tests: the message's size, and that it has such a block
unfoldable pub block_part_tests : List ℕ → ℕ → List (Bool × ℕ)
block_part_tests m n = (leb (length m) most_octets, 16) ∷ (ltb n (blocks_of (length m)), 16) ∷ []

unfoldable pub write_message_block : List ℕ → ℕ → BlockOctets
write_message_block m n = record {
  number = first_failed (block_part_tests m n);
  octets = cond (eqb (first_failed (block_part_tests m n)) 0) (written_block n (block_data m n)) (replicate 12 0);
}

-- FSN of a confirmed message: 1000
abbrev pub confirmed_fsn : ℕ
confirmed_fsn = 8

-- the header of an attempt with this flag and count: group 0, a response requested, S 0
unfoldable pub attempt_header : ℕ → Delivery → ℕ → ℕ → Header
attempt_header n d full count =
    Confirmed
    (record { group = 0; requested = 1; pad = pad_of n; sap = d.sap; destination = d.destination; source = d.source; full = full; blocks = count })
    0 d.ns confirmed_fsn

abbrev pub refused_header : HeaderOctets
refused_header = record { number = 16; octets = replicate 12 0 }

-- the header before a whole message of n octets
unfoldable pub full_header : ℕ → Delivery → HeaderOctets
full_header n d = cond (leb n most_octets) (write_header (attempt_header n d 1 (blocks_of n))) refused_header

-- the header before a repeat attempt with count of its blocks, at least one
unfoldable pub partial_header : ℕ → Delivery → ℕ → HeaderOctets
partial_header n d count =
    cond (leb n most_octets) (cond (eqb count 0) refused_header (cond (leb count (blocks_of n)) (write_header (attempt_header n d 0 count)) refused_header)) refused_header
