-- A response: a header of format 1, and for a SACK one data block of 12 octets: 8 octets of flags and a message check over them.
-- Assumes nothing.
use Rattle.std.specs.Prelude.{Bool, true, cond, Option, None, Some, Result, List, [], ◌∷◌, ◌++◌, ℕ, eqb, length, get_or, take, replicate}
use Rattle.foundation.specs.Order.{first_failed}
use Rattle.foundation.specs.Refusals.{outcome}
use Rattle.foundation.specs.declared.refusal.Refusal.{Refusal}
use Rattle.addresses.specs.declared.RadioAddress.{RadioAddress}
use Rattle.checks.specs.Checks.{message_check, lowest_first, header_good, message_good}
use Rattle.packets.specs.Headers.{header_mask, part, format_of, common_of, written_header, width_number}
use Rattle.packets.specs.declared.header.Header.{Header}
use Rattle.packets.specs.declared.header.Header.TheVariants.{Response}
use Rattle.messages.specs.declared.message.Delivery.{Delivery}
use Rattle.messages.specs.declared.response.Reply.{Reply}
use Rattle.messages.specs.declared.response.Reply.TheVariants.{Ack, Nack, Sack}
use Rattle.messages.specs.declared.response.ResponseOctets.{ResponseOctets}
use Rattle.messages.specs.declared.response.ResponseFields.{ResponseFields}

-- what is written: a number, 0 for none, the header, how many data blocks follow it (0 or 1) and the data block
pub record ResponseWritten : Type 0 where
  pub number : ℕ
  pub header : List ℕ
  pub blocks : ℕ
  pub block : List ℕ

-- what is read: a number, 0 for none, the fields and the flags of a SACK
pub record ResponseAnswer : Type 0 where
  pub number : ℕ
  pub class : ℕ
  pub kind : ℕ
  pub status : ℕ
  pub sap : ℕ
  pub destination : RadioAddress
  pub source : RadioAddress
  pub flags : List ℕ

-- class, type and block count: ACK 00 001, NACK 01 001, SACK 10 000 with one data block
unfoldable pub reply_code : Reply → ℕ × ℕ × ℕ
reply_code Ack = (0, 1, 0)
reply_code Nack = (1, 1, 0)
reply_code Sack = (2, 0, 1)

-- group, A, pad and flag are 0; status is N(S)
unfoldable pub response_header : Reply → Delivery → Header
response_header r d =
    Response
    (record { group = 0; requested = 0; pad = 0; sap = d.sap; destination = d.destination; source = d.source; full = 0; blocks = (reply_code r).2 })
    (reply_code r).0 (reply_code r).1 d.ns

-- the data block of a SACK
unfoldable pub sack_data : List ℕ → List ℕ
sack_data flags = flags ++ lowest_first (message_check flags)

-- the data block of a reply; zeros where its count is 0
unfoldable pub response_data : Reply → List ℕ → List ℕ
response_data r flags = cond (eqb (reply_code r).2 0) (replicate 12 0) (sack_data flags)

-- what the writer answers: the header, how many data blocks follow, and the data block; zeros beside the number of a refusal
unfoldable pub write_response : Reply → Delivery → List ℕ → ResponseWritten
write_response r d flags =
    cond (eqb (width_number (response_header r d)) 0)
    (record { number = 0; header = written_header (response_header r d); blocks = (reply_code r).2; block = response_data r flags })
    (record { number = 16; header = replicate 12 0; blocks = 0; block = replicate 12 0 })

-- what the writer gives
unfoldable pub response_given : ResponseWritten → Result ResponseOctets Refusal
response_given w = outcome w.number (record { header = w.header; block = cond (eqb w.blocks 0) None (Some w.block) })

-- how many data blocks stand beside the header, and the octets of the block; zeros where there is none
unfoldable pub blocks_beside : Option (List ℕ) → ℕ
blocks_beside None = 0
blocks_beside (Some b) = 1

unfoldable pub block_beside : Option (List ℕ) → List ℕ
block_beside None = replicate 12 0
block_beside (Some b) = b

-- what was written where this is given
abbrev pub written_where : ResponseOctets → ResponseWritten
written_where r = record { number = 0; header = r.header; blocks = blocks_beside r.block; block = block_beside r.block }

-- ---- reading

-- class 10 is a SACK; the others have no data block that is looked at
unfoldable pub is_sack : List ℕ → Bool
is_sack h = eqb (part 6 2 (get_or h 9 0)) 2

-- the order of checks: the header's size, check and format, then for a SACK its block's size and check
unfoldable pub response_number : List ℕ → List ℕ → ℕ
response_number h b =
    first_failed ((eqb (length h) 12, 1) ∷ (header_good header_mask h, 8) ∷ (eqb (format_of h) 1, 9) ∷ (cond (is_sack h) (eqb (length b) 12) true, 1)
    ∷ (cond (is_sack h) (message_good b) true, 13) ∷ [])

-- zeros beside the number of a refusal
abbrev pub refused_response : ℕ → ResponseAnswer
refused_response n =
    record { number = n; class = 0; kind = 0; status = 0; sap = 0; destination = record { 0 = 0 }; source = record { 0 = 0 }; flags = replicate 8 0 }

-- the fields, and the flags of a SACK
unfoldable pub read_response : List ℕ → List ℕ → ResponseAnswer
read_response h b =
    let c = common_of h in
    cond (eqb (response_number h b) 0)
    (record {
      number = 0;
      class = part 6 2 (get_or h 9 0);
      kind = part 3 3 (get_or h 9 0);
      status = part 0 3 (get_or h 9 0);
      sap = c.sap;
      destination = c.destination;
      source = c.source;
      flags = cond (is_sack h) (take 8 b) (replicate 8 0);
    })
    (refused_response (response_number h b))

-- what the reader gives
unfoldable pub fields_given : ResponseAnswer → Result ResponseFields Refusal
fields_given a =
    outcome a.number
    (record { class = a.class; kind = a.kind; status = a.status; sap = a.sap; destination = a.destination; source = a.source; flags = a.flags })
