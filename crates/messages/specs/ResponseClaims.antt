-- What a reader of document 01 wants of responses.
-- Assumes nothing.
use Rattle.std.specs.Prelude.{◌≡◌, true, false, List, ◌↔◌, ◌≢◌, ℕ, length, replicate}
use Rattle.checks.specs.Checks.{header_good, message_good}
use Rattle.packets.specs.Headers.{header_mask, format_of, width_number}
use Rattle.messages.specs.MessageClaims.{Within}
use Rattle.messages.specs.Responses.{ResponseWritten, ResponseAnswer, reply_code, response_header, is_sack, write_response, refused_response, read_response}
use Rattle.messages.specs.declared.message.Delivery.{Delivery}
use Rattle.messages.specs.declared.response.Reply.{Reply}
use Rattle.messages.specs.declared.response.Reply.TheVariants.{Ack, Nack, Sack}

-- the flags that are read of a response written: only a SACK has any
unfoldable pub flags_of : Reply → List ℕ → List ℕ
flags_of Ack flags = replicate 8 0
flags_of Nack flags = replicate 8 0
flags_of Sack flags = flags

-- what is read of a response written
abbrev pub answer_of : Reply → Delivery → List ℕ → ResponseAnswer
answer_of r d flags = record {
  number = 0;
  class = (reply_code r).0;
  kind = (reply_code r).1;
  status = d.ns;
  sap = d.sap;
  destination = d.destination;
  source = d.source;
  flags = flags_of r flags;
}

-- an answer of the writer without a number reads back
abbrev pub ResponseReadsBack : Reply → Delivery → List ℕ → ResponseWritten → Type 0
ResponseReadsBack reply d flags r = r.number ≡ 0 → read_response r.header r.block ≡ answer_of reply d flags

-- octets that are the header of a response: 12 of them, with a good check, of format 1
pub record GoodHeader (h : List ℕ) : Type 0 where
  pub size : length h ≡ 12
  pub check : header_good header_mask h ≡ true
  pub format : format_of h ≡ 1

-- when reading header octets h and block octets b gives which number: the header's size, check and format, then for a SACK its block's size and check
pub data ResponseRow (h b : List ℕ) : ℕ → Type 0 where
  header-size : length h ≢ 12 → ResponseRow h b 1
  header-check : length h ≡ 12 → header_good header_mask h ≡ false → ResponseRow h b 8
  header-format : length h ≡ 12 → header_good header_mask h ≡ true → format_of h ≢ 1 → ResponseRow h b 9
  block_size_is : GoodHeader h → is_sack h ≡ true → length b ≢ 12 → ResponseRow h b 1
  block-check : GoodHeader h → is_sack h ≡ true → length b ≡ 12 → message_good b ≡ false → ResponseRow h b 13
  header_alone : GoodHeader h → is_sack h ≡ false → ResponseRow h b 0
  header_and_block : GoodHeader h → is_sack h ≡ true → length b ≡ 12 → message_good b ≡ true → ResponseRow h b 0

pub record ResponseClaims : Type 0 where
  -- with fields within their widths a response is written
  pub written : (r : Reply) (d : Delivery) (flags : List ℕ) → Within d → (write_response r d flags).number ≡ 0
  -- any other is refused with 16
  pub too_wide : (r : Reply) (d : Delivery) (flags : List ℕ) → width_number (response_header r d) ≢ 0
      → write_response r d flags ≡ record { number = 16; header = replicate 12 0; blocks = 0; block = replicate 12 0 }
  -- what is written reads back, with the 8 flag octets of a SACK
  pub reads_back : (r : Reply) (d : Delivery) (flags : List ℕ) → length flags ≡ 8 → ResponseReadsBack r d flags (write_response r d flags)
  -- an ACK reads back whatever octets b stand beside its header
  pub ack_alone : (d : Delivery) (flags b : List ℕ) → Within d → read_response (write_response Ack d flags).header b ≡ answer_of Ack d flags
  -- so does a NACK
  pub nack_alone : (d : Delivery) (flags b : List ℕ) → Within d → read_response (write_response Nack d flags).header b ≡ answer_of Nack d flags
  -- no block is looked at but that of a SACK
  pub unlooked : (h b b' : List ℕ) → is_sack h ≡ false → read_response h b ≡ read_response h b'
  -- each number is given exactly where an outcome says it
  pub numbers : (h b : List ℕ) (n : ℕ) → ((read_response h b).number ≡ n) ↔ ResponseRow h b n
  -- a refusal has zeros beside its number
  pub refused : (h b : List ℕ) → (read_response h b).number ≢ 0 → read_response h b ≡ refused_response (read_response h b).number
