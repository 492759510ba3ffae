-- The answers of the library for C: to each function the number of its refusal, 0 for none, and the octets for the lent memory.
-- Assumes nothing.
use Rattle.std.specs.Prelude.{Bool, List, [], ◌∷◌, ◌++◌, ℕ, eqb, leb, length, replicate}
use Rattle.foundation.specs.Order.{first_failed}
use Rattle.codes.specs.SlotWord.{read_slot_type, slot_number, slot_data}
use Rattle.codes.specs.Field.{written_field, read_field}
use Rattle.bursts.specs.Bursts.{read_burst, write_burst}
use Rattle.datagrams.specs.Datagrams.{read_datagram, write_datagram}
use Rattle.packets.specs.Blocks.{read_block, write_block}
use Rattle.packets.specs.Headers.{read_header, write_header}
use Rattle.messages.specs.Messages.{size_of, write_message_block, full_header, partial_header}
use Rattle.messages.specs.Responses.{read_response, write_response}
use Rattle.packets.specs.Headers.{HeaderAnswer, Accepted, Refused}
use Rattle.layouts.specs.Lent.{Answer}
use Rattle.layouts.specs.Layouts.{sync_of, reply_of, delivery_of, header_from, labels_from, size_octets, header_octets, block_octets, response_octets, burst_octets, datagram_octets}

-- an answer whose number stands behind other tests
unfoldable pub behind : List (Bool × ℕ) → ℕ → ℕ
behind ts n = first_failed (ts ++ (eqb n 0, n) ∷ [])

-- ---- writing

unfoldable pub message_size : ℕ → Answer
message_size n = ((size_of n).number, size_octets (size_of n))

unfoldable pub header_before : ℕ → ℕ → ℕ → ℕ → ℕ → Answer
header_before n sap ns destination source =
    let w = full_header n (delivery_of sap ns destination source) in
    (w.number, w.octets)

unfoldable pub header_again : ℕ → ℕ → ℕ → ℕ → ℕ → ℕ → Answer
header_again n count sap ns destination source =
    let w = partial_header n (delivery_of sap ns destination source) count in
    (w.number, w.octets)

unfoldable pub message_block : List ℕ → ℕ → Answer
message_block m n = ((write_message_block m n).number, (write_message_block m n).octets)

-- a header that there is, or the number of the refusal
unfoldable pub header_written : HeaderAnswer → Answer
header_written (Accepted h) = ((write_header h).number, (write_header h).octets)
header_written (Refused n) = (n, replicate 12 0)

unfoldable pub fields_written : List ℕ → Answer
fields_written f =
    let w = header_written (header_from f) in
    (behind ((eqb (length f) 16, 1) ∷ []) w.0, w.1)

unfoldable pub block_written : ℕ → List ℕ → Answer
block_written serial os = ((write_block serial os).number, (write_block serial os).octets)

unfoldable pub response_written : ℕ → ℕ → ℕ → ℕ → ℕ → List ℕ → Answer
response_written reply sap ns destination source flags =
    let w = write_response (reply_of reply) (delivery_of sap ns destination source) flags in
    (behind ((eqb (length flags) 8, 1) ∷ (leb reply 2, 16) ∷ []) w.number, w.header ++ w.block)

unfoldable pub burst_written : ℕ → ℕ → List ℕ → ℕ → Answer
burst_written colour type info sync =
    let w = write_burst colour type info (sync_of sync) in
    (behind ((eqb (length info) 12, 1) ∷ (leb sync 1, 16) ∷ []) w.number, w.octets)

unfoldable pub datagram_written : List ℕ → ℕ → ℕ → List ℕ → ℕ → Answer
datagram_written labels colour type info sync =
    let w = write_datagram (labels_from labels) colour type info (sync_of sync) in
    (behind ((eqb (length labels) 17, 1) ∷ (eqb (length info) 12, 1) ∷ (leb sync 1, 16) ∷ []) w.number, w.octets)

-- ---- reading

unfoldable pub datagram_read : List ℕ → Answer
datagram_read d = ((read_datagram d).number, datagram_octets (read_datagram d))

unfoldable pub burst_read : List ℕ → Answer
burst_read b = ((read_burst b).number, burst_octets (read_burst b))

unfoldable pub header_found : HeaderAnswer → Answer
header_found (Accepted h) = (0, header_octets h)
header_found (Refused n) = (n, replicate 16 0)

unfoldable pub header_read : List ℕ → Answer
header_read h = header_found (read_header h)

unfoldable pub block_read : List ℕ → Answer
block_read b = ((read_block b).number, block_octets (read_block b))

unfoldable pub response_read : List ℕ → List ℕ → Answer
response_read h b = ((read_response h b).number, response_octets (read_response h b))

-- ---- the codes

unfoldable pub slot_read : ℕ → Answer
slot_read w = (slot_number (read_slot_type w), slot_data (read_slot_type w) ∷ [])

unfoldable pub field_written : List ℕ → Answer
field_written info = (behind ((eqb (length info) 12, 1) ∷ []) 0, written_field info)

unfoldable pub field_read : List ℕ → Answer
field_read f = ((read_field f).number, (read_field f).info)
