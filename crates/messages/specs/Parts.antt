-- What private functions require and give: nothing that a reader has to believe.
-- Assumes nothing.
use Rattle.std.specs.Prelude.{◌≡◌, cond, Option, None, Some, List, ℕ, ◌+◌, ◌*◌, ◌≤◌, eqb, length, get_or, take, replicate}
use Rattle.foundation.specs.Bits.{tabulate}
use Rattle.checks.specs.Checks.{message_good}
use Rattle.packets.specs.declared.header.Common.{Common}
use Rattle.packets.specs.declared.header.Header.{Header}
use Rattle.packets.specs.declared.header.Header.TheVariants.{Response, Unconfirmed, Confirmed}
use Rattle.packets.specs.Headers.{HeaderAnswer, Accepted, Refused}
use Rattle.messages.specs.Messages.{block_size, most_octets, confirmed_fsn, padded}
use Rattle.messages.specs.Responses.{ResponseAnswer, reply_code, sack_data, refused_response}
use Rattle.messages.specs.declared.message.Delivery.{Delivery}
use Rattle.messages.specs.declared.response.Reply.{Reply}
use Rattle.messages.specs.declared.response.ResponseFields.{ResponseFields}

-- ---- messages

-- the header of an attempt, its pad given
unfoldable pub padded_header : ℕ → Delivery → ℕ → ℕ → Header
padded_header pad d full count = Confirmed (record {
  group = 0;
  requested = 1;
  pad = pad;
  sap = d.sap;
  destination = d.destination;
  source = d.source;
  full = full;
  blocks = count;
}) 0 d.ns confirmed_fsn

-- the padded message m ends at `end`
pub record Ends (m : List ℕ) (end : ℕ) : Type 0 where
  pub place : end ≡ length (padded m)
  pub small : end ≤ most_octets

-- the octets of m in block n, zeros past its end
abbrev pub octets_in : List ℕ → ℕ → List ℕ
octets_in m n = tabulate block_size (λ k. get_or m (block_size * n + k) 0)

-- ---- responses

-- the data block of a SACK; the others have none
unfoldable pub block_given : Reply → List ℕ → Option (List ℕ)
block_given r flags = cond (eqb (reply_code r).2 0) None (Some (sack_data flags))

-- the fields and the flags
unfoldable pub fields_with : Common → ℕ → ℕ → ℕ → List ℕ → ResponseFields
fields_with c class kind status flags =
    record { class = class; kind = kind; status = status; sap = c.sap; destination = c.destination; source = c.source; flags = flags }

-- what is answered: by the fields and the flags
unfoldable pub answer_with : Common → ℕ → ℕ → ℕ → List ℕ → ResponseAnswer
answer_with c class kind status flags = record {
  number = 0;
  class = class;
  kind = kind;
  status = status;
  sap = c.sap;
  destination = c.destination;
  source = c.source;
  flags = flags;
}

-- by the fields and the data block
unfoldable pub answer_beside : Common → ℕ → ℕ → ℕ → List ℕ → ResponseAnswer
answer_beside c class kind status b =
    cond (eqb class 2)
    (cond (eqb (length b) 12) (cond (message_good b) (answer_with c class kind status (take 8 b)) (refused_response 13)) (refused_response 1))
    (answer_with c class kind status (replicate 8 0))

-- by the header and the data block
unfoldable pub response_by : Header → List ℕ → ResponseAnswer
response_by (Response c class kind status) b = answer_beside c class kind status b
response_by (Unconfirmed c fsn) b = refused_response 9
response_by (Confirmed c s ns fsn) b = refused_response 9

-- by what is read of the header
unfoldable pub answer_after : HeaderAnswer → List ℕ → ResponseAnswer
answer_after (Accepted h) b = response_by h b
answer_after (Refused n) b = refused_response n
