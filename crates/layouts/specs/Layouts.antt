-- Fields in octets, in the order of include/kirruskabe.h. Numbers of more than one octet are most significant octet first.
-- Assumes nothing.
use Rattle.std.specs.Prelude.{cond, List, [], ◌∷◌, ◌++◌, ℕ, eqb, get_or}
use Rattle.addresses.specs.Octets.{address_at, three_octets, four_octets, number_at}
use Rattle.bursts.specs.Bursts.{BurstRead}
use Rattle.bursts.specs.declared.burst.Sync.{Sync}
use Rattle.bursts.specs.declared.burst.Sync.TheVariants.{Base, Mobile}
use Rattle.datagrams.specs.Datagrams.{DatagramRead}
use Rattle.datagrams.specs.declared.Labels.{Labels}
use Rattle.packets.specs.Headers.{header_for}
use Rattle.packets.specs.Blocks.{BlockRead}
use Rattle.packets.specs.declared.header.Common.{Common}
use Rattle.packets.specs.declared.header.Header.{Header}
use Rattle.packets.specs.declared.header.Header.TheVariants.{Response, Unconfirmed, Confirmed}
use Rattle.packets.specs.Headers.{HeaderAnswer}
use Rattle.messages.specs.declared.message.Delivery.{Delivery}
use Rattle.messages.specs.Messages.{Sized}
use Rattle.messages.specs.declared.response.Reply.{Reply}
use Rattle.messages.specs.declared.response.Reply.TheVariants.{Ack, Nack, Sack}
use Rattle.messages.specs.Responses.{ResponseAnswer}

-- ---- given as octets or numbers

unfoldable pub sync_of : ℕ → Sync
sync_of n = cond (eqb n 0) Base Mobile

unfoldable pub reply_of : ℕ → Reply
reply_of n = cond (eqb n 0) Ack (cond (eqb n 1) Nack Sack)

unfoldable pub delivery_of : ℕ → ℕ → ℕ → ℕ → Delivery
delivery_of sap ns destination source = record { sap = sap; ns = ns; destination = record { 0 = destination }; source = record { 0 = source } }

-- 16 octets: format, group, A, pad, SAP, destination (3), source (3), full-message flag, block count, and octet 9 in three
unfoldable pub common_from : List ℕ → Common
common_from f = record {
  group = get_or f 1 0;
  requested = get_or f 2 0;
  pad = get_or f 3 0;
  sap = get_or f 4 0;
  destination = address_at f 5;
  source = address_at f 8;
  full = get_or f 11 0;
  blocks = get_or f 12 0;
}

unfoldable pub header_from : List ℕ → HeaderAnswer
header_from f = header_for (get_or f 0 0) (common_from f) (get_or f 13 0) (get_or f 14 0) (get_or f 15 0)

-- 17 octets: sequence counter, source (3), target (3), repeater (4), timeslot, call type, stream (4)
unfoldable pub labels_from : List ℕ → Labels
labels_from f = record {
  sequence = get_or f 0 0;
  source = address_at f 1;
  target = address_at f 4;
  repeater = record { 0 = number_at f 7 };
  timeslot = get_or f 11 0;
  call = get_or f 12 0;
  stream = number_at f 13;
}

-- ---- given back

unfoldable pub size_octets : Sized → List ℕ
size_octets s = s.blocks ∷ s.pad ∷ []

-- the 16 octets of a header
unfoldable pub field_octets : ℕ → Common → ℕ → ℕ → ℕ → List ℕ
field_octets format c x y z =
    format ∷ c.group ∷ c.requested ∷ c.pad ∷ c.sap ∷ three_octets c.destination.0 ++ three_octets c.source.0
    ++ c.full ∷ c.blocks ∷ x ∷ y ∷ z ∷ []

unfoldable pub header_octets : Header → List ℕ
header_octets (Response c class type status) = field_octets 1 c class type status
header_octets (Unconfirmed c fsn) = field_octets 2 c fsn 0 0
header_octets (Confirmed c s ns fsn) = field_octets 3 c s ns fsn

-- serial, 10 of data
unfoldable pub block_octets : BlockRead → List ℕ
block_octets b = b.serial ∷ b.octets

-- class, type, status, SAP, destination (3), source (3), 8 of flags
unfoldable pub response_octets : ResponseAnswer → List ℕ
response_octets a =
    a.class ∷ a.kind ∷ a.status ∷ a.sap ∷ three_octets a.destination.0 ++ three_octets a.source.0 ++ a.flags

-- colour code, data type, 12 of information
unfoldable pub burst_octets : BurstRead → List ℕ
burst_octets b = b.colour ∷ b.datatype ∷ b.info

-- the 17 octets of the labels, colour code, data type, 12 of information
unfoldable pub label_layout : Labels → List ℕ
label_layout l =
    l.sequence ∷ three_octets l.source.0 ++ three_octets l.target.0 ++ four_octets l.repeater.0
    ++ l.timeslot ∷ l.call ∷ four_octets l.stream

unfoldable pub datagram_octets : DatagramRead → List ℕ
datagram_octets d = label_layout d.labels ++ d.colour ∷ d.datatype ∷ d.info
