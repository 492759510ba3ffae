-- The worked examples of document 01 that concern messages and responses and are marked P, and for FSN and a SACK's block count, on which
-- none of these depends, one each.
-- Assumes nothing.
use Rattle.std.specs.Prelude.{◌≡◌, get_or}
use Rattle.packets.specs.Headers.{written_header}
use Rattle.messages.specs.Messages.{size_of, attempt_header}
use Rattle.messages.specs.Responses.{response_header}
use Rattle.messages.specs.declared.message.Delivery.{Delivery}
use Rattle.messages.specs.declared.response.Reply.TheVariants.{Ack, Nack, Sack}

pub record MessageExamples : Type 0 where
  -- number, blocks and pad
  pub size_0 : size_of 0 ≡ record { number = 0; blocks = 1; pad = 6 }
  pub size_6 : size_of 6 ≡ record { number = 0; blocks = 1; pad = 0 }
  pub size_7 : size_of 7 ≡ record { number = 0; blocks = 2; pad = 9 }
  pub size_626 : size_of 626 ≡ record { number = 0; blocks = 63; pad = 0 }
  pub size_627 : (size_of 627).number ≡ 16
  -- octet 9
  pub ack : (d : Delivery) → d.ns ≡ 5 → get_or (written_header (response_header Ack d)) 9 0 ≡ 0x0D
  pub nack : (d : Delivery) → d.ns ≡ 5 → get_or (written_header (response_header Nack d)) 9 0 ≡ 0x4D
  pub sack : (d : Delivery) → d.ns ≡ 5 → get_or (written_header (response_header Sack d)) 9 0 ≡ 0x85
  -- a message of 13 octets in two blocks
  pub fsn : (d : Delivery) → d.ns ≡ 5 → get_or (written_header (attempt_header 13 d 1 2)) 9 0 ≡ 0x58
  -- octet 8
  pub one_block : (d : Delivery) → get_or (written_header (response_header Sack d)) 8 0 ≡ 1
