-- The worked examples hold.
-- Assumes nothing.
use mathlib.Core.Path.{refl}
use Rattle.packets.specs.Headers.{header_body, with_check, written_header}
use Rattle.messages.specs.Messages.{blocks_of, pad_of, size_of, attempt_header}
use Rattle.messages.specs.Responses.{reply_code, response_header}
use Rattle.messages.specs.PacketExamples.{MessageExamples}

pub examples : MessageExamples
unfolding header_body with_check written_header blocks_of pad_of size_of attempt_header reply_code response_header
examples = record {
  size_0 = refl;
  size_6 = refl;
  size_7 = refl;
  size_626 = refl;
  size_627 = refl;
  ack = λ d e. rw e;
  nack = λ d e. rw e;
  sack = λ d e. rw e;
  fsn = λ d e. rw e;
  one_block = λ d. refl;
}
