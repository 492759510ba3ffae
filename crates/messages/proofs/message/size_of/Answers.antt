-- `messages::message::size_of` meets its contract.
-- Assumes nothing.
use mathlib.Core.Path.{ap}
use native.Mathlib.Omega.{arith}
use Rattle.foundation.specs.Refusals.{refusal, outcome}
use Rattle.messages.specs.Messages.{blocks_of, pad_of, size_given}
use Rattle.messages.proofs.MessageParts.{size-refused, size-accepted}
use Rattle.messages.proofs.message.size_of.Goals as goal

pub returns-then-octets-gt-MOST_OCTETS : goal.returns-then-octets-gt-MOST_OCTETS
unfolding size_given outcome refusal
returns-then-octets-gt-MOST_OCTETS c = ap size_given (size-refused c.args.octets c.if-octets-gt-MOST_OCTETS.true)

pub returns : goal.returns
unfolding blocks_of pad_of size_given outcome
returns c = ap size_given (size-accepted c.args.octets c.if-octets-gt-MOST_OCTETS.false _ _ (omega arith) (omega arith))
