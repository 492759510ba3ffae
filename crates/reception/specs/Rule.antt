-- What a datagram is to the history rule of document 01: a refusal, which changes nothing, or the header or the block that it carries.
-- Assumes nothing.
use Rattle.std.specs.Prelude.{cond, List, ℕ, eqb}
use Rattle.addresses.specs.declared.RadioAddress.{RadioAddress}
use Rattle.bursts.specs.declared.burst.Kind.{Kind}
use Rattle.bursts.specs.declared.burst.Kind.TheVariants.{Header, Block, Other}
use Rattle.datagrams.specs.Datagrams.{datagram_number}
use Rattle.transactions.specs.Answers.{Said, refused}
use Rattle.history.specs.History.{header, block, History, after, said_to}
use Rattle.reception.specs.Reception.{arrival_of}

-- what the rule says to the octets of a header or of a block, and the history after them; other octets are refused
unfoldable pub said_to_carried : RadioAddress → History → Kind → List ℕ → Said
said_to_carried own p Header os = said_to own p (header os)
said_to_carried own p Block os = said_to own p (block os)
said_to_carried own p Other os = refused 5

unfoldable pub after_carried : RadioAddress → History → Kind → List ℕ → History
after_carried own p Header os = after own p (header os)
after_carried own p Block os = after own p (block os)
after_carried own p Other os = p

-- a datagram's own number comes first
unfoldable pub said_to_datagram : RadioAddress → History → List ℕ → Said
said_to_datagram own p d =
    cond (eqb (datagram_number d) 0) (said_to_carried own p (arrival_of d).kind (arrival_of d).octets) (refused (datagram_number d))

unfoldable pub rule_after : RadioAddress → History → List ℕ → History
rule_after own p d = cond (eqb (datagram_number d) 0) (after_carried own p (arrival_of d).kind (arrival_of d).octets) p
