-- The worked example holds, computed.
-- Assumes nothing.
use Rattle.std.proofs.Common.{refl}
use Rattle.datagrams.specs.Datagrams.{label_octets}
use Rattle.datagrams.specs.Examples.{DatagramExamples}

pub examples : DatagramExamples
unfolding label_octets
examples = record { labels = refl }
