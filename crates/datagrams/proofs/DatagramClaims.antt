-- The claims of datagrams hold.
-- Assumes nothing.
use Rattle.std.proofs.Common.{◌≡◌, refl}
use Rattle.datagrams.specs.Datagrams.{next_sequence}
use Rattle.datagrams.specs.DatagramClaims.{DatagramClaims}
use Rattle.datagrams.proofs.DatagramNumbers.{read_number}
use Rattle.datagrams.proofs.DatagramBack.{written_head, written-burst, reads_back, comes_back}
use Rattle.datagrams.proofs.DatagramRows.{zero, one, two, three, four, five, six, seven, no_other, writes, sixteen}

wraps : next_sequence 255 ≡ 0
unfolding next_sequence
wraps = refl

pub datagrams : DatagramClaims
datagrams = record {
  wraps = wraps;
  reads_back = reads_back;
  first = written_head;
  burst = written-burst;
  comes_back = comes_back;
  numbered = read_number;
  zero = zero;
  one = one;
  two = two;
  three = three;
  four = four;
  five = five;
  six = six;
  seven = seven;
  no_other = no_other;
  writes = writes;
  sixteen = sixteen;
}
