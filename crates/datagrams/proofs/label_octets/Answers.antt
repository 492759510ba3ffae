-- `datagrams::label_octets` meets its contract.
-- Assumes nothing.
use Rattle.std.proofs.Common.{arith}
use Rattle.datagrams.specs.Datagrams.{label_octets}
use Rattle.datagrams.proofs.DatagramWriting.{fit_bits}
use Rattle.datagrams.proofs.label_octets.Goals as goal

pub overflow_mul-octet : goal.overflow_mul-octet
overflow_mul-octet c = omega (arith, fit_bits c.args.labels c.requires.0)

pub overflow_mul-octet-2 : goal.overflow_mul-octet-2
overflow_mul-octet-2 c = omega (arith, fit_bits c.args.labels c.requires.0)

pub overflow_add-octet : goal.overflow_add-octet
overflow_add-octet c = omega (arith, fit_bits c.args.labels c.requires.0)

pub overflow_add-octet-2 : goal.overflow_add-octet-2
overflow_add-octet-2 c = omega (arith, fit_bits c.args.labels c.requires.0)

pub overflow_add-octet-3 : goal.overflow_add-octet-3
overflow_add-octet-3 c = omega (arith, fit_bits c.args.labels c.requires.0)

pub returns : goal.returns
unfolding label_octets
returns c = rw (c.octets-s.ensures, c.octets-t.ensures, c.octets-n.ensures, c.to_be_bytes-m.ensures)
