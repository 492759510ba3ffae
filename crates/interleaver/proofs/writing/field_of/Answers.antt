-- `interleaver::writing::field_of` meets its contract.
-- Assumes nothing.
use mathlib.Core.Path.{refl}
use Rattle.interleaver.specs.Writing.{field_octets}
use Rattle.interleaver.proofs.writing.field_of.Goals as goal

pub returns : goal.returns
unfolding field_octets
returns c =
    rw (
      c.copy_from_slice.ensures.after,
      c.octets_of.ensures,
      c.copy_from_slice-2.ensures.after,
      c.octets_of-2.ensures,
      c.copy_from_slice-3.ensures.after,
      c.octets_of-3.ensures,
      c.octets_of-4.ensures,
    ) refl
