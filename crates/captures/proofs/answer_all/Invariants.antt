-- `captures::answer_all` meets its contract.
-- Assumes nothing.
use mathlib.Core.Path.{◌≡◌}
use Rattle.std.specs.Iterator.Adapters.{take_count, take_source}
use Rattle.std.specs.Slice.Iter.{chunks_rest, chunks_size}
use Rattle.captures.specs.Captures.{datagram_size}
use Rattle.captures.proofs.Runs.{Midway}
use Rattle.captures.proofs.answer_all.Given as goal

abbrev pub invariant-loop-datagram : goal.invariant-loop-datagram
invariant-loop-datagram l =
    let left = l.datagram-iterator in
    (chunks_size (take_source left) ≡ datagram_size)
    × Midway l.listing l.fn.g l.initial.store l.fn.octets l.count l.initial.out (take_count left) (chunks_rest (take_source left)) l.now l.store l.out
