-- `interleaver::writing::words` meets its contract.
-- Assumes nothing.
use mathlib.Core.Path.{◌≡◌}
use Prim.Native.Nat.{◌%◌, ◌^◌}
use lib.ListN.{length, get_or}
use Rattle.std.proofs.Common.{rules}
use Rattle.foundation.proofs.Runs.{tabulated}
use Rattle.interleaver.specs.Writing.{fifteen}
use Rattle.interleaver.proofs.writing.words.Goals as goal

pub returns : goal.returns
unfolding fifteen
returns c =
    let long : length c.map.result ≡ 13 = search rules in
    tabulated 13 (λ k. get_or c.args.m k 0 % 2 ^ 15) c.map.result long (λ k h. let call = c.map.ensures.items.at k 0 0 h in search rules)
