-- `replays::cut_at` meets its contract.
-- Assumes nothing.
use mathlib.Core.Path.{◌≡◌}
use Prim.Native.Nat.{◌+◌, ◌*◌}
use native.Mathlib.Omega.{arith}
use lib.ListN.{get_or}
use Rattle.replays.proofs.Records.{cut_short, short_early, short_late, cut-whole}
use Rattle.replays.proofs.cut_at.Goals as goal

pub returns-then-size-at-lt3 : goal.returns-then-size-at-lt3
returns-then-size-at-lt3 c = cut_short c.args.octets.now c.args.at c.args.last c.requires (short_early c.args.octets.now c.args.at c.args.last c.requires c.if-size-at-lt3.true) _ c.cut_short.ensures

pub returns-then-size-at : goal.returns-then-size-at
returns-then-size-at c =
    let os = c.args.octets.now in
    let at = c.args.at in
    let n : c.from_be_bytes-n.result ≡ 256 * get_or os (at + 1) 0 + get_or os (at + 2) 0 = omega (arith, c.from_be_bytes-n.ensures) in
    cut_short os at c.args.last c.requires (short_late os at c.args.last c.requires (rw n at c.if-size-at.true)) _ c.cut_short-then-size-at.ensures

pub returns : goal.returns
returns c =
    let os = c.args.octets.now in
    let at = c.args.at in
    let n : c.from_be_bytes-n.result ≡ 256 * get_or os (at + 1) 0 + get_or os (at + 2) 0 = omega (arith, c.from_be_bytes-n.ensures) in
    rw n (cut-whole os at c.args.last c.requires (omega arith) (rw n at c.if-size-at.false))
