-- `replays::put_line` meets its contract.
-- Assumes nothing.
use mathlib.Core.Path.{◌≡◌}
use Prim.Native.Nat.{◌+◌, ◌*◌}
use native.Mathlib.Omega.{arith}
use lib.ListN.{get_or}
use Rattle.replays.proofs.Text.{octets-written}
use Rattle.replays.proofs.put_line.Goals as goal

pub returns : goal.returns
returns c =
    let a = c.args in
    let n : c.from_be_bytes-n.result ≡ 256 * get_or a.line.now 1 0 + get_or a.line.now 2 0 = omega (arith, c.from_be_bytes-n.ensures) in
    octets-written a.out.now _ a.line.now c.shorter-size.result c.from.result (rw n at c.shorter-size.ensures) c.from.ensures c.put_contents.ensures
