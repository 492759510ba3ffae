-- `capi::writing::kirruskabe_write_header` meets its contract.
-- Assumes nothing.
use mathlib.Core.Path.{◌∙◌}
use mathlib.Core.List.{List, []}
use Prim.Native.Nat.{ℕ, ◌<◌}
use Rattle.layouts.specs.Layouts.{header_from}
use Rattle.layouts.specs.Lent.{Answer}
use Rattle.layouts.proofs.Giving.{refused_with_1, by_outcome}
use Rattle.capi.specs.Answers.{header_written, fields_written}
use Rattle.capi.proofs.Behind.{behind-none, past_size, short, behind_as}
use Rattle.capi.proofs.PacketNumbers.{fields_few}
use Rattle.capi.proofs.writing.kirruskabe_write_header.Goals as goal

from_few : (f : List ℕ) → (header_written (header_from f)).0 < 20
unfolding header_from
from_few f = fields_few _ _ _ _ _

pub returns-then-fields-ne16 : goal.returns-then-fields-ne16
unfolding fields_written
returns-then-fields-ne16 c = let a = c.args in refused_with_1 12 _ a.out.now (short _ a.fields.now 16 [] c.if-fields-ne16.true)

pub returns : goal.returns
unfolding fields_written
returns c =
    let f = c.args.fields.now in
    let w : Answer = header_written (header_from f) in
    behind_as w.0 w.0 w.1 _ (past_size w.0 f 16 [] c.if-fields-ne16.false ∙ behind-none w.0)
    (by_outcome w.0 w.1 c.header_written.ensures (from_few f) c.give_result.ensures)
