-- `packets::header::read_fields` meets its contract.
-- Assumes nothing.
use native.Mathlib.Omega.{arith}
use Rattle.packets.proofs.HeaderReading.{format_1, format_2, format_3}
use Rattle.packets.proofs.header.read_fields.Goals as goal

pub returns-in-1 : goal.returns-in-1
returns-in-1 c =
    let h = c.args.h.now in
    format_1 h _ c.read_common-c.ensures _ _ _ (omega arith) (omega arith) (omega arith) (omega arith)

pub returns-in-2 : goal.returns-in-2
returns-in-2 c =
    let h = c.args.h.now in
    format_2 h _ c.read_common-c.ensures _ (omega arith) (omega arith)

pub returns-in_default : goal.returns-in_default
returns-in_default c =
    let h = c.args.h.now in
    format_3 h _ c.read_common-c.ensures _ _ _ (λ e. omega arith) (λ e. omega arith) (omega arith) (omega arith) (omega arith)
