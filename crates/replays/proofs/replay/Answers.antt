-- `replays::replay` meets its contract.
-- Assumes nothing.
use native.Mathlib.Omega.{arith}
use Rattle.std.proofs.Common.{rules, ◌∙◌}
use Rattle.texts.proofs.Writing.{wrote_front}
use Rattle.replays.proofs.Replays.{other_store, no_line-room, replays}
use Rattle.replays.proofs.replay.Goals as goal

pub returns-in_default : goal.returns-in_default
returns-in_default c =
    let a = c.args in
    other_store a.rx a.store.now a.octets.now a.last a.text.now c.in_default.ensures.cases

pub returns-then-room-lt-ROOM : goal.returns-then-room-lt-ROOM
returns-then-room-lt-ROOM c =
    let a = c.args in
    let whole = c.in-Some.ensures.cases in
    rw whole.same (no_line-room a.rx a.store.now a.octets.now a.last a.text.now whole.long c.if-room-lt-ROOM.true)

pub returns : goal.returns
returns c =
    let a = c.args in
    let whole = c.in-Some.ensures.cases in
    let w = c.answer_all.ensures in
    let left = rw whole.same at w.0 in
    let p = rw whole.same at w.1 in
    let front = wrote_front _ a.text.now _ _ c.new-out.ensures.1 c.new-out.ensures.2 p.wrote in
    replays a.rx a.store.now a.octets.now a.last a.text.now whole.long c.if-room-lt-ROOM.false (λ j. (c.type_inv.octets j).fits)
    _ _ _ _ _ left (w.2 ∙ front.1) (search rules ∙ front.0) (omega (arith, p.most, w.2, c.new-out.ensures.2)) w.3 w.4
