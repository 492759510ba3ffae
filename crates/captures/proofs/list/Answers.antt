-- `captures::list` meets its contract.
-- Assumes nothing.
use mathlib.Core.Path.{ap}
use native.Mathlib.Omega.{arith}
use lib.ListN.{length}
use Rattle.std.proofs.Common.{rules, ◌∙◌}
use Rattle.texts.proofs.Writing.{wrote_front}
use Rattle.captures.specs.Captures.{datagrams_answered, octets_of}
use Rattle.captures.proofs.Lists.{other_store, no_line-room, lists, count_inside, count_room}
use Rattle.captures.proofs.list.Goals as goal

pub returns-in_default : goal.returns-in_default
returns-in_default c =
    let a = c.args in
    other_store a.listing a.g a.store.now a.octets.now a.last a.text.now c.in_default.ensures.cases

pub returns-then-room-line_room : goal.returns-then-room-line_room
returns-then-room-line_room c =
    let a = c.args in
    let whole = c.in-Some.ensures.cases in
    rw whole.same
    (no_line-room a.listing a.g a.store.now a.octets.now a.last a.text.now whole.long (omega (arith, c.line_room.ensures, c.if-room-line_room.true)))

pub answer_all-gateway-requires : goal.answer_all-gateway-requires
answer_all-gateway-requires c =
    let a = c.args in
    let room = length a.text.now in
    let k = c.count-k in (
      count_inside a.listing a.last (length a.octets.now) room k.result k.ensures,
      omega (arith, ap length c.new-out.ensures.1, c.new-out.ensures.2, count_room a.listing a.last (length a.octets.now) room k.result k.ensures),
    )

pub returns : goal.returns
unfolding datagrams_answered octets_of
returns c =
    let a = c.args in
    let whole = c.in-Some.ensures.cases in
    let w = c.answer_all-gateway.ensures in
    let left = rw whole.same at w.0 in
    let p = rw whole.same at w.1 in
    let front = wrote_front _ a.text.now _ _ c.new-out.ensures.1 c.new-out.ensures.2 p.wrote in
    lists a.listing a.g a.store.now a.octets.now a.last a.text.now whole.long (omega (arith, c.line_room.ensures, c.if-room-line_room.false))
    c.count-k.result c.count-k.ensures _ _ _ _ _ left front.1 (search rules ∙ front.0) (omega (arith, p.most, c.new-out.ensures.2)) c.octets_of.ensures
