-- `replays::answer_all` meets its contract.
-- Assumes nothing.
use mathlib.Core.Path.{refl}
use native.Mathlib.Omega.{arith}
use Rattle.logs.specs.Log.{state_of}
use Rattle.replays.proofs.Runs.{midway_start, midway_room, midway_more, midway_end, midway_last}
use Rattle.replays.proofs.answer_all.Goals as goal

pub loop-i-init : goal.loop-i-init
loop-i-init c =
    let a = c.args in (midway_start (state_of a.rx a.store.now) a.octets.now a.last a.most a.out.now (omega arith), refl)

pub returns-in_default : goal.returns-in_default
returns-in_default c =
    let a = c.args in
    let l = c.loop-i in
    let none = c.in_default.ensures in
    midway_end (state_of a.rx a.store.now) a.octets.now a.last a.most a.out.now l.i l.now.taken (state_of l.now.receiver l.store) l.out l.invariant.0
    (none.no_more _) (none.no_octets_lem _) l.now.end l.invariant.1

pub answer-receiver-requires : goal.answer-receiver-requires
answer-receiver-requires c =
    let a = c.args in
    let l = c.loop-i in
    midway_room (state_of a.rx a.store.now) a.octets.now a.last a.most a.out.now l.i l.now.taken (state_of l.now.receiver l.store) l.out l.invariant.0
    c.requires c.loop-i-test.true

pub loop-i-preserved : goal.loop-i-preserved
loop-i-preserved c =
    let a = c.args in
    let l = c.loop-i in
    let w = c.answer-receiver.ensures in (
      midway_more (state_of a.rx a.store.now) a.octets.now a.last a.most a.out.now l.i l.now.taken (state_of l.now.receiver l.store) l.out l.invariant.0
          c.requires c.in-Some.c c.loop-i-test.true c.in-Some.ensures _ _ w.0 w.1 (omega arith),
      refl,
    )

pub returns : goal.returns
returns c =
    let a = c.args in
    let l = c.loop-i in
    let e = midway_last (state_of a.rx a.store.now) a.octets.now a.last a.most a.out.now l.i l.now.taken (state_of l.now.receiver l.store) l.out l.invariant.0 c.loop-i-test.false in
    midway_end (state_of a.rx a.store.now) a.octets.now a.last a.most a.out.now l.i l.now.taken (state_of l.now.receiver l.store) l.out l.invariant.0
    e.0 e.1 l.now.end l.invariant.1
