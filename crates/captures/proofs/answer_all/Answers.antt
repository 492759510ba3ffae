-- `captures::answer_all` meets its contract.
-- Assumes nothing.
use mathlib.Core.Path.{◌∙◌}
use Rattle.std.proofs.Common.{rules}
use Rattle.captures.proofs.Runs.{midway_start, midway_room, midway_more, midway_end}
use Rattle.captures.proofs.answer_all.Goals as goal

pub loop-datagram-init : goal.loop-datagram-init
loop-datagram-init c =
    let a = c.args in (
      search rules,
      midway_start a.listing a.g a.store.now a.octets.now a.count a.out.now _ _ (search rules) (search rules) c.requires.0,
    )

pub answer-now-requires : goal.answer-now-requires
answer-now-requires c =
    let a = c.args in
    let l = c.loop-datagram in
    midway_room a.listing a.g a.store.now a.octets.now a.count a.out.now _ _ l.now l.store l.out l.invariant.1 _ c.in-Some.ensures.steps.1 c.requires.1

pub loop-datagram-preserved : goal.loop-datagram-preserved
loop-datagram-preserved c =
    let a = c.args in
    let l = c.loop-datagram in
    let w = c.answer-now in
    let steps = c.in-Some.ensures.steps in
    let size = l.invariant.0 in (
      steps.0.0 ∙ size,
      midway_more a.listing a.g a.store.now a.octets.now a.count a.out.now _ _ l.now l.store l.out l.invariant.1
          _ steps.1 _ _ steps.0.1.0 (rw size at steps.0.1.1) c.requires.1 _ _ _ w.ensures.0 w.ensures.1,
    )

pub returns : goal.returns
returns c =
    let a = c.args in
    let l = c.loop-datagram in
    midway_end a.listing a.g a.store.now a.octets.now a.count a.out.now _ _ l.now l.store l.out l.invariant.1 (λ some. (c.in-None.ensures.steps some).1.0)
