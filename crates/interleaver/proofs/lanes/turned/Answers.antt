-- `interleaver::lanes::turned` meets its contract.
-- Assumes nothing.
use mathlib.Core.Path.{ap₂, ◌∙◌}
use Rattle.interleaver.specs.Lanes.{fours, eights, crossed_high, crossed_low, turned_by, turned_square}
use Rattle.interleaver.proofs.lanes.turned.Goals as goal

pub returns : goal.returns
unfolding turned_square turned_by
returns c =
    let p = c.swapped_both-p.ensures in
    let q = c.swapped_both-q.ensures in
    let r = c.swapped_both-r.ensures in
    let s = c.swapped_both-s.ensures in
    let first = c.crossed-first.ensures.0 ∙ ap₂ (crossed_high 4 fours) p q in
    let second = c.crossed-first.ensures.1 ∙ ap₂ (crossed_low 4 fours) p q in
    let third = c.crossed-third.ensures.0 ∙ ap₂ (crossed_high 4 fours) r s in
    let fourth = c.crossed-third.ensures.1 ∙ ap₂ (crossed_low 4 fours) r s in
    let a = c.crossed-a.ensures.0 ∙ ap₂ (crossed_high 8 eights) first third in
    let b = c.crossed-b.ensures.0 ∙ ap₂ (crossed_high 8 eights) second fourth in
    let d = c.crossed-a.ensures.1 ∙ ap₂ (crossed_low 8 eights) first third in
    let e = c.crossed-b.ensures.1 ∙ ap₂ (crossed_low 8 eights) second fourth in
    λ i. record { a = a i; b = b i; c = d i; d = e i }
