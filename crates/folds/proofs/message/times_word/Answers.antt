-- `folds::message::times_word` meets its contract.
-- Assumes nothing.
use mathlib.Core.Path.{◌≡◌, sym, ap, ◌∙◌}
use mathlib.Core.Bool.{Bool, cond}
use native.Mathlib.Omega.{arith}
use lib.ListN.{length}
use borrow.Author.Tests.{eq-eqb}
use Rattle.folds.specs.Folds.{looked}
use Rattle.folds.proofs.Tables.{looked_first, looked_none, looked_more, looked_eight}
use Rattle.folds.proofs.message.times_word.Goals as goal

pub loop-k-init : goal.loop-k-init
loop-k-init c = looked_none c.args.table.now c.args.x

pub loop-k-preserved : goal.loop-k-preserved
loop-k-preserved c = looked_more c.args.table.now c.args.x c.loop-k.k c.loop-k.sum c.loop-k.invariant

pub returns : goal.returns
returns c =
    let t = c.args.table.now in
    let x = c.args.x in
    let last : c.loop-k.k ≡ 8 = omega arith in
    c.loop-k.invariant ∙ ap (looked_first t x) last ∙ looked_eight t x
    ∙ sym (ap (λ (b : Bool). cond b (looked t x) 0) (eq-eqb (length t) 128 c.if-table-ne128.false))
