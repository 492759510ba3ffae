-- `texts::put_digits` meets its contract.
-- Assumes nothing.
use native.Mathlib.Omega.{arith}
use Rattle.texts.proofs.Writing.{spelled_none, spelled_more, spelled_all}
use Rattle.texts.proofs.put_digits.Goals as goal

pub loop-i-init : goal.loop-i-init
loop-i-init c = let a = c.args in spelled_none a.text.now a.at a.octets.now c.requires

pub loop-i-preserved : goal.loop-i-preserved
loop-i-preserved c =
    let l = c.loop-i in
    let a = c.args in
    spelled_more a.text.now a.at a.octets.now c.requires l.i l.text l.invariant c.digit.result c.digit-in-loop-i.result c.loop-i-test.true
    c.digit.ensures c.digit-in-loop-i.ensures (c.type_inv.octets l.i).fits

pub returns : goal.returns
returns c =
    let l = c.loop-i in
    let a = c.args in
    spelled_all a.text.now a.at a.octets.now c.requires l.i l.text l.invariant (omega arith)
