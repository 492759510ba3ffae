-- `interleaver::writing::octets` meets its contract.
-- Assumes nothing.
use mathlib.Core.Path.{refl, ap, ◌∙◌}
use Prim.Native.Nat.{◌/◌, ◌^◌}
use native.Mathlib.Omega.{arith}
use Rattle.polynomials.specs.Words.{up}
use Rattle.interleaver.specs.Lanes.{turned_square}
use Rattle.interleaver.specs.Writing.{groups_of}
use Rattle.interleaver.proofs.Made.{octets-sent}
use Rattle.interleaver.proofs.writing.octets.Goals as goal

pub returns : goal.returns
returns c =
    let x = c.turned-x in
    let a = c.five_runs-a in
    let b = c.five_runs-b in
    let e = c.five_runs-c in
    c.field_of.ensures
    ∙ octets-sent c.args.m x.result (x.ensures ∙ ap turned_square (c.groups.ensures ∙ ap groups_of c.words.ensures)) a.result b.result e.result (up 60 (x.result.a / 2 ^ 48))
    (omega (arith, a.type_inv)) (omega (arith, b.type_inv)) (omega (arith, e.type_inv)) (omega arith) a.ensures b.ensures e.ensures refl
