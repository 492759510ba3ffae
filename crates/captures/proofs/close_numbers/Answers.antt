-- `captures::close_numbers` meets its contract.
-- Assumes nothing.
use mathlib.Core.Path.{◌≡◌, sym, ap, subst, ◌∙◌}
use mathlib.Core.List.{List}
use Prim.Native.Nat.{ℕ}
use native.Mathlib.Omega.{arith}
use lib.ListN.{length, take}
use lib.Seq.{length-take-le}
use Rattle.std.proofs.Common.{rules}
use Rattle.texts.specs.Texts.{Writes}
use Rattle.texts.proofs.Writing.{taken_front, writes_front}
use Rattle.captures.specs.Lines.{end_line}
use Rattle.captures.proofs.Lines.{length_end}
use Rattle.captures.proofs.close_numbers.Goals as goal

pub slice_bounds-line-end : goal.slice_bounds-line-end
slice_bounds-line-end c =
    omega (arith, c.put_end.ensures.end, c.new-last.ensures.2, length_end c.args.c (omega arith) (omega arith) (omega arith))

pub slice_bounds-word-end : goal.slice_bounds-word-end
slice_bounds-word-end c =
    sym (length-take-le _ _ (omega (arith, c.put_end.ensures.end, c.new-last.ensures.2, length_end c.args.c (omega arith) (omega arith) (omega arith))))

pub returns : goal.returns
returns c =
    let a = c.args in
    let new = c.new-last in
    let few = length_end a.c (omega arith) (omega arith) (omega arith) in
    let room : length new.result.text.now ≡ 67 = search rules in
    let line = taken_front (end_line a.c) new.result c.put_end.new.out new.ensures.2 (omega (arith, few, room)) c.put_end.ensures in
    let last = writes_front _ a.text.now _ _ c.new-out.ensures.1 c.new-out.ensures.2
    (subst (λ (os : List ℕ). Writes os c.new-out.result c.word.new.self) (ap (take c.put_end.new.out.end) (search rules) ∙ line) c.word.ensures) in
    (last.0, (search rules) ∙ last.1)
