-- `listings::close` meets its contract.
-- Assumes nothing.
use Rattle.std.proofs.Common.{sym, ◌∙◌, arith}
use Rattle.captures.specs.Lines.{closing}
use Rattle.captures.proofs.Lines.{length-closing}
use Rattle.texts.proofs.Writing.{end_within, end_inside, put_front}
use Rattle.listings.proofs.close.Goals as goal

pub returns : goal.returns
returns c =
    let a = c.args in
    let k = c.close in
    let last = closing a.listing a.c in
    let few = length-closing a.c (omega arith) (omega arith) (omega arith) a.listing in
    let long = k.ensures.0 ∙ sym (end_inside a.text.now 0 last (omega (arith, few, c.requires))) in (
      omega (arith, k.ensures.0, end_within a.text.now 0 last (omega arith), k.auto.text),
      put_front last a.text.now k.new.text k.result (omega (arith, few, c.requires)) (omega (arith, long)) k.ensures.1,
    )
