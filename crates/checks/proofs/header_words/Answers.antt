-- `checks::header_words` meets its contract.
-- Assumes nothing.
use mathlib.Core.Path.{◌≡◌, ap, ◌∙◌}
use Prim.Native.Nat.{ℕ, ◌+◌, ◌*◌, ◌%◌, ◌≤◌}
use native.Mathlib.Omega.{arith}
use lib.ListN.{length, take, length-take}
use Rattle.foundation.specs.Bits.{octet_bit, value_of}
use Rattle.polynomials.specs.Remainder.{remainder}
use Rattle.folds.specs.Folds.{header_fourth}
use Rattle.foundation.proofs.OctetWords.{whole_word}
use Rattle.folds.proofs.Octets.{header-first, header_more}
use Rattle.foundation.proofs.Chunks.{value-front}
use Rattle.checks.proofs.header_words.Goals as goal

pub loop-i-init : goal.loop-i-init
loop-i-init c =
    let os = c.args.octets.now in
    let m : ℕ = length os % 8 in
    let front : length (take m os) ≡ m = omega (arith, length-take m os) in (
      omega arith,
      omega arith,
      c.front-w.ensures ∙ ap (λ (k : ℕ). value_of (octet_bit (take m os)) 0 (8 * k)) front ∙ value-front os m ∙ header-first os m (omega arith),
    )

pub loop-i-preserved : goal.loop-i-preserved
loop-i-preserved c =
    let os = c.args.octets.now in
    let t = c.loop-i in
    let enough : t.i + 8 ≤ length os = omega (arith, t.invariant.1) in (
      enough,
      omega (arith, t.invariant.1),
      c.take_word-w.ensures ∙ header_more os t.i t.w c.whole_word.result t.invariant.2 (c.whole_word.ensures ∙ whole_word os t.i enough),
    )

pub returns-2 : goal.returns-2
returns-2 c =
    let os = c.args.octets.now in
    let t = c.loop-i in
    let enough : t.i + 8 ≡ length os = omega (arith, t.invariant.1) in
    c.take_word-w.ensures ∙ header_more os t.i t.w c.whole_word.result t.invariant.2 (c.whole_word.ensures ∙ whole_word os t.i (omega arith))
    ∙ ap (λ (j : ℕ). remainder 64 header_fourth (octet_bit os) (8 * j)) enough
