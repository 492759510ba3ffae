-- `transactions::flags::Flags::every_between` meets its contract.
-- Assumes nothing.
-- every block of word j is as wanted
use mathlib.Core.Path.{◌≡◌, refl, sym, ap, ◌∙◌}
use mathlib.Core.Bool.{Bool, true}
use mathlib.Core.List.{List}
use Prim.Native.Nat.{ℕ, ◌+◌, ◌*◌}
use Rattle.std.proofs.Common.{add-one}
use native.Mathlib.Omega.{arith}
use borrow.Author.Tests.{eq-eqb, ne_eqb}
use Rattle.foundation.specs.Order.{every}
use Rattle.transactions.specs.Parts.{word_count, as_wanted}
use Rattle.foundation.proofs.Every.{every_runs, every_fails}
use Rattle.transactions.proofs.FlagWords.{word_decides}
use Rattle.transactions.proofs.flags.Flags.every_between.Goals as goal

abbrev word-wanted : List ℕ → ℕ → ℕ → Bool → ℕ → Bool
word-wanted flags from to wanted j = every 64 (λ i. as_wanted flags from to wanted (64 * j + i))

one_more : (f : ℕ → Bool) (j : ℕ) → f j ≡ true → every j f ≡ true → every (j + 1) f ≡ true
one_more f j t e = rw (add-one, t) e

pub loop-j-init : goal.loop-j-init
loop-j-init c = refl

pub returns-then-held-expected : goal.returns-then-held-expected
returns-then-held-expected c =
    let j = c.loop-j.j in
    let a = c.args in
    let f = as_wanted a.self.octets a.from a.to a.wanted in
    sym (every_runs f 64 word_count ∙ every_fails (word-wanted a.self.octets a.from a.to a.wanted) word_count j (omega arith)
    (sym (word_decides a.self.octets a.from a.to a.wanted _ _ _ _ c.word.ensures c.between-blocks.ensures c.due-expected.ensures) ∙ ne_eqb _ _ c.if-held-expected.true))

pub loop-j-preserved : goal.loop-j-preserved
loop-j-preserved c =
    let a = c.args in
    one_more (word-wanted a.self.octets a.from a.to a.wanted) c.loop-j.j
    (sym (word_decides a.self.octets a.from a.to a.wanted _ _ _ _ c.word.ensures c.between-blocks.ensures c.due-expected.ensures) ∙ eq-eqb _ _ c.if-held-expected.false)
    c.loop-j.invariant

pub returns : goal.returns
returns c =
    let a = c.args in
    let done : c.loop-j.j ≡ word_count = omega arith in
    let f = word-wanted a.self.octets a.from a.to a.wanted in
    sym (every_runs (as_wanted a.self.octets a.from a.to a.wanted) 64 word_count ∙ sym (ap (λ (j : ℕ). every j f) done) ∙ c.loop-j.invariant)
