-- `texts::Writer::decimal` meets its contract.
-- Assumes nothing.
use mathlib.Core.Path.{subst, ◌∙◌}
use mathlib.Core.List.{List}
use Prim.Native.Nat.{ℕ}
use Rattle.texts.specs.Texts.{Writes}
use Rattle.texts.proofs.Decimals.{spelled}
use Rattle.texts.proofs.Writer.decimal.Goals as goal

pub returns : goal.returns
returns c =
    let a = c.args in
    let d = c.decimal-k in
    subst (λ (os : List ℕ). Writes os a.self.now c.word.new.self) (d.ensures.digits ∙ spelled a.n d.result d.ensures.len) c.word.ensures
