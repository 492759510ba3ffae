-- `logs::recording::put_refusal` meets its contract.
-- Assumes nothing.
use mathlib.Core.Path.{ap, ◌∙◌}
use mathlib.Core.List.{[], ◌∷◌}
use Prim.Native.Nat.{ℕ}
use Rattle.logs.specs.Numbers.{code_number}
use Rattle.logs.specs.Log.{code_of, contents_of, line_in, line_octets}
use Rattle.logs.proofs.recording.put_refusal.Goals as goal

pub returns : goal.returns
unfolding line_in code_of contents_of code_number
returns c = c.put.ensures ∙ ap (λ (n : ℕ). line_octets 0 (n ∷ [])) c.number.ensures
