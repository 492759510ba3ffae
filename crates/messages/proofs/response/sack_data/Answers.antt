-- `messages::response::sack_data` meets its contract.
-- Assumes nothing.
use mathlib.Core.Path.{ap, ◌∙◌}
use mathlib.Core.List.{List, ◌++◌}
use Prim.Native.Nat.{ℕ}
use borrow.Author.Rules.{rules}
use Rattle.messages.specs.Responses.{sack_data}
use Rattle.messages.proofs.response.sack_data.Goals as goal

pub returns : goal.returns
unfolding sack_data
returns c =
    c.joined.ensures (search (rules, c.well_formed, c.message_octets.ensures.0)) ∙ ap (λ (os : List ℕ). c.args.flags ++ os) c.message_octets.ensures.0
