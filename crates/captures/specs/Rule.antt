-- What the history rule of document 01 gives for datagrams in order: what is said of each, and the transaction after it.
-- Assumes nothing.
use Rattle.std.specs.Prelude.{List, [], ◌∷◌, ℕ}
use Rattle.addresses.specs.declared.RadioAddress.{RadioAddress}
use Rattle.history.specs.History.{History}
use Rattle.reception.specs.Rule.{said_to_datagram, rule_after}
use Rattle.captures.specs.Lines.{Outcome}

unfoldable pub outcomes_by_rule : RadioAddress → History → List (List ℕ) → List Outcome
outcomes_by_rule own p [] = []
outcomes_by_rule own p (d ∷ ds) =
    record { said = said_to_datagram own p d; transaction = (rule_after own p d).transaction } ∷ outcomes_by_rule own (rule_after own p d) ds

-- the history after datagrams
unfoldable pub history_over : RadioAddress → History → List (List ℕ) → History
history_over own p [] = p
history_over own p (d ∷ ds) = history_over own (rule_after own p d) ds
