-- What private functions give: nothing that a reader has to believe.
-- Assumes nothing.
use Rattle.std.specs.Prelude.{Bool, true, cond, not, List, [], ◌∷◌, ℕ, eqb}
use Rattle.foundation.specs.Order.{every, all}
use Rattle.transactions.specs.Flags.{flag_count, flagged}
use Rattle.receiver_state.specs.Receiver.{none_from}

-- the flags of so many blocks in a phase
unfoldable pub flags_good : ℕ → ℕ → List ℕ → Bool
flags_good phase blocks flags =
    all (none_from blocks flags flag_count
    ∷ cond (eqb phase 1) (not (every blocks (flagged flags))) true ∷ cond (eqb phase 2) (every blocks (flagged flags)) true ∷ [])
