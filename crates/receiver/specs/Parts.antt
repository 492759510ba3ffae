-- What private functions require and give: nothing that a reader has to believe.
-- Assumes nothing.
use Rattle.std.specs.Prelude.{Bool, false, cond, Result, List, ℕ, eqb}
use Rattle.foundation.specs.Refusals.{outcome}
use Rattle.foundation.specs.declared.refusal.Refusal.{Refusal}
use Rattle.packets.specs.declared.block.Block.{Block}
use Rattle.transactions.specs.Transactions.{belongs, serial_of, data_of}
use Rattle.transactions.specs.declared.header.Transaction.{Transaction}
use Rattle.receiver_state.specs.declared.Receiver.{Receiver}
use Rattle.receiver_state.specs.Receiver.{no_flags}
use Rattle.receiver.specs.Events.{Refused, Opened, Repeat, Step, answered, block_refusal}

-- a header that is for this receiver
unfoldable pub on_heard : Receiver → Transaction → Bool → Step
on_heard rx t full =
    cond (cond (eqb rx.phase 0) false (belongs rx.transaction t full)) (answered rx Repeat)
    (cond full (answered (record { own = rx.own; phase = 1; transaction = t; flags = record { octets = no_flags } }) Opened) (answered rx (Refused 12)))

-- what is given for the octets of a block
unfoldable pub block_taken : Receiver → List ℕ → List ℕ → Result Block Refusal
block_taken rx store b = outcome (block_refusal rx store b) (record { serial = serial_of b; octets = data_of b })
