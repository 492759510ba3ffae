-- `captures::Listing::close` meets its contract.
-- Assumes nothing.
use mathlib.Core.List.{[]}
use native.Mathlib.Omega.{arith}
use Rattle.texts.proofs.Writing.{end_inside, put-none}
use Rattle.captures.specs.Lines.{closing}
use Rattle.captures.proofs.Listing.close.Goals as goal

pub returns-in-Deliveries : goal.returns-in-Deliveries
unfolding closing
returns-in-Deliveries c =
    let d = c.args.text.now in
    rw c.in-Deliveries.is (end_inside d 0 [] (omega arith), put-none d 0)
