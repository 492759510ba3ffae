-- `close` of `listings::Lister` meets its contract.
-- Assumes nothing.
use Rattle.std.proofs.Common.{sym, ◌∙◌}
use Rattle.captures.specs.Captures.{running}
use Rattle.listings.proofs.Turning.{printed-none}
use Rattle.listings.proofs.ListerPrinter.close.Goals as goal

pub returns : goal.returns
returns c =
    let s = c.args.self.now in
    (c.close.ensures.0, c.close.ensures.1 ∙ sym (printed-none s.listing (running s.gateway s.store)))
