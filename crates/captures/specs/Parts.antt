-- What private functions require and give: nothing that a reader has to believe.
-- Assumes nothing.
use Rattle.std.specs.Prelude.{List, ℕ}
use Rattle.transactions.specs.Answers.{number_of}
use Rattle.captures.specs.declared.Listing.{Listing}
use Rattle.captures.specs.declared.Listing.TheVariants.{Numbers, Deliveries}
use Rattle.captures.specs.Lines.{Outcome, number_line, delivery_line}

-- one line of a listing
unfoldable pub listed_line : Listing → ℕ → Outcome → List ℕ
listed_line Numbers i o = number_line i (number_of o.said)
listed_line Deliveries i o = delivery_line i o.transaction o.said
