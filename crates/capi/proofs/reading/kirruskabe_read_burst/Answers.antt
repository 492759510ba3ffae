-- `capi::reading::kirruskabe_read_burst` meets its contract.
-- Assumes nothing.
use Rattle.bursts.specs.Bursts.{read_burst, burst_given}
use Rattle.layouts.specs.Layouts.{burst_octets}
use Rattle.layouts.proofs.Giving.{by_outcome}
use Rattle.capi.specs.Answers.{burst_read}
use Rattle.capi.proofs.BurstNumbers.{burst_few}
use Rattle.capi.proofs.Making.{made_of}
use Rattle.capi.proofs.reading.kirruskabe_read_burst.Goals as goal

pub returns : goal.returns
unfolding burst_read burst_octets burst_given
returns c =
    let b = c.args.burst.now in
    let x = read_burst b in
    by_outcome x.number (burst_octets x) (made_of _ x.number _ _ c.read.ensures c.map.ensures.cases (λ y p. p)) (burst_few b) c.give_result.ensures
