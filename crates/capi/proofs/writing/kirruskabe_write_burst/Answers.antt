-- `capi::writing::kirruskabe_write_burst` meets its contract.
-- Assumes nothing.
use mathlib.Core.Path.{◌∙◌}
use mathlib.Core.List.{[]}
use native.Mathlib.Omega.{arith}
use lib.Dec.{lit<}
use Rattle.bursts.specs.Bursts.{BurstOctets, write_burst, burst_octets_given}
use Rattle.layouts.specs.Layouts.{sync_of}
use Rattle.layouts.proofs.Giving.{refused_with_1, by_outcome}
use Rattle.capi.specs.Answers.{burst_written}
use Rattle.capi.proofs.Behind.{behind-none, past_size, short, past_most, over_most, behind_as, unwritable}
use Rattle.capi.proofs.BurstNumbers.{burst_written_few}
use Rattle.capi.proofs.writing.kirruskabe_write_burst.Goals as goal

pub returns-in_default : goal.returns-in_default
unfolding burst_written
returns-in_default c = let a = c.args in refused_with_1 33 _ a.out.now (short _ a.info.now 12 _ c.in_default.ensures.cases)

pub returns-then-sync-gt1 : goal.returns-then-sync-gt1
unfolding burst_written
returns-then-sync-gt1 c =
    let a = c.args in
    let w : BurstOctets = write_burst a.colour a.datatype a.info.now (sync_of a.sync) in
    behind_as w.number 16 w.octets _ (past_size w.number a.info.now 12 _ c.in-Some.ensures.cases.long ∙ over_most w.number a.sync 1 [] c.if-sync-gt1.true)
    (by_outcome 16 w.octets (unwritable w.octets) (lit< tt) c.give_result.ensures)

pub returns : goal.returns
unfolding burst_written burst_octets_given
returns c =
    let a = c.args in
    let w : BurstOctets = write_burst a.colour a.datatype a.info.now (sync_of a.sync) in
    let info = c.in-Some.ensures.cases in
    let sync = c.sync_of-s.ensures in
    behind_as w.number w.number w.octets _
    (past_size w.number a.info.now 12 _ info.long ∙ past_most w.number a.sync 1 [] (omega (arith, c.if-sync-gt1.false)) ∙ behind-none w.number)
    (by_outcome w.number w.octets (c.write.ensures.gives ∙ (λ i. burst_octets_given (write_burst a.colour a.datatype (info.same i) (sync i))))
    (burst_written_few a.colour a.datatype a.info.now (sync_of a.sync)) c.give_result-2.ensures)
