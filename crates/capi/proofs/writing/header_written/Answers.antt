-- `capi::writing::header_written` meets its contract.
-- Assumes nothing.
use mathlib.Core.Path.{sym, ap, ◌∙◌}
use Rattle.std.proofs.lemmas.Result.{err_from_is_err_and}
use Rattle.foundation.specs.Refusals.{outcome}
use Rattle.packets.specs.Headers.{HeaderAnswer, header_octets_given}
use Rattle.layouts.specs.Layouts.{header_from}
use Rattle.capi.specs.Answers.{header_written}
use Rattle.capi.proofs.PacketNumbers.{fields_refused, accepted_is}
use Rattle.capi.proofs.writing.header_written.Goals as goal

pub returns-in_err-header_from : goal.returns-in_err-header_from
unfolding header_from
returns-in_err-header_from c =
    let p = err_from_is_err_and c.from_residual.result c.from_residual.ensures.1 in
    rw (p.1, p.2) (fields_refused _ _ _ _ _ _ (sym c.header_from.ensures ∙ c.in_err-header_from.was))

pub returns : goal.returns
unfolding header_written header_octets_given
returns c =
    let f = c.args.f.now in
    c.write.ensures.0
    ∙ ap (λ (a : HeaderAnswer). outcome (header_written a).0 (header_written a).1)
    (sym (accepted_is (header_from f) _ (sym c.header_from.ensures ∙ c.in_ok-header_from.was)))
