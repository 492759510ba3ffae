-- `capi::writing::header_from` meets its contract.
-- Assumes nothing.
use mathlib.Core.Path.{◌∙◌}
use Rattle.packets.specs.Headers.{header_for, header_given}
use Rattle.layouts.specs.Layouts.{header_from}
use Rattle.capi.proofs.writing.header_from.Goals as goal

pub returns : goal.returns
unfolding header_from
returns c =
    let format = c.at.ensures in
    let common = c.common_from.ensures in
    let x = c.at-2.ensures in
    let y = c.at-3.ensures in
    let z = c.at-4.ensures in
    c.for_format.ensures ∙ (λ i. header_given (header_for (format i) (common i) (x i) (y i) (z i)))
