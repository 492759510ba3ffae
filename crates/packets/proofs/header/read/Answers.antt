-- `packets::header::read` meets its contract.
-- Assumes nothing.
use mathlib.Core.Path.{◌≡◌, sym, ap, ◌∙◌}
use Prim.Native.Nat.{◌%◌}
use native.Mathlib.Omega.{arith}
use lib.ListN.{get_or}
use Rattle.foundation.specs.Refusals.{refusal}
use Rattle.packets.specs.Headers.{Accepted, format_of, known_format, header_given}
use Rattle.packets.proofs.HeaderReading.{size-refused, check-refused, format-refused, accepted}
use Rattle.packets.proofs.header.read.Goals as goal

pub returns-then-octets-ne12 : goal.returns-then-octets-ne12
unfolding header_given refusal
returns-then-octets-ne12 c = ap header_given (size-refused c.args.octets.now c.if-octets-ne12.true)

pub returns-then-not-good : goal.returns-then-not-good
unfolding header_given refusal
returns-then-not-good c =
    let h = c.args.octets.now in
    ap header_given (check-refused h (omega arith) (sym c.header_good-good.ensures ∙ c.if-not-good.true))

pub returns-then-not-format_known : goal.returns-then-not-format_known
unfolding header_given refusal
returns-then-not-format_known c =
    let h = c.args.octets.now in
    let f : format_of h ≡ get_or h 0 0 % 16 = omega arith in
    ap header_given
    (format-refused h (omega arith) (sym c.header_good-good.ensures ∙ c.if-not-good.false)
    (ap known_format f ∙ sym c.known-format_known.ensures ∙ c.if-not-format_known.true))

pub returns : goal.returns
unfolding header_given
returns c =
    let h = c.args.octets.now in
    let f : format_of h ≡ get_or h 0 0 % 16 = omega arith in
    ap header_given
    (ap Accepted c.read_fields.ensures
    ∙ accepted h (omega arith) (sym c.header_good-good.ensures ∙ c.if-not-good.false)
    (ap known_format f ∙ sym c.known-format_known.ensures ∙ c.if-not-format_known.false))
