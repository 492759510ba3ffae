-- `capi::writing::kirruskabe_write_response` meets its contract.
-- Assumes nothing.
use mathlib.Core.Path.{◌≡◌, ap, ◌∙◌}
use mathlib.Core.Bool.{cond}
use mathlib.Core.List.{List, [], ◌++◌}
use Prim.Native.Nat.{ℕ}
use native.Mathlib.Omega.{arith}
use lib.Dec.{eqb, lit<}
use lib.ListN.{replicate}
use Rattle.std.specs.Prelude.{None, Some}
use Rattle.std.specs.Option.{unwrap_or}
use Rattle.foundation.proofs.Tests.{either}
use Rattle.packets.specs.Headers.{width_number}
use Rattle.messages.specs.Responses.{ResponseWritten, reply_code, response_header, response_data, write_response, response_given}
use Rattle.messages.specs.declared.message.Delivery.{Delivery}
use Rattle.messages.specs.declared.response.Reply.{Reply}
use Rattle.layouts.specs.Layouts.{reply_of, delivery_of}
use Rattle.layouts.proofs.Giving.{refused_with_1, by_outcome}
use Rattle.capi.specs.Answers.{response_written}
use Rattle.capi.proofs.Behind.{behind-none, past_size, short, past_most, over_most, behind_as, unwritable}
use Rattle.capi.proofs.PacketNumbers.{response_few}
use Rattle.capi.proofs.Making.{made_of}
use Rattle.capi.proofs.writing.kirruskabe_write_response.Goals as goal

-- zeros stand where there is no data block
or_zeros : (r : Reply) (d : Delivery) (flags : List ℕ)
    → unwrap_or (cond (eqb (write_response r d flags).blocks 0) None (Some (write_response r d flags).block)) (replicate 12 0) ≡ (write_response r d flags).block
unfolding write_response response_data
or_zeros r d flags =
    either (eqb (width_number (response_header r d)) 0)
    (λ t. rw t (either (eqb (reply_code r).2 0) (λ z. rw z) (λ z. rw z)))
    (λ t. rw t)

pub returns-in_default : goal.returns-in_default
unfolding response_written
returns-in_default c = let a = c.args in refused_with_1 24 _ a.out.now (short _ a.flags.now 8 _ c.in_default.ensures.cases)

pub returns-then-reply-gt2 : goal.returns-then-reply-gt2
unfolding response_written
returns-then-reply-gt2 c =
    let a = c.args in
    let w : ResponseWritten = write_response (reply_of a.reply) (delivery_of a.sap a.ns a.destination a.source) a.flags.now in
    behind_as w.number 16 (w.header ++ w.block) _
    (past_size w.number a.flags.now 8 _ c.in-Some.ensures.cases.long ∙ over_most w.number a.reply 2 [] (omega (arith, c.if-reply-gt2.true)))
    (by_outcome 16 (w.header ++ w.block) (unwritable (w.header ++ w.block)) (lit< tt) c.give_result.ensures)

pub returns : goal.returns
unfolding response_written response_given
returns c =
    let a = c.args in
    let r = reply_of a.reply in
    let d = delivery_of a.sap a.ns a.destination a.source in
    let w : ResponseWritten = write_response r d a.flags.now in
    let reply = c.reply_of-kind.ensures in
    let delivery = c.delivery-d.ensures in
    let flags = c.in-Some.ensures.cases in
    behind_as w.number w.number (w.header ++ w.block) _
    (past_size w.number a.flags.now 8 _ flags.long ∙ past_most w.number a.reply 2 [] (omega (arith, c.if-reply-gt2.false)) ∙ behind-none w.number)
    (by_outcome w.number (w.header ++ w.block)
    (made_of _ w.number _ _ (c.write.ensures.0 ∙ (λ i. response_given (write_response (reply i) (delivery i) (flags.same i)))) c.map.ensures.cases
    (λ y p. p ∙ ap (λ (b : List ℕ). w.header ++ b) (or_zeros r d a.flags.now)))
    (response_few r d a.flags.now) c.give_result-2.ensures)
