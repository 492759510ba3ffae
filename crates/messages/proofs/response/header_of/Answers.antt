-- `messages::response::header_of` meets its contract.
-- Assumes nothing.
use mathlib.Core.Path.{sym, ap}
use Rattle.messages.specs.Responses.{reply_code}
use Rattle.messages.specs.declared.response.Reply.{Reply}
use Rattle.messages.proofs.ResponseParts.{header_is}
use Rattle.messages.proofs.response.header_of.Goals as goal

pub returns-in-Ack : goal.returns-in-Ack
unfolding reply_code
returns-in-Ack c =
    let a = c.args in
    header_is a.reply a.d _ _ _ c.count_of.ensures (sym (ap (λ (r : Reply). (reply_code r).0) c.in-Ack.is)) (sym (ap (λ (r : Reply). (reply_code r).1) c.in-Ack.is))

pub returns-in-Nack : goal.returns-in-Nack
unfolding reply_code
returns-in-Nack c =
    let a = c.args in
    header_is a.reply a.d _ _ _ c.count_of.ensures (sym (ap (λ (r : Reply). (reply_code r).0) c.in-Nack.is)) (sym (ap (λ (r : Reply). (reply_code r).1) c.in-Nack.is))

pub returns-in-Sack : goal.returns-in-Sack
unfolding reply_code
returns-in-Sack c =
    let a = c.args in
    header_is a.reply a.d _ _ _ c.count_of.ensures (sym (ap (λ (r : Reply). (reply_code r).0) c.in-Sack.is)) (sym (ap (λ (r : Reply). (reply_code r).1) c.in-Sack.is))
