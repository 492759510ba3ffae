-- `messages::message::block` meets its contract.
-- Assumes nothing.
use mathlib.Core.Path.{sym, ap, ◌∙◌}
use Rattle.std.specs.Prelude.{Err}
use lib.ListN.{length}
use Rattle.std.proofs.lemmas.Result.{err_from_is_err_and}
use Rattle.foundation.specs.Refusals.{refusal, outcome}
use Rattle.packets.specs.Blocks.{block_octets_given}
use Rattle.messages.proofs.MessageParts.{too_long, refusal-16, block-long, block_refused, block-ends, inner_written, last_written}
use Rattle.messages.proofs.message.block.Goals as goal

pub returns-in_err-size : goal.returns-in_err-size
unfolding block_octets_given outcome
returns-in_err-size c =
    let p = err_from_is_err_and c.from_residual.result c.from_residual.ensures.1 in
    let m = c.args.message.now in
    let e = sym c.size_of.ensures ∙ c.in_err-size.was in
    rw (p.1, p.2) (ap Err (refusal-16 (length m) _ e) ∙ ap block_octets_given (block-long m c.args.n (too_long (length m) _ e)))

pub returns-then-blocks-n : goal.returns-then-blocks-n
unfolding block_octets_given outcome refusal
returns-then-blocks-n c =
    let a = c.args in
    ap block_octets_given (block_refused a.message.now c.in_ok-size.size (sym c.size_of.ensures ∙ c.in_ok-size.was) a.n c.if-blocks-n.true)

pub returns-then-n-blocks : goal.returns-then-n-blocks
returns-then-n-blocks c =
    let a = c.args in
    c.write.ensures.0
    ∙ ap block_octets_given
    (inner_written a.message.now c.in_ok-size.size (sym c.size_of.ensures ∙ c.in_ok-size.was) a.n c.if-blocks-n.false _ c.data_of-os.ensures c.if-n-blocks.true)

pub check_of-check-requires : goal.check_of-check-requires
check_of-check-requires c =
    let a = c.args in
    block-ends a.message.now c.in_ok-size.size (sym c.size_of.ensures ∙ c.in_ok-size.was) a.n c.if-blocks-n.false

pub returns : goal.returns
returns c =
    let a = c.args in
    c.write-2.ensures.0
    ∙ ap block_octets_given
    (last_written a.message.now c.in_ok-size.size (sym c.size_of.ensures ∙ c.in_ok-size.was) a.n c.if-blocks-n.false _ c.data_of-os.ensures c.if-n-blocks.false _ _
    c.check_of-check.ensures c.put.ensures)
