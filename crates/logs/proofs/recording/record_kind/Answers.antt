-- `logs::recording::record_kind` meets its contract.
-- Assumes nothing.
use mathlib.Core.Path.{◌≡◌, refl, ap, ◌∙◌}
use Prim.Native.Nat.{◌+◌}
use lib.ListN.{length}
use borrow.Author.Tests.{eq-eqb, ne_eqb}
use Rattle.foundation.specs.Refusals.{refusal_number}
use Rattle.transactions.specs.Answers.{Said, given_said}
use Rattle.receiver.proofs.Ends.{end_said}
use Rattle.receiver_state.specs.Receiver.{store_size}
use Rattle.history.specs.Run.{after_event, answer_to}
use Rattle.logs.specs.Log.{none, answer, line_in, line_of, after_record}
use Rattle.logs.specs.Parts.{record_by}
use Rattle.logs.proofs.recording.record_kind.Goals as goal
use Rattle.logs.proofs.recording.record_kind.Goals.{in_default-via-in-End+else-n-eq0, in_default-via-in-Restart+else-n, in_default-via-in_default}

pub returns-in-Header : goal.returns-in-Header
unfolding record_by after_record after_event
returns-in-Header c = let e = c.record_header.ensures in
    rw c.in-Header.is (e.0, refl, e.1)

pub returns-in-Block : goal.returns-in-Block
unfolding record_by
returns-in-Block c = rw c.in-Block.is c.record_block.ensures

pub returns-in-End : goal.returns-in-End
unfolding record_by after_record after_event line_of answer_to
returns-in-End c =
    rw (c.in-End.is, eq-eqb (length c.args.octets.now) 0 c.if-n-eq0.true)
    (refl, refl, c.put_response.ensures ∙ ap (λ (s : Said). line_in (answer s)) (ap given_said c.on_end.ensures ∙ end_said c.args.rx))

pub returns-in-Restart : goal.returns-in-Restart
unfolding record_by
returns-in-Restart c =
    rw (c.in-Restart.is, eq-eqb (length c.args.octets.now) (2 + store_size) c.if-n.true) c.record_restart.ensures

pub returns-in_default : goal.returns-in_default
unfolding record_by after_record line_of refusal_number
returns-in_default c =
    let a = c.args in
    let none_comes : record_by a.kind a.octets.now ≡ none = elim c.in_default.branch [
      | in_default-via-in-End+else-n-eq0 w ↦ rw (w.in-End.is, ne_eqb (length a.octets.now) 0 w.if-n-eq0.false) refl
      | in_default-via-in-Restart+else-n w ↦ rw (w.in-Restart.is, ne_eqb (length a.octets.now) (2 + store_size) w.if-n.false) refl
      | in_default-via-in_default w ↦ rw w.in_default.is refl
    ] in
    rw none_comes (refl, refl, c.put_refusal.ensures)
