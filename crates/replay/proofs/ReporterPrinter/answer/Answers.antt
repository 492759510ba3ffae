-- `answer` of `replay::Reporter` meets its contract.
-- Assumes nothing.
use Rattle.std.proofs.Common.{◌≡◌, ◌≤◌, length, sym, subst, ◌∙◌, refl, arith}
use Rattle.logs.specs.Log.{state_of}
use Rattle.receiver_state.specs.Receiver.{store_size}
use Rattle.replays.specs.Claims.{ReplayClaims}
use Rattle.replays.specs.Replay.{ReplayAnswer}
use Rattle.replays.specs.Text.{report_room}
use Rattle.replays.proofs.Replays.{taken_ok, taken_as}
use Rattle.replay.proofs.Turning.{few_left}
use Rattle.replay.proofs.ReporterPrinter.answer.Goals as goal

pub unwrap-replayed-requires : goal.unwrap-replayed-requires
unwrap-replayed-requires c =
    let a = c.args in
    let s = a.self.now in
    taken_ok s.receiver s.store a.octets.now a.last a.text.now (omega arith) (omega arith) _ c.replay.ensures.0

pub returns : goal.returns
returns c =
    let a = c.args in
    let s = a.self.now in
    let l = c.replay in
    let r = c.unwrap-replayed.result in
    let room : length s.store ≡ store_size = omega arith in
    let line : report_room ≤ length a.text.now = omega arith in
    let same = taken_as s.receiver s.store a.octets.now a.last a.text.now room line r (sym c.unwrap-replayed.ensures ∙ l.ensures.0) in
    let claims : ReplayClaims (state_of s.receiver s.store) a.octets.now a.last a.text.now (record { number = 0; receiver = r.receiver; taken = r.taken; end = r.end }) l.new.store l.new.text =
    subst (λ (x : ReplayAnswer). ReplayClaims (state_of s.receiver s.store) a.octets.now a.last a.text.now x l.new.store l.new.text) (sym same) l.ensures.3 in
    record {
      goes_on = claims.goes_on refl;
      ends = omega (arith, claims.ends, l.auto.text);
      takes = claims.takes;
      takes_last = claims.takes_on refl;
      takes_full = few_left s.receiver s.store a.octets.now a.text.now a.last _ (λ i. (c.type_inv.octets i).fits) room line same;
    }
