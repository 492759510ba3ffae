-- `codes::slot_type::read` meets its contract: a codeword within three bits is the only one, wherever it is found.
-- Assumes nothing.
use mathlib.Core.Path.{sym, ap, ◌∙◌}
use Prim.Native.Nat.{ℕ, ◌/◌, ◌^◌, ◌≤◌}
use native.Mathlib.Omega.{arith}
use Rattle.foundation.specs.Refusals.{refusal, outcome}
use Rattle.codes.specs.SlotWord.{slot_word, distance, slot_number, slot_data, slot_given}
use Rattle.codes.proofs.SlotReading.{corrects, too_wide, twenty}
use Rattle.codes.proofs.slot_type.read.Goals as goal

pub returns-then-word-ge1048576 : goal.returns-then-word-ge1048576
unfolding slot_given outcome refusal slot_number
returns-then-word-ge1048576 c = ap slot_given (sym (too_wide c.args.word c.if-word-ge1048576.true))

pub returns-then-distance_to-le3 : goal.returns-then-distance_to-le3
unfolding slot_given outcome slot_number slot_data
returns-then-distance_to-le3 c =
    let w : ℕ = c.args.word in
    let near : distance w (slot_word (w / 2 ^ 12)) ≤ 3 = omega arith in
    ap slot_given (sym (corrects (w / 2 ^ 12) w (omega arith) (omega arith) near))

pub returns : goal.returns
returns c = c.search.ensures ∙ ap slot_given (sym (twenty c.args.word (omega arith)))
