-- Records in order: one of them at a receiver, a run part of the way through, and the lines that are written.
-- Assumes nothing.
use mathlib.Core.Path.{◌≡◌, refl, sym, ap, ap₂, subst, ◌∙◌}
use mathlib.Core.Bool.{Bool, true, false, cond}
use mathlib.Core.List.{List, [], ◌∷◌, ◌++◌, append-nil, append_assoc}
use Prim.Native.Nat.{ℕ, suc, ◌+◌, ◌*◌, ◌-◌, ◌≤◌, ◌<◌}
use native.Mathlib.Nat.{zero-add}
use native.Mathlib.Omega.{arith}
use lib.ListN.{length, take, drop, length-append}
use borrow.Author.Tests.{eq-eqb}
use Rattle.foundation.proofs.Copying.{length-put}
use Rattle.foundation.proofs.Tests.{either}
use Rattle.foundation.specs.Order.{first_failed}
use Rattle.receiver_state.specs.Receiver.{store_size, receiver_good}
use Rattle.receiver_state.specs.declared.Receiver.{Receiver}
use Rattle.texts.specs.Parts.{HasRoom, Wrote, AtMost}
use Rattle.texts.specs.declared.Writer.{Writer}
use Rattle.texts.proofs.Writing.{wrote_none, behind}
use Rattle.history.specs.Run.{State}
use Rattle.logs.specs.Log.{Record, record_of, line_of, after_record, line_size, line_in, record_number, state_of, recorded, recorded_given, record_store, record_line}
use Rattle.std.specs.Prelude.{Ok, Err}
use Rattle.foundation.specs.Refusals.{refusal_number}
use Rattle.foundation.specs.declared.refusal.Refusal.{Refusal}
use Rattle.foundation.proofs.Refusals.{ok_zero, ok_same, err_number, number_err}
use Rattle.replays.specs.Log.{records, octets_taken}
use Rattle.replays.specs.Text.{line_text, report_text, report_room}
use Rattle.replays.specs.Replay.{line_given, left_by_record, lines_given, left_by_records}
use Rattle.replays.specs.Parts.{Comes, code_text, octets_line}
use Rattle.replays.specs.declared.Cut.{Cut}

-- ---- one record, as `logs::recording::record` tells it

module _ (rx : Receiver) (store : List ℕ) (r : Record) (line : List ℕ) (room : length store ≡ store_size) (size : length line ≡ line_size) where
  number_is : record_number rx store line ≡ cond (receiver_good rx) 0 1
  unfolding record_number first_failed
  number_is = rw (eq-eqb (length store) store_size room, eq-eqb (length line) line_size size)

  module _ (store' line' : List ℕ) (es : store' ≡ record_store rx store r line) (el : line' ≡ record_line rx store r line) (w w' : Writer) where
    abbrev Answered : Receiver → Type 0
    Answered next = (state_of next store' ≡ left_by_record (state_of rx store) r) × AtMost report_room (line_text (line_given (state_of rx store) r)) w w'

    module _ (refusal : Refusal) (e : Err refusal ≡ recorded_given (recorded rx store r line)) where
      bad_told : receiver_good rx ≡ false
      unfolding recorded recorded_given
      bad_told = either (receiver_good rx) (λ t. absurd (err_number _ _ refusal (sym e) (rw t at number_is))) (λ t. t)

      pub refused-step : (told : ℕ) → told ≡ refusal_number refusal → AtMost report_room (code_text 0 (told ∷ [])) w w' → Answered rx
      unfolding recorded recorded_given record_store left_by_record line_given code_text line_text
      refused-step told is p =
          let bad = bad_told in
          let n : record_number rx store line ≡ 1 = rw bad at number_is in
          let number : told ≡ 1 = is ∙ number_err _ _ refusal (omega (arith, n)) (sym e) ∙ n in
          let kept : store' ≡ store = es ∙ rw n in
          rw bad (ap (state_of rx) kept, subst (λ (k : ℕ). AtMost report_room (code_text 0 (k ∷ [])) w w') number p)

    module _ (next : Receiver) (e : Ok next ≡ recorded_given (recorded rx store r line)) where
      good_told : receiver_good rx ≡ true
      unfolding recorded recorded_given
      good_told = let n = ok_zero _ _ next (sym e) in either (receiver_good rx) (λ t. t) (λ t. absurd (omega (arith, n, rw t at number_is)))

      pub taken_step : octets_line (line_in (line_of (state_of rx store) r)) ≡ line_text (line_of (state_of rx store) r)
          → AtMost report_room (octets_line line') w w' → Answered next
      unfolding recorded recorded_given record_store record_line left_by_record line_given
      taken_step spelled p =
          let good = good_told in
          let n : record_number rx store line ≡ 0 = rw good at number_is in
          let after : next ≡ (after_record (state_of rx store) r).receiver = sym (ok_same _ _ next (sym e)) ∙ rw n in
          let left : store' ≡ (after_record (state_of rx store) r).store = es ∙ rw n in
          let said : octets_line line' ≡ line_text (line_of (state_of rx store) r) = ap octets_line (el ∙ rw n) ∙ spelled in
          rw good (ap₂ state_of after left, subst (λ (os : List ℕ). AtMost report_room os w w') said p)

      pub store_told : store' ≡ (after_record (state_of rx store) r).store
      unfolding record_store
      store_told = let n : record_number rx store line ≡ 0 = rw good_told at number_is in es ∙ rw n

-- ---- part of the way through

-- the text of records at a receiver
abbrev pub text_of : State → List Record → List ℕ
text_of s rs = report_text (lines_given s rs)

text_none : (s : State) → text_of s [] ≡ []
unfolding report_text lines_given
text_none s = refl

text_cons : (s : State) (r : Record) (rs : List Record) → text_of s (r ∷ rs) ≡ line_text (line_given s r) ++ text_of (left_by_record s r) rs
unfolding report_text lines_given
text_cons s r rs = refl

left_cons : (s : State) (r : Record) (rs : List Record) → left_by_records s (r ∷ rs) ≡ left_by_records (left_by_record s r) rs
unfolding left_by_records
left_cons s r rs = refl

left-none : (s : State) → left_by_records s [] ≡ s
unfolding left_by_records
left-none s = refl

-- i records are answered and their lines stand behind the text; what is left leads to where the whole leads
pub record Midway (s : State) (os : List ℕ) (last : Bool) (most : ℕ) (w : Writer) (i at : ℕ) (s' : State) (w' : Writer) : Type 0 where
  pub done : List ℕ
  pub part : i ≤ most
  pub inside : at ≤ length os
  pub room : length s'.store ≡ store_size
  pub wrote : Wrote done w w'
  pub few : length done ≤ report_room * i
  pub left : left_by_records s (records last most os) ≡ left_by_records s' (records last (most - i) (drop at os))
  pub lines : text_of s (records last most os) ≡ done ++ text_of s' (records last (most - i) (drop at os))
  pub taken : octets_taken last most os ≡ at + octets_taken last (most - i) (drop at os)

module _ (s : State) (os : List ℕ) (last : Bool) (most : ℕ) (w : Writer) where
  pub midway_start : length s.store ≡ store_size → Midway s os last most w 0 0 s w
  midway_start h =
      let e : most - 0 ≡ most = omega arith in
      record {
        done = [];
        part = omega arith;
        inside = omega arith;
        room = h;
        wrote = wrote_none w;
        few = omega arith;
        left = rw e;
        lines = rw e;
        taken = rw e (sym (zero-add _));
      }

  module _ (i at : ℕ) (s' : State) (w' : Writer) (m : Midway s os last most w i at s' w') where
    module _ (room : HasRoom (report_room * most) w) where
      pub midway_room : i < most → HasRoom report_room w'
      midway_room h = omega (arith, m.wrote.end, m.few, ap length m.wrote.text, length-put w.text.now w.end m.done)

      pub midway_more : (c : Cut) → i < most → Comes os at last c → (s'' : State) (w'' : Writer)
          → s'' ≡ left_by_record s' (record_of c.kind (take (c.end - c.start) (drop c.start os)))
          → AtMost report_room (line_text (line_given s' (record_of c.kind (take (c.end - c.start) (drop c.start os))))) w' w''
          → length s''.store ≡ store_size → Midway s os last most w (i + 1) c.end s'' w''
      midway_more c h u s'' w'' left p size =
          let r = record_of c.kind (take (c.end - c.start) (drop c.start os)) in
          let k = most - (i + 1) in
          let n : most - i ≡ suc k = omega arith in
          let later = records last k (drop c.end os) in
          let step : records last (most - i) (drop at os) ≡ r ∷ later = ap (λ (j : ℕ). records last j (drop at os)) n ∙ u.first k in
          let line = line_text (line_given s' r) in
          let long : length line ≤ report_room = omega (arith, p.wrote.end, p.most) in
          let go : at < c.end = u.later in
          let octets : octets_taken last (most - i) (drop at os) ≡ (c.end - at) + octets_taken last k (drop c.end os) =
          ap (λ (j : ℕ). octets_taken last j (drop at os)) n ∙ u.taken k in
          record {
            done = m.done ++ line;
            part = omega arith;
            inside = u.within;
            room = size;
            wrote = behind m.done line w w' w'' (omega (arith, m.few)) m.wrote p.wrote;
            few = omega (arith, m.few, length-append m.done line);
            left = m.left ∙ ap (left_by_records s') step ∙ left_cons s' r later ∙ ap (λ (x : State). left_by_records x later) (sym left);
            lines = m.lines ∙ ap (λ (rs : List Record). m.done ++ text_of s' rs) step
                ∙ ap (λ (x : List ℕ). m.done ++ x) (text_cons s' r later ∙ ap (λ (x : State). line ++ text_of x later) (sym left))
                ∙ sym (append_assoc m.done line (text_of s'' later));
            taken = omega (arith, m.taken, octets, go);
          }

    -- no more are answered
    pub midway_end : records last (most - i) (drop at os) ≡ [] → octets_taken last (most - i) (drop at os) ≡ 0 → (end : ℕ) → end ≡ w'.end
        → (s' ≡ left_by_records s (records last most os)) × AtMost (report_room * most) (text_of s (records last most os)) w w'
        × (end ≡ w'.end) × (at ≡ octets_taken last most os) × (at ≤ length os)
    midway_end none stay end e =
        let all_left : left_by_records s (records last most os) ≡ s' = m.left ∙ ap (left_by_records s') none ∙ left-none s' in
        let whole : text_of s (records last most os) ≡ m.done =
        m.lines ∙ ap (λ (rs : List Record). m.done ++ text_of s' rs) none ∙ ap (λ (x : List ℕ). m.done ++ x) (text_none s') ∙ append-nil m.done in (
          sym all_left,
          subst (λ (x : List ℕ). AtMost (report_room * most) x w w') (sym whole)
              (record { wrote = m.wrote; most = omega (arith, m.wrote.end, m.few, m.part) }),
          e,
          omega (arith, m.taken, stay),
          m.inside,
        )

    pub midway_last : most ≤ i → (records last (most - i) (drop at os) ≡ []) × (octets_taken last (most - i) (drop at os) ≡ 0)
    unfolding records octets_taken
    midway_last h = let e : most - i ≡ 0 = omega arith in rw e (refl, refl)
