-- The text of a line: what is written part behind part, and that it is the same by the line's octets.
-- Assumes nothing.
use mathlib.Core.Path.{◌≡◌, refl, sym, ap, subst, ◌∙◌}
use mathlib.Core.List.{List, [], ◌∷◌, ◌++◌}
use Prim.Native.Nat.{ℕ, ◌+◌, ◌*◌, ◌-◌, ◌/◌, ◌%◌, ◌≤◌, ◌<◌, min}
use native.Mathlib.Omega.{arith}
use lib.Dec.{eqb}
use lib.ListN.{length, get_or, take, drop, length-append, take-append-drop, length-take, length-drop}
use lib.Seq.{take_all, take_at, drop_at}
use Rattle.foundation.proofs.Tests.{either}
use Rattle.foundation.proofs.Copying.{take_shorter}
use Rattle.texts.specs.Texts.{decimal, octets_text, blank, line_feed, parts, Writes}
use Rattle.texts.specs.Parts.{HasRoom, Wrote, AtMost}
use Rattle.texts.specs.declared.Writer.{Writer}
use Rattle.texts.proofs.Decimals.{short}
use Rattle.texts.proofs.Writing.{wrote, Chain, total, chained, length-parts, length-octets}
use Rattle.messages.specs.Responses.{ResponseWritten}
use Rattle.transactions.specs.Answers.{refused, opened, repeat, stored, bad, message, response, response_said}
use Rattle.transactions.specs.Flags.{flag_octet_count}
use Rattle.receiver.specs.Events.{Answer, Refused, Opened, Repeat, Stored, Bad, Message, said, on_end}
use Rattle.receiver.proofs.Ends.{Whole, end_whole}
use Rattle.stored.specs.Stored.{stored_block, saved}
use Rattle.stored.proofs.ReadingBack.{length_form}
use Rattle.history.specs.History.{header, block, ended}
use Rattle.history.specs.Run.{event, restart, State, answer_to, saved_form, after_event}
use Rattle.logs.specs.Numbers.{code_number, code_at}
use Rattle.logs.specs.declared.numbers.Code.{Code}
use Rattle.logs.specs.Log.{Record, act, none, Line, answer, restarted, line_of, after_record, code_of, contents_of, line_octets, line_in}
use Rattle.replays.specs.Text.{line_text, report_room}
use Rattle.replays.specs.Parts.{contents_in, code_text, octets_line}

-- ---- what is written

-- the first n octets, and those after them, where there may be fewer
module _ (n k : ℕ) (os : List ℕ) (e : k ≡ min n (length os)) where
  size : length (take n os) ≡ k
  size = length-take n os ∙ sym e

  front : take k os ≡ take n os
  front = ap (λ (j : ℕ). take j os) e ∙ take_shorter n os

  rest : take (length os - k) (drop k os) ≡ drop n os
  rest =
      take_all (length os - k) (drop k os) (omega (arith, length-drop k os))
      ∙ ap (drop k) (sym (take-append-drop n os)) ∙ drop_at (take n os) (drop n os) k size

module _ (w w' : Writer) (room : HasRoom report_room w) where
  pub word_written : (os : List ℕ) → length os ≤ report_room → Writes os w w' → AtMost report_room os w w'
  word_written os few p =
      let x : Wrote os w w' = wrote os w w' (omega arith) p in record { wrote = x; most = omega (arith, x.end) }

  parts-written : {ps : List (List ℕ)} → Chain ps w w' → total ps ≤ report_room → AtMost report_room (parts ps) w w'
  parts-written {ps} c few =
      let x : Wrote (parts ps) w w' = chained ps w w' (omega arith) c in record { wrote = x; most = omega (arith, x.end, length-parts ps) }

  pub refusal_written : (n : ℕ) → n < 256 → Chain (decimal n ∷ line_feed ∷ []) w w' → AtMost report_room (code_text 0 (n ∷ [])) w w'
  unfolding code_text
  refusal_written n small c = parts-written c (omega (arith, short 2 n (omega arith)))

  module _ (os : List ℕ) (most : length os ≤ 2 * stored_block) where
    pub message-written : Chain ((0x6D ∷ 0x65 ∷ 0x73 ∷ 0x73 ∷ 0x61 ∷ 0x67 ∷ 0x65 ∷ 0x20 ∷ []) ∷ decimal (length os) ∷ blank ∷ octets_text os
        ∷ line_feed ∷ []) w w'
        → AtMost report_room (code_text 5 os) w w'
    unfolding code_text
    message-written c = parts-written c (omega (arith, short 3 (length os) (omega arith), length-octets os))

    pub response-written : (n : ℕ) → n ≡ min 12 (length os)
        → Chain ((0x72 ∷ 0x65 ∷ 0x73 ∷ 0x70 ∷ 0x6F ∷ 0x6E ∷ 0x73 ∷ 0x65 ∷ 0x20 ∷ []) ∷ octets_text (take n os) ∷ blank
        ∷ octets_text (take (length os - n) (drop n os)) ∷ line_feed ∷ []) w w'
        → AtMost report_room (code_text 6 os) w w'
    unfolding code_text
    response-written n e c =
        parts-written (rw (front 12 n os e, rest 12 n os e) at c)
        (omega (arith, length-octets (take 12 os), length-take 12 os, length-octets (drop 12 os), length-drop 12 os))

    pub restored-written : Chain ((0x72 ∷ 0x65 ∷ 0x73 ∷ 0x74 ∷ 0x6F ∷ 0x72 ∷ 0x65 ∷ 0x64 ∷ 0x20 ∷ []) ∷ octets_text os ∷ line_feed ∷ []) w w'
        → AtMost report_room (code_text 7 os) w w'
    unfolding code_text
    restored-written c = parts-written c (omega (arith, length-octets os))

-- the text is by the code of a number, whatever the number
pub text_by_code : (n : ℕ) (os : List ℕ) → code_text (code_number (code_at n)) os ≡ code_text n os
unfolding code_text code_number code_at
text_by_code n os =
    either (eqb n 0) (λ a. rw a refl)
    (λ a. either (eqb n 1) (λ b. rw (a, b) refl)
    (λ b. either (eqb n 2) (λ c. rw (a, b, c) refl)
    (λ c. either (eqb n 3) (λ d. rw (a, b, c, d) refl)
    (λ d. either (eqb n 4) (λ e. rw (a, b, c, d, e) refl)
    (λ e. either (eqb n 5) (λ f. rw (a, b, c, d, e, f) refl)
    (λ f. either (eqb n 6) (λ g. rw (a, b, c, d, e, f, g) refl) (λ g. rw (a, b, c, d, e, f, g) refl)))))))

-- by the line in octets
pub octets-written : (w w' : Writer) (line : List ℕ) (n : ℕ) (code : Code)
    → n ≡ min (256 * get_or line 1 0 + get_or line 2 0) (2 * stored_block) → code ≡ code_at (get_or line 0 0)
    → AtMost report_room (code_text (code_number code) (take (3 + n - 3) (drop 3 line))) w w' → AtMost report_room (octets_line line) w w'
unfolding octets_line contents_in
octets-written w w' line n code e f p =
    let k : 3 + n - 3 ≡ min (256 * get_or line 1 0 + get_or line 2 0) (2 * stored_block) = omega arith in
    subst (λ (j : ℕ). AtMost report_room (code_text (get_or line 0 0) (take j (drop 3 line))) w w') k
    (rw (f, text_by_code (get_or line 0 0) (take (3 + n - 3) (drop 3 line))) at p)

-- ---- the text of a line's octets

octets-line : (code : ℕ) (os : List ℕ) → length os ≤ 2 * stored_block → octets_line (line_octets code os) ≡ code_text code os
unfolding octets_line line_octets contents_in
octets-line code os most =
    let n : length os ≡ min (256 * (length os / 256) + length os % 256) (2 * stored_block) = omega arith in ap (code_text code) (take_at os _ _ n)

-- the contents of a line fit, and a response's header has 12 octets
abbrev Fits : Line → Type 0
Fits (answer (refused n)) = Unit {0}
Fits (answer opened) = Unit {0}
Fits (answer repeat) = Unit {0}
Fits (answer stored) = Unit {0}
Fits (answer bad) = Unit {0}
Fits (answer (message m)) = length m ≤ 2 * stored_block
Fits (answer (response h d)) = (length h ≡ 12) × (length d ≤ 12)
Fits (restarted form) = length form ≤ 2 * stored_block

line_back : (l : Line) → Fits l → octets_line (line_in l) ≡ line_text l
unfolding line_in code_of contents_of code_text line_text
line_back (answer (refused n)) f = octets-line 0 (n ∷ []) (omega arith)
line_back (answer opened) f = octets-line 1 [] (omega arith)
line_back (answer repeat) f = octets-line 2 [] (omega arith)
line_back (answer stored) f = octets-line 3 [] (omega arith)
line_back (answer bad) f = octets-line 4 [] (omega arith)
line_back (answer (message m)) f = octets-line 5 m f
line_back (answer (response h d)) f =
    octets-line 6 (h ++ d) (omega (arith, length-append h d)) ∙ rw (take_at h d 12 f.0, drop_at h d 12 f.0)
line_back (restarted form) f = octets-line 7 form f

-- ---- a line fits

said_fits : (a : Answer) (store : List ℕ) → length store ≤ 2 * stored_block → Fits (answer (said a store))
unfolding said
said_fits (Refused n) store h = tt
said_fits Opened store h = tt
said_fits Repeat store h = tt
said_fits Stored store h = tt
said_fits Bad store h = tt
said_fits (Message n) store h = omega (arith, length-take n store)

response-said_fits : (r : ResponseWritten) → Whole r → Fits (answer (response_said r))
unfolding response_said
response-said_fits r t =
    either (eqb r.number 0) (λ e. rw e (t.header, omega (arith, length-take (12 * r.blocks) r.block, t.block))) (λ e. rw e tt)

line_fits : (s : State) (r : Record) → length s.store ≤ 2 * stored_block → length (after_record s r).store ≤ 2 * stored_block
    → length s.receiver.flags.octets ≡ flag_octet_count → Fits (line_of s r)
unfolding line_of answer_to after_record after_event saved_form saved
line_fits s (act (event (header h))) before after eight = said_fits _ s.store before
line_fits s (act (event (block b))) before after eight = said_fits _ _ after
line_fits s (act (event ended)) before after eight = response-said_fits (on_end s.receiver) (end_whole s.receiver)
line_fits s (act (restart s0 s1 store)) before after eight = omega (arith, length_form s.receiver (λ i. get_or s.store i 0) s0 s1 eight)
line_fits s none before after eight = tt

-- a line's text is that of its octets
pub line_text_lem : (s : State) (r : Record) → length s.store ≤ 2 * stored_block → length (after_record s r).store ≤ 2 * stored_block
    → length s.receiver.flags.octets ≡ flag_octet_count → octets_line (line_in (line_of s r)) ≡ line_text (line_of s r)
line_text_lem s r before after eight = line_back (line_of s r) (line_fits s r before after eight)
