-- Responses by their parts: the data block of a SACK, what is written, and what is answered after the header.
-- Assumes nothing.
use mathlib.Core.Path.{◌≡◌, refl, sym, ap, ◌∙◌}
use mathlib.Core.Bool.{Bool, true, false, cond}
use mathlib.Core.List.{List}
use mathlib.Core.Logic.{◌≢◌}
use Prim.Native.Nat.{ℕ}
use native.Mathlib.Omega.{arith}
use lib.Dec.{eqb}
use lib.ListN.{length, take, get_or, replicate}
use lib.Seq.{length-take-le}
use borrow.Author.Tests.{eqb-true, eqb-false, eq-eqb, ne_eqb}
use Rattle.std.specs.Prelude.{Option, None, Some, Result, Ok, Err}
use Rattle.foundation.specs.Octets.{put}
use Rattle.foundation.specs.Order.{first_failed}
use Rattle.foundation.specs.Refusals.{refusal, outcome}
use Rattle.foundation.specs.declared.refusal.Refusal.{Refusal}
use Rattle.foundation.proofs.Refusals.{ok_zero, ok_same, err_number, err_refusal, err_any}
use Rattle.foundation.proofs.Copying.{put_all}
use Rattle.checks.specs.Checks.{header_good, message_good}
use Rattle.packets.specs.Headers.{header_mask, part, format_of, common_of, header_of, known_format, HeaderAnswer, Accepted, Refused, header_tests, read_header, header_given, written_header, width_number, write_header, header_octets_given}
use Rattle.messages.specs.Responses.{reply_code, response_header, response_data, write_response, response_given, blocks_beside, block_beside, written_where, is_sack, ResponseAnswer, refused_response, read_response, fields_given}
use Rattle.messages.specs.ResponseClaims.{GoodHeader, ResponseRow, header-size, header-check, header-format, block_size_is, block-check, header_alone, header_and_block}
use Rattle.messages.specs.Parts.{block_given, answer_with, answer_beside, response_by, answer_after}
use Rattle.packets.specs.declared.header.Common.{Common}
use Rattle.packets.specs.declared.header.Header.{Header}
use Rattle.packets.specs.declared.header.Header.TheVariants.{Response, Unconfirmed, Confirmed}
use Rattle.messages.specs.declared.message.Delivery.{Delivery}
use Rattle.messages.specs.declared.response.Reply.{Reply}
use Rattle.messages.specs.declared.response.Reply.TheVariants.{Ack, Nack, Sack}
use Rattle.messages.specs.declared.response.ResponseOctets.{ResponseOctets}
use Rattle.packets.proofs.HeaderWriting.{widths_else}
use Rattle.packets.proofs.HeaderReading.{given_is, size-refused, check-refused, format-refused, accepted, known-format, format_1}
use Rattle.messages.proofs.ResponseReading.{outcome_number, number_outcome, read-refused, read_accepted}

-- ---- the data block of a SACK

pub flags_are : (block : List ℕ) → length block ≡ 12 → put (replicate 8 0) 0 (take 8 block) ≡ take 8 block
flags_are block n = put_all (replicate 8 0) (take 8 block) (length-take-le 8 block (omega arith))

-- ---- what is written

-- the header with these fields
abbrev with : Delivery → ℕ → ℕ → ℕ → Header
with d count class kind = Response (record {
  group = 0;
  requested = 0;
  pad = 0;
  sap = d.sap;
  destination = d.destination;
  source = d.source;
  full = 0;
  blocks = count;
}) class kind d.ns

pub header_is : (r : Reply) (d : Delivery) (count class kind : ℕ) → count ≡ (reply_code r).2 → class ≡ (reply_code r).0 → kind ≡ (reply_code r).1
    → with d count class kind ≡ response_header r d
unfolding response_header
header_is r d count class kind e f g = λ i. with d (e i) (f i) (g i)

-- a response is what is given for what it stands for
pub given_for : (header : List ℕ) (block : Option (List ℕ))
    → ◌≡◌ {A = Result ResponseOctets Refusal} (Ok (record { header = header; block = block })) (response_given (written_where (record { header = header; block = block })))
unfolding response_given outcome blocks_beside block_beside
given_for header None = refl
given_for header (Some b) = refl

-- what is given, by what is given for the header
module _ (r : Reply) (d : Delivery) (flags : List ℕ) where
  pub write_refused : (x : Refusal) → header_octets_given (write_header (response_header r d)) ≡ Err x → Err x ≡ response_given (write_response r d flags)
  unfolding header_octets_given write_header response_given write_response outcome
  write_refused x e =
      let h = response_header r d in
      let n = err_number (width_number h) _ x e in
      rw (ne_eqb (width_number h) 0 n) (ap Err (sym (err_refusal (width_number h) _ x e) ∙ ap refusal (widths_else h n)))

  -- what is given stands for what is written
  pub stands_for : (header : List ℕ) (block : Option (List ℕ)) → header_octets_given (write_header (response_header r d)) ≡ Ok header → block ≡ block_given r flags
      → written_where (record { header = header; block = block }) ≡ write_response r d flags
  unfolding header_octets_given write_header write_response outcome block_given reply_code response_data blocks_beside block_beside
  stands_for header block e b =
      let h = response_header r d in
      let z = ok_zero (width_number h) _ header e in
      let o : header ≡ written_header h = sym (ok_same (width_number h) _ header e) ∙ rw z in
      rw z (λ i. record { number = 0; header = o i; blocks = (ap blocks_beside b ∙ count r) i; block = (ap block_beside b ∙ data_is r) i })
    where
      count : (x : Reply) → blocks_beside (block_given x flags) ≡ (reply_code x).2
      count Ack = refl
      count Nack = refl
      count Sack = refl

      data_is : (x : Reply) → block_beside (block_given x flags) ≡ response_data x flags
      data_is Ack = refl
      data_is Nack = refl
      data_is Sack = refl

  -- and so it is what is given for what is written
  pub write_done : (header : List ℕ) (block : Option (List ℕ)) → header_octets_given (write_header (response_header r d)) ≡ Ok header → block ≡ block_given r flags
      → Ok (record { header = header; block = block }) ≡ response_given (write_response r d flags)
  write_done header block e b = given_for header block ∙ ap response_given (stands_for header block e b)

-- ---- what is answered

module _ (c : Common) (class kind status : ℕ) (b : List ℕ) where
  pub beside_alone : (r : ResponseAnswer) → r ≡ answer_with c class kind status (replicate 8 0) → class ≢ 2 → r ≡ answer_beside c class kind status b
  unfolding answer_beside
  beside_alone r e n = e ∙ rw (ne_eqb class 2 n)

  module _ (sack : class ≡ 2) where
    pub beside_size : length b ≢ 12 → refused_response 1 ≡ answer_beside c class kind status b
    unfolding answer_beside
    beside_size n = rw (eq-eqb class 2 sack, ne_eqb (length b) 12 n)

    pub beside_check : length b ≡ 12 → message_good b ≡ false → refused_response 13 ≡ answer_beside c class kind status b
    unfolding answer_beside
    beside_check n g = rw (eq-eqb class 2 sack, eq-eqb (length b) 12 n, g)

    pub beside_flags : (r : ResponseAnswer) (flags : List ℕ) → r ≡ answer_with c class kind status flags → flags ≡ take 8 b → length b ≡ 12 → message_good b ≡ true
        → r ≡ answer_beside c class kind status b
    unfolding answer_beside
    beside_flags r flags e f n g = e ∙ ap (answer_with c class kind status) f ∙ rw (eq-eqb class 2 sack, eq-eqb (length b) 12 n, g)

module _ (h b : List ℕ) where
  by_header : (a : HeaderAnswer) → a ≡ read_header h → answer_after (read_header h) b ≡ answer_after a b
  by_header a e = ap (λ (x : HeaderAnswer). answer_after x b) (sym e)

  -- a header of another format
  other_format : format_of h ≢ 1 → response_by (header_of h) b ≡ refused_response 9
  unfolding header_of response_by
  other_format n = rw (ne_eqb (format_of h) 1 n) (go (eqb (format_of h) 2))
    where
      last : ℕ
      last = get_or h 9 0

      go : (t : Bool) → response_by (cond t (Unconfirmed (common_of h) (part 0 4 last)) (Confirmed (common_of h) (part 7 1 last) (part 4 3 last) (part 0 4 last))) b ≡ refused_response 9
      go true = refl
      go false = refl

  after-format : (t : Bool) → known_format (format_of h) ≡ t → length h ≡ 12 → header_good header_mask h ≡ true → format_of h ≢ 1 → answer_after (read_header h) b ≡ refused_response 9
  unfolding answer_after
  after-format true k n g f = by_header (Accepted (header_of h)) (accepted h n g k) ∙ other_format f
  after-format false k n g f = by_header (Refused 9) (format-refused h n g k)

  -- the header of a response
  after-good : GoodHeader h → answer_after (read_header h) b ≡ answer_beside (common_of h) (part 6 2 (get_or h 9 0)) (part 3 3 (get_or h 9 0)) (part 0 3 (get_or h 9 0)) b
  unfolding answer_after response_by
  after-good g =
      by_header (Accepted (header_of h)) (accepted h g.size g.check (known-format (format_of h) (omega (arith, g.format)) (omega (arith, g.format))))
      ∙ ap (λ (x : Header). response_by x b) (sym (format_1 h (common_of h) refl _ _ _ g.format refl refl refl))

  sack_class : is_sack h ≡ true → part 6 2 (get_or h 9 0) ≡ 2
  unfolding is_sack
  sack_class s = eqb-true _ 2 s

  other_class : is_sack h ≡ false → part 6 2 (get_or h 9 0) ≢ 2
  unfolding is_sack
  other_class s = eqb-false _ 2 s

  refused_is : (n : ℕ) → ResponseRow h b n → n ≢ 0 → refused_response n ≡ read_response h b
  refused_is n o z = ap refused_response (sym (outcome_number h b o)) ∙ sym (read-refused h b (λ e. z (sym (outcome_number h b o) ∙ e)))

  fields_is : (flags : List ℕ) → ResponseRow h b 0 → flags ≡ cond (is_sack h) (take 8 b) (replicate 8 0)
      → answer_with (common_of h) (part 6 2 (get_or h 9 0)) (part 3 3 (get_or h 9 0)) (part 0 3 (get_or h 9 0)) flags ≡ read_response h b
  fields_is flags o f = ap (answer_with (common_of h) _ _ _) f ∙ sym (read_accepted h b (outcome_number h b o))

  -- reading a response is reading its header, and then by that
  pub after_is : answer_after (read_header h) b ≡ read_response h b
  unfolding answer_after
  after_is = go (number_outcome h b)
    where
      go : {n : ℕ} → ResponseRow h b n → answer_after (read_header h) b ≡ read_response h b
      go (header-size e) = by_header (Refused 1) (size-refused h e) ∙ refused_is 1 (header-size e) (λ z. omega arith)
      go (header-check e f) = by_header (Refused 8) (check-refused h e f) ∙ refused_is 8 (header-check e f) (λ z. omega arith)
      go (header-format e f g) = after-format (known_format (format_of h)) refl e f g ∙ refused_is 9 (header-format e f g) (λ z. omega arith)
      go (block_size_is g s e) = after-good g ∙ sym (beside_size (common_of h) _ _ _ b (sack_class s) e) ∙ refused_is 1 (block_size_is g s e) (λ z. omega arith)
      go (block-check g s e f) = after-good g ∙ sym (beside_check (common_of h) _ _ _ b (sack_class s) e f) ∙ refused_is 13 (block-check g s e f) (λ z. omega arith)
      go (header_alone g s) = after-good g ∙ sym (beside_alone (common_of h) _ _ _ b _ refl (other_class s)) ∙ fields_is (replicate 8 0) (header_alone g s) (rw s)
      go (header_and_block g s e f) =
          after-good g ∙ sym (beside_flags (common_of h) _ _ _ b (sack_class s) _ (take 8 b) refl refl e f) ∙ fields_is (take 8 b) (header_and_block g s e f) (rw s)

  -- what is given, by what is given for the header
  pub read_refused : (x : Refusal) → header_given (read_header h) ≡ Err x → Err x ≡ fields_given (read_response h b)
  unfolding read_header answer_after fields_given
  read_refused x e =
      let n : ℕ = first_failed (header_tests h) in
      let f = sym (given_is h) ∙ e in
      sym (err_any n (header_of h) _ x f)
      ∙ ap fields_given (sym (ap (λ (t : Bool). answer_after (cond t (Accepted (header_of h)) (Refused n)) b) (ne_eqb n 0 (err_number n (header_of h) x f))) ∙ after_is)

  pub read_by : (k : Header) → header_given (read_header h) ≡ Ok k → response_by k b ≡ read_response h b
  unfolding read_header answer_after
  read_by k e =
      let n : ℕ = first_failed (header_tests h) in
      let f = sym (given_is h) ∙ e in
      ap (λ (x : Header). response_by x b) (sym (ok_same n (header_of h) k f))
      ∙ sym (ap (λ (t : Bool). answer_after (cond t (Accepted (header_of h)) (Refused n)) b) (eq-eqb n 0 (ok_zero n (header_of h) k f))) ∙ after_is
