-- Laws of reading a response: when which number is given, and that a response written reads back.
-- Assumes nothing.
use mathlib.Core.Path.{◌≡◌, refl, sym, ap, subst, ◌∙◌}
use mathlib.Core.Bool.{Bool, true, false, cond}
use mathlib.Core.List.{List, [], ◌∷◌}
use mathlib.Core.Logic.{◌↔◌, ◌≢◌, ◌⊎◌, inl, inr}
use Prim.Native.Nat.{ℕ, ◌<◌}
use native.Mathlib.Decide.{ℕ_discrete}
use native.Mathlib.Omega.{arith}
use lib.Dec.{eqb}
use lib.ListN.{length, get_or, take, replicate, length-append}
use lib.Seq.{take_at}
use borrow.Author.Tests.{eq-eqb, ne_eqb}
use Rattle.foundation.specs.Order.{first_failed}
use Rattle.checks.specs.Checks.{message_check, lowest_first, header_good, message_good}
use Rattle.checks.proofs.MessageChecks.{message_carried}
use Rattle.packets.specs.Headers.{header_mask, part, format_of, common_of, written_header, width_number}
use Rattle.packets.specs.Parts.{common_fields}
use Rattle.messages.specs.MessageClaims.{Within}
use Rattle.messages.specs.Responses.{reply_code, response_header, sack_data, response_data, write_response, is_sack, response_number, refused_response, read_response}
use Rattle.messages.specs.ResponseClaims.{flags_of, answer_of, ResponseReadsBack, GoodHeader, ResponseRow, header-size, header-check, header-format, block_size_is, block-check, header_alone, header_and_block}
use Rattle.messages.specs.Parts.{answer_with}
use Rattle.messages.specs.declared.message.Delivery.{Delivery}
use Rattle.messages.specs.declared.response.Reply.{Reply}
use Rattle.messages.specs.declared.response.Reply.TheVariants.{Ack, Nack, Sack}
use Rattle.messages.specs.Responses.{ResponseAnswer}
use Rattle.messages.specs.Responses.{ResponseWritten}
use Rattle.packets.proofs.HeaderWriting.{fits}
use Rattle.packets.proofs.HeaderBack.{written-length, written-good, written-format, written_last, written_common, common_fits, last_fits}

true_or_false : (t : Bool) → (t ≡ true) ⊎ (t ≡ false)
true_or_false true = inl refl
true_or_false false = inr refl

module _ (h b : List ℕ) where
  after-header : GoodHeader h
      → response_number h b ≡ first_failed ((cond (is_sack h) (eqb (length b) 12) true, 1) ∷ (cond (is_sack h) (message_good b) true, 13) ∷ [])
  unfolding response_number first_failed
  after-header g = rw (eq-eqb (length h) 12 g.size, g.check, eq-eqb (format_of h) 1 g.format)

  -- the number that each outcome says
  pub outcome_number : {n : ℕ} → ResponseRow h b n → response_number h b ≡ n
  unfolding response_number first_failed
  outcome_number (header-size e) = rw (ne_eqb (length h) 12 e)
  outcome_number (header-check e f) = rw (eq-eqb (length h) 12 e, f)
  outcome_number (header-format e f g) = rw (eq-eqb (length h) 12 e, f, ne_eqb (format_of h) 1 g)
  outcome_number (block_size_is g s e) = after-header g ∙ rw (s, ne_eqb (length b) 12 e)
  outcome_number (block-check g s e f) = after-header g ∙ rw (s, eq-eqb (length b) 12 e, f)
  outcome_number (header_alone g s) = after-header g ∙ rw s
  outcome_number (header_and_block g s e f) = after-header g ∙ rw (s, eq-eqb (length b) 12 e, f)

  -- one of them applies
  block_outcome : GoodHeader h → (n : ℕ) × ResponseRow h b n
  block_outcome g = sack (true_or_false (is_sack h))
    where
      message : is_sack h ≡ true → length b ≡ 12 → (message_good b ≡ true) ⊎ (message_good b ≡ false) → (n : ℕ) × ResponseRow h b n
      message s e (inl f) = (0, header_and_block g s e f)
      message s e (inr f) = (13, block-check g s e f)

      size : is_sack h ≡ true → Dec (length b ≡ 12) → (n : ℕ) × ResponseRow h b n
      size s (yes e) = message s e (true_or_false (message_good b))
      size s (no e) = (1, block_size_is g s e)

      sack : (is_sack h ≡ true) ⊎ (is_sack h ≡ false) → (n : ℕ) × ResponseRow h b n
      sack (inl s) = size s (ℕ_discrete (length b) 12)
      sack (inr s) = (0, header_alone g s)

  some_outcome : (n : ℕ) × ResponseRow h b n
  some_outcome = size (ℕ_discrete (length h) 12)
    where
      format : length h ≡ 12 → header_good header_mask h ≡ true → Dec (format_of h ≡ 1) → (n : ℕ) × ResponseRow h b n
      format e f (yes g) = block_outcome (record { size = e; check = f; format = g })
      format e f (no g) = (9, header-format e f g)

      check : length h ≡ 12 → (header_good header_mask h ≡ true) ⊎ (header_good header_mask h ≡ false) → (n : ℕ) × ResponseRow h b n
      check e (inl f) = format e f (ℕ_discrete (format_of h) 1)
      check e (inr f) = (8, header-check e f)

      size : Dec (length h ≡ 12) → (n : ℕ) × ResponseRow h b n
      size (yes e) = check e (true_or_false (header_good header_mask h))
      size (no e) = (1, header-size e)

  pub number_outcome : ResponseRow h b (response_number h b)
  number_outcome = subst (ResponseRow h b) (sym (outcome_number some_outcome.1)) some_outcome.1

  pub read-refused : response_number h b ≢ 0 → read_response h b ≡ refused_response (response_number h b)
  unfolding read_response
  read-refused e = rw (ne_eqb (response_number h b) 0 e)

  abbrev pub fields_read : ResponseAnswer
  fields_read = answer_with (common_of h) (part 6 2 (get_or h 9 0)) (part 3 3 (get_or h 9 0)) (part 0 3 (get_or h 9 0)) (cond (is_sack h) (take 8 b) (replicate 8 0))

  pub read_accepted : response_number h b ≡ 0 → read_response h b ≡ fields_read
  unfolding read_response answer_with
  read_accepted e = rw e

  pub read_number : (read_response h b).number ≡ response_number h b
  unfolding answer_with
  read_number = go (ℕ_discrete (response_number h b) 0)
    where
      go : Dec (response_number h b ≡ 0) → (read_response h b).number ≡ response_number h b
      go (yes e) = ap (λ (a : ResponseAnswer). a.number) (read_accepted e) ∙ sym e
      go (no e) = ap (λ (a : ResponseAnswer). a.number) (read-refused e)

  -- each number is given exactly where an outcome says it
  pub number_exactly : (n : ℕ) → ((read_response h b).number ≡ n) ↔ ResponseRow h b n
  number_exactly n = (λ e. subst (ResponseRow h b) (sym read_number ∙ e) number_outcome, λ o. read_number ∙ outcome_number o)

  pub refused-zeros : (read_response h b).number ≢ 0 → read_response h b ≡ refused_response (read_response h b).number
  refused-zeros e = read-refused (λ z. e (read_number ∙ z)) ∙ ap refused_response (sym read_number)

-- no block is looked at but that of a SACK
pub read-unlooked : (h b b' : List ℕ) → is_sack h ≡ false → read_response h b ≡ read_response h b'
unfolding read_response response_number
read-unlooked h b b' s = rw s

-- ---- a response written

reply_small : (r : Reply) → ((reply_code r).0 < 4) × ((reply_code r).1 < 8) × ((reply_code r).2 < 128)
unfolding reply_code
reply_small Ack = (omega arith, omega arith, omega arith)
reply_small Nack = (omega arith, omega arith, omega arith)
reply_small Sack = (omega arith, omega arith, omega arith)

-- the octets of its header
abbrev header_octets : Reply → Delivery → List ℕ
header_octets r d = written_header (response_header r d)

module _ (r : Reply) (d : Delivery) (w : Within d) where
  pub response_fits : width_number (response_header r d) ≡ 0
  unfolding response_header
  response_fits =
      fits (response_header r d) (record {
        group = omega arith;
        requested = omega arith;
        pad = omega arith;
        sap = w.sap;
        destination = w.destination;
        source = w.source;
        full = omega arith;
        blocks = (reply_small r).2;
      }) ((reply_small r).0, (reply_small r).1, w.ns)

  pub response-written : (flags : List ℕ)
      → write_response r d flags ≡ record { number = 0; header = written_header (response_header r d); blocks = (reply_code r).2; block = response_data r flags }
  unfolding write_response
  response-written flags = rw response_fits

  -- what its header's octets hold
  good-header : GoodHeader (header_octets r d)
  unfolding response_header
  good-header =
      record { size = written-length (response_header r d); check = written-good (response_header r d); format = written-format (response_header r d) }

  last_of : (part 6 2 (get_or (header_octets r d) 9 0) ≡ (reply_code r).0) × (part 3 3 (get_or (header_octets r d) 9 0) ≡ (reply_code r).1) × (part 0 3 (get_or (header_octets r d) 9 0) ≡ d.ns)
  unfolding response_header
  last_of =
      let e = written_last (response_header r d) in
      let l = last_fits (response_header r d) response_fits in
      (omega arith, omega arith, omega arith)

  sack-read : is_sack (header_octets r d) ≡ eqb (reply_code r).0 2
  unfolding is_sack response_header
  sack-read = ap (λ (n : ℕ). eqb n 2) last_of.0

  common_of_lem : common_of (header_octets r d) ≡ common_fields (response_header r d)
  common_of_lem = written_common (response_header r d) response_fits

  -- what is read where its block, if it has one, is good
  fields_read_lem : (flags b : List ℕ) → response_number (header_octets r d) b ≡ 0 → cond (is_sack (header_octets r d)) (take 8 b) (replicate 8 0) ≡ flags_of r flags
      → read_response (header_octets r d) b ≡ answer_of r d flags
  unfolding response_header answer_with
  fields_read_lem flags b e f = read_accepted (header_octets r d) b e ∙ (λ i. record {
    number = 0;
    class = last_of.0 i;
    kind = last_of.1 i;
    status = last_of.2 i;
    sap = (common_of_lem i).sap;
    destination = (common_of_lem i).destination;
    source = (common_of_lem i).source;
    flags = f i;
  })

  alone_read : (reply_code r).0 ≢ 2 → (flags b : List ℕ) → flags_of r flags ≡ replicate 8 0 → read_response (header_octets r d) b ≡ answer_of r d flags
  alone_read e flags b f = fields_read_lem flags b (outcome_number (header_octets r d) b (header_alone good-header s)) (rw s (sym f))
    where
      s : is_sack (header_octets r d) ≡ false
      s = sack-read ∙ ne_eqb (reply_code r).0 2 e

module _ (flags : List ℕ) where
  pub length-sack_data : length flags ≡ 8 → length (sack_data flags) ≡ 12
  unfolding sack_data lowest_first
  length-sack_data n = simp length-append (omega arith)

  pub good-sack_data : message_good (sack_data flags) ≡ true
  unfolding sack_data
  good-sack_data = message_carried flags

module _ (d : Delivery) (flags : List ℕ) (w : Within d) where
  pub ack_back : (b : List ℕ) → read_response (write_response Ack d flags).header b ≡ answer_of Ack d flags
  unfolding reply_code flags_of
  ack_back b = rw (response-written Ack d w flags) (alone_read Ack d w (λ e. omega arith) flags b refl)

  pub nack_back : (b : List ℕ) → read_response (write_response Nack d flags).header b ≡ answer_of Nack d flags
  unfolding reply_code flags_of
  nack_back b = rw (response-written Nack d w flags) (alone_read Nack d w (λ e. omega arith) flags b refl)

  pub sack_back : length flags ≡ 8 → read_response (write_response Sack d flags).header (write_response Sack d flags).block ≡ answer_of Sack d flags
  unfolding reply_code flags_of response_data sack_data
  sack_back n =
      rw (response-written Sack d w flags)
      (fields_read_lem Sack d w flags (sack_data flags)
      (outcome_number (header_octets Sack d) (sack_data flags) (header_and_block (good-header Sack d w) (sack-read Sack d w) (length-sack_data flags n) (good-sack_data flags)))
      (rw (sack-read Sack d w) (take_at flags (lowest_first (message_check flags)) 8 n)))

response_back : (r : Reply) (d : Delivery) (flags : List ℕ) → Within d → length flags ≡ 8
    → read_response (write_response r d flags).header (write_response r d flags).block ≡ answer_of r d flags
response_back Ack d flags w n = ack_back d flags w (write_response Ack d flags).block
response_back Nack d flags w n = nack_back d flags w (write_response Nack d flags).block
response_back Sack d flags w n = sack_back d flags w n

pub response_unwritten : (r : Reply) (d : Delivery) (flags : List ℕ) → width_number (response_header r d) ≢ 0
    → write_response r d flags ≡ record { number = 16; header = replicate 12 0; blocks = 0; block = replicate 12 0 }
unfolding write_response
response_unwritten r d flags n = rw (ne_eqb (width_number (response_header r d)) 0 n)

-- fields of a response that is written are within their widths
header-within : (r : Reply) (d : Delivery) → width_number (response_header r d) ≡ 0 → Within d
unfolding response_header
header-within r d none =
    let c = common_fits (response_header r d) none in
    record { sap = c.sap; ns = (last_fits (response_header r d) none).2; destination = c.destination; source = c.source }

pub answer_back : (r : Reply) (d : Delivery) (flags : List ℕ) → length flags ≡ 8 → ResponseReadsBack r d flags (write_response r d flags)
answer_back r d flags n none = go (ℕ_discrete (width_number (response_header r d)) 0)
  where
    go : Dec (width_number (response_header r d) ≡ 0) → read_response (write_response r d flags).header (write_response r d flags).block ≡ answer_of r d flags
    go (yes e) = response_back r d flags (header-within r d e) n
    go (no e) =
        let f : (write_response r d flags).number ≡ 16 = ap (λ (x : ResponseWritten). x.number) (response_unwritten r d flags e) in
        absurd (omega arith)
