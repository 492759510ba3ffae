-- The numbers of headers, blocks, messages and responses are those of refusals.
-- Assumes nothing.
use mathlib.Core.Path.{◌≡◌, refl, sym, ap}
use mathlib.Core.Bool.{Bool, true, false, cond}
use mathlib.Core.List.{List}
use Prim.Native.Nat.{ℕ, ◌/◌, ◌<◌}
use native.Mathlib.Omega.{arith}
use lib.Dec.{eqb, leb, ltb, lit<}
use lib.ListN.{length, get_or, drop}
use borrow.Author.Tests.{eqb-true, eqb-false}
use Rattle.foundation.specs.Order.{first_failed}
use Rattle.foundation.proofs.Tests.{either}
use Rattle.checks.specs.Checks.{header_good, block_good}
use Rattle.std.specs.Prelude.{Ok, Err}
use Rattle.foundation.specs.Refusals.{refusal, outcome}
use Rattle.foundation.specs.declared.refusal.Refusal.{Refusal}
use Rattle.packets.specs.Headers.{HeaderAnswer, Accepted, Refused, header_mask, format_of, known_format, header_tests, header_given, width_number, write_header, header_for}
use Rattle.packets.specs.declared.header.Common.{Common}
use Rattle.packets.specs.declared.header.Header.TheVariants.{Response, Unconfirmed, Confirmed}
use Rattle.packets.specs.Blocks.{BlockRead, block_tests, block_number, refused_block, read_block, block_writer_tests, write_block}
use Rattle.packets.specs.declared.header.Header.{Header}
use Rattle.packets.proofs.HeaderWriting.{widths_else}
use Rattle.messages.specs.Messages.{most_octets, blocks_of, size_of, block_part_tests, write_message_block, full_header, partial_header}
use Rattle.messages.specs.Responses.{response_header, write_response, read_response}
use Rattle.messages.specs.ResponseClaims.{ResponseRow, header-size, header-check, header-format, block_size_is, block-check, header_alone, header_and_block}
use Rattle.messages.specs.declared.message.Delivery.{Delivery}
use Rattle.messages.specs.declared.response.Reply.{Reply}
use Rattle.messages.proofs.ResponseClaims.{responses}
use Rattle.capi.specs.Answers.{header_written}

pub header_read_few : (h : List ℕ) → first_failed (header_tests h) < 20
unfolding header_tests first_failed
header_read_few h = go (eqb (length h) 12) (header_good header_mask h) (known_format (format_of h))
  where
    go : (a b c : Bool) → cond a (cond b (cond c 0 9) 8) 1 < 20
    go true true true = lit< tt
    go true true false = lit< tt
    go true false c = lit< tt
    go false b c = lit< tt

width_few : (h : Header) → width_number h < 20
width_few h =
    either (eqb (width_number h) 0) (λ t. let z = eqb-true (width_number h) 0 t in omega arith)
    (λ t. let w = widths_else h (eqb-false (width_number h) 0 t) in omega arith)

pub header_few : (h : Header) → (write_header h).number < 20
unfolding write_header
header_few h = width_few h

pub full_few : (n : ℕ) (d : Delivery) → (full_header n d).number < 20
unfolding full_header
full_few n d = either (leb n most_octets) (λ t. rw t (header_few _)) (λ t. rw t (lit< tt))

pub partial_few : (n : ℕ) (d : Delivery) (count : ℕ) → (partial_header n d count).number < 20
unfolding partial_header
partial_few n d count =
    either (leb n most_octets)
    (λ t. rw t (either (eqb count 0) (λ u. rw u (lit< tt)) (λ u. rw u (either (leb count (blocks_of n)) (λ v. rw v (header_few _)) (λ v. rw v (lit< tt))))))
    (λ t. rw t (lit< tt))

pub size_few : (n : ℕ) → (size_of n).number < 20
unfolding size_of
size_few n = either (leb n most_octets) (λ t. rw t (lit< tt)) (λ t. rw t (lit< tt))

pub part_few : (m : List ℕ) (n : ℕ) → (write_message_block m n).number < 20
unfolding write_message_block block_part_tests first_failed
part_few m n = go (leb (length m) most_octets) (ltb n (blocks_of (length m)))
  where
    go : (a b : Bool) → cond a (cond b 0 16) 16 < 20
    go true true = lit< tt
    go true false = lit< tt
    go false b = lit< tt

pub block_few : (serial : ℕ) (os : List ℕ) → (write_block serial os).number < 20
unfolding write_block block_writer_tests first_failed
block_few serial os = go (eqb (length os) 10) (ltb serial 128)
  where
    go : (a b : Bool) → cond a (cond b 0 16) 1 < 20
    go true true = lit< tt
    go true false = lit< tt
    go false b = lit< tt

pub block_read_few : (b : List ℕ) → (read_block b).number < 20
unfolding read_block block_number block_tests first_failed
block_read_few b = go (eqb (length b) 12) (block_good b)
  where
    by : ℕ → BlockRead
    by n = cond (eqb n 0) (record { number = 0; serial = get_or b 0 0 / 2; octets = drop 2 b }) (refused_block n)

    go : (a g : Bool) → (by (cond a (cond g 0 13) 1)).number < 20
    go true true = lit< tt
    go true false = lit< tt
    go false g = lit< tt

pub response_few : (r : Reply) (d : Delivery) (flags : List ℕ) → (write_response r d flags).number < 20
unfolding write_response
response_few r d flags = either (eqb (width_number (response_header r d)) 0) (λ t. rw t (lit< tt)) (λ t. rw t (lit< tt))

pub response_read_few : (h b : List ℕ) → (read_response h b).number < 20
response_read_few h b = go (read_response h b).number ((responses.numbers h b (read_response h b).number).0 refl)
  where
    go : (n : ℕ) → ResponseRow h b n → n < 20
    go _ (header-size e) = lit< tt
    go _ (header-check e f) = lit< tt
    go _ (header-format e f g) = lit< tt
    go _ (block_size_is g s e) = lit< tt
    go _ (block-check g s e f) = lit< tt
    go _ (header_alone g s) = lit< tt
    go _ (header_and_block g s e f) = lit< tt

-- ---- a header by its fields

module _ (format : ℕ) (c : Common) (x y z : ℕ) where
  by : Bool → Bool → Bool → HeaderAnswer
  by p q s = cond p (Accepted (Response c x y z)) (cond q (Accepted (Unconfirmed c x)) (cond s (Accepted (Confirmed c x y z)) (Refused 16)))

  pub fields_few : (header_written (header_for format c x y z)).0 < 20
  unfolding header_for header_written by
  fields_few = go (eqb format 1) (eqb format 2) (eqb format 3)
    where
      go : (p q s : Bool) → (header_written (by p q s)).0 < 20
      go true q s = header_few _
      go false true s = header_few _
      go false false true = header_few _
      go false false false = lit< tt

  -- a format that there is not
  pub fields_refused : (r : Refusal) → header_given (header_for format c x y z) ≡ Err r
      → Err r ≡ outcome (header_written (header_for format c x y z)).0 (header_written (header_for format c x y z)).1
  unfolding header_for header_given header_written outcome by
  fields_refused r e = go (eqb format 1) (eqb format 2) (eqb format 3) e
    where
      go : (p q s : Bool) → header_given (by p q s) ≡ Err r → Err r ≡ outcome (header_written (by p q s)).0 (header_written (by p q s)).1
      go true q s e = absurd (let o : ◌≡◌ {A = ℕ} 0 1 = cc in omega arith)
      go false true s e = absurd (let o : ◌≡◌ {A = ℕ} 0 1 = cc in omega arith)
      go false false true e = absurd (let o : ◌≡◌ {A = ℕ} 0 1 = cc in omega arith)
      go false false false e = let same : refusal 16 ≡ r = cc in ap Err (sym same)

pub accepted_is : (a : HeaderAnswer) (h : Header) → header_given a ≡ Ok h → a ≡ Accepted h
unfolding header_given
accepted_is (Accepted k) h e = let same : k ≡ h = cc in ap Accepted same
accepted_is (Refused n) h e = absurd (let o : ◌≡◌ {A = ℕ} 0 1 = cc in omega arith)
