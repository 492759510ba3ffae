-- A response to an end of attempt: its octets, and that what is given for it is said as it is.
-- Assumes nothing.
use mathlib.Core.Path.{◌≡◌, refl, sym, ap}
use mathlib.Core.Bool.{cond}
use mathlib.Core.List.{List}
use Prim.Native.Nat.{ℕ, zero, suc, ◌*◌, ◌≤◌, ◌<◌}
use native.Mathlib.Omega.{arith}
use lib.Dec.{eqb}
use lib.ListN.{length, take}
use lib.Seq.{take_all}
use borrow.Author.Tests.{eqb-true, eqb-false, ne_eqb}
use Rattle.std.specs.Prelude.{None, Some}
use Rattle.foundation.specs.Refusals.{outcome, number_given}
use Rattle.foundation.proofs.Refusals.{number_back}
use Rattle.foundation.proofs.Tests.{either}
use Rattle.packets.specs.Headers.{width_number}
use Rattle.packets.proofs.HeaderBack.{written-length}
use Rattle.messages.specs.Responses.{ResponseWritten, reply_code, response_header, response_data, write_response, response_given}
use Rattle.messages.specs.declared.message.Delivery.{Delivery}
use Rattle.messages.specs.declared.response.Reply.{Reply}
use Rattle.messages.specs.declared.response.Reply.TheVariants.{Ack, Nack, Sack}
use Rattle.messages.specs.declared.response.ResponseOctets.{ResponseOctets}
use Rattle.messages.proofs.ResponseReading.{length-sack_data}
use Rattle.transactions.specs.Answers.{refused, response, sack_flags, response_to, response_said, block_said, given_said}
use Rattle.transactions.specs.Flags.{flag_octet_count, flag_octets}
use Rattle.receiver_state.specs.declared.Receiver.{Receiver}
use Rattle.receiver_state.specs.Receiver.{receiver_good}
use Rattle.receiver.specs.Events.{on_end}

-- header and data block have 12 octets each, there is at most one, and the number is one of the table
pub record Whole (w : ResponseWritten) : Type 0 where
  pub header : length w.header ≡ 12
  pub block : length w.block ≡ 12
  pub few : w.blocks ≤ 1
  pub small : w.number < 20

data_twelve : (r : Reply) (flags : List ℕ) → length flags ≡ flag_octet_count → length (response_data r flags) ≡ 12
unfolding response_data
data_twelve r flags e = either (eqb (reply_code r).2 0) (λ t. rw t) (λ t. rw t (length-sack_data flags e))

few_blocks : (r : Reply) → (reply_code r).2 ≤ 1
unfolding reply_code
few_blocks Ack = omega arith
few_blocks Nack = omega arith
few_blocks Sack = omega arith

written_whole : (r : Reply) (d : Delivery) (flags : List ℕ) → length flags ≡ flag_octet_count → Whole (write_response r d flags)
unfolding write_response
written_whole r d flags e =
    either (eqb (width_number (response_header r d)) 0)
    (λ t. rw t (record { header = written-length (response_header r d); block = data_twelve r flags e; few = few_blocks r; small = omega arith }))
    (λ t. rw t (record { header = refl; block = refl; few = omega arith; small = omega arith }))

pub end_whole : (rx : Receiver) → Whole (on_end rx)
unfolding on_end response_to sack_flags flag_octets
end_whole rx =
    either (receiver_good rx)
    (λ t. rw t (either (eqb rx.phase 0)
    (λ e. rw e (record { header = refl; block = refl; few = omega arith; small = omega arith })) (λ e. rw e (written_whole _ _ _ refl))))
    (λ t. rw t (record { header = refl; block = refl; few = omega arith; small = omega arith }))

data_said : (w : ResponseWritten) → Whole w → block_said (cond (eqb w.blocks 0) None (Some w.block)) ≡ take (12 * w.blocks) w.block
unfolding block_said
data_said w k =
    either (eqb w.blocks 0)
    (λ t. let z = eqb-true w.blocks 0 t in rw z)
    (λ t. let n = eqb-false w.blocks 0 t in let one : w.blocks ≡ 1 = omega (arith, k.few) in rw one (sym (take_all 12 w.block (omega (arith, k.block)))))

said_alike : (w : ResponseWritten) → Whole w → given_said (response_given w) ≡ response_said w
unfolding given_said response_given response_said outcome number_given
said_alike w k = go w.number k.small
  where
    a : ResponseOctets
    a = record { header = w.header; block = cond (eqb w.blocks 0) None (Some w.block) }

    go : (n : ℕ) → n < 20 → given_said (outcome n a) ≡ cond (eqb n 0) (response w.header (take (12 * w.blocks) w.block)) (refused n)
    go zero l = ap (response w.header) (data_said w k)
    go (suc n) l = rw (ne_eqb (suc n) 0 (λ e. omega arith)) (ap refused (number_back (suc n) a l))

pub end_said : (rx : Receiver) → given_said (response_given (on_end rx)) ≡ response_said (on_end rx)
end_said rx = said_alike (on_end rx) (end_whole rx)
