-- By the history rule a message that is written, given whole and in order, is handed on.
-- Assumes nothing.
use mathlib.Core.Path.{◌≡◌, refl, sym, ap, ap₂, subst, ◌∙◌}
use mathlib.Core.Bool.{true, false}
use mathlib.Core.List.{List, [], ◌∷◌, ◌++◌}
use Prim.Native.Nat.{ℕ, zero, suc, ◌+◌, ◌*◌, ◌-◌, ◌/◌, ◌%◌, ◌≤◌, ◌<◌}
use native.Mathlib.Omega.{arith}
use lib.ListN.{length, take, replicate}
use borrow.Author.Tests.{eq-eqb, le-leb, lt-ltb}
use Rattle.foundation.specs.Order.{first_failed, all}
use Rattle.checks.specs.Checks.{block_good}
use Rattle.foundation.proofs.Tests.{every_true}
use Rattle.packets.specs.Headers.{header_tests, header_number, written_header, width_number, write_header}
use Rattle.packets.specs.Blocks.{block_tests, written_block}
use Rattle.messages.specs.Messages.{block_size, check_size, most_blocks, most_octets, blocks_of, pad_of, laid_out, block_data, confirmed_fsn, attempt_header, full_header}
use Rattle.messages.specs.MessageClaims.{Within}
use Rattle.packets.specs.declared.header.Header.{Header}
use Rattle.packets.specs.Headers.{HeaderOctets}
use Rattle.packets.specs.Blocks.{BlockRead}
use Rattle.messages.specs.declared.message.Delivery.{Delivery}
use Rattle.packets.proofs.HeaderClaims.{claims as headers}
use Rattle.packets.proofs.BlockClaims.{claims as blocks}
use Rattle.messages.proofs.MessageClaims.{messages}
use Rattle.packets.proofs.HeaderBack.{written-format, written_last, written_common, written-octets, reads_back as header-back}
use Rattle.packets.proofs.BlockBack.{written-length, written-good, reads_back as block_back}
use Rattle.transactions.specs.Transactions.{transaction_of, is_full, heard_tests, heard_number, repeats, serial_of, data_of, taken_tests, taken_number}
use Rattle.transactions.specs.Answers.{Said, opened, stored, message}
use Rattle.transactions.specs.declared.header.Transaction.{Transaction}
use Rattle.transactions.proofs.Order.{header_run}
use Rattle.foundation.proofs.Order.{every_stops}
use Rattle.history.specs.History.{Kept, History, nothing, holds, held_data, opens, after_header, keeping, whole, message_of, after_block, after, header_said, kept_number, handed_on, block_said, said_to, said_from}
use Rattle.history.specs.Claims.{Octets, block_events, sending}
use Rattle.history.proofs.Once.{taken-valid}
use Rattle.history.proofs.Kept.{joined_ext}
use Rattle.history.proofs.KeptInOrder.{kept_to, none_from, all-below, data_below}

-- the transaction of a message, and the history after its header and its first k blocks
unfoldable pub sent : List ℕ → Delivery → Transaction
sent m d = record { source = d.source; sap = d.sap; ns = d.ns; pad = pad_of (length m); blocks = blocks_of (length m) }

unfoldable pub before : List ℕ → Delivery → ℕ → History
before m d k = record { phase = 1; transaction = sent m d; kept = kept_to m k }

pub sent-size : (m : List ℕ) (d : Delivery) → block_size * (sent m d).blocks - check_size - (sent m d).pad ≡ length m
unfolding sent
sent-size m d = omega (arith, messages.filled (length m))

-- ---- the header

module _ (m : List ℕ) (d : Delivery) (short : length m ≤ most_octets) (within : Within d) where
  abbrev said : Header
  said = attempt_header (length m) d 1 (blocks_of (length m))

  abbrev h : List ℕ
  h = written_header said

  fits : width_number said ≡ 0
  unfolding full_header write_header
  fits = rw (le-leb (length m) most_octets short) at (ap (λ (o : HeaderOctets). o.number) (messages.full-header (length m) d within short))

  header-good : first_failed (header_tests h) ≡ 0
  unfolding header_number
  header-good = sym (headers.number h) ∙ ap header_number (header-back said fits)

  heard : heard_number d.destination h ≡ 0
  unfolding heard_number heard_tests attempt_header is_full first_failed
  heard =
      let n : ℕ = length m in
      let b : ℕ = blocks_of n in
      header_run _ h header-good
      ∙ rw (
        written-format said,
        written_common said fits,
        eq-eqb d.destination.0 d.destination.0 refl,
        le-leb 1 b (messages.some_block n),
        le-leb b most_blocks (messages.few_blocks n short),
        le-leb (pad_of n) (block_size * b - check_size) (omega (arith, messages.filled n)),
      )

  full : is_full h ≡ true
  unfolding is_full attempt_header
  full = rw (written_common said fits)

  of_header : transaction_of h ≡ sent m d
  unfolding transaction_of sent attempt_header
  of_header =
      let ns : (0 + 16 * d.ns + confirmed_fsn) / 16 % 8 ≡ d.ns = omega (arith, within.ns) in
      rw (written_common said fits, written_last said, ns)

  header-said : header_said d.destination nothing h ≡ opened
  unfolding header_said repeats nothing
  header-said = rw (heard, full)

  pub after-header : after_header d.destination nothing h ≡ before m d 0
  unfolding after_header opens all repeats nothing before kept_to
  after-header = rw (heard, full, of_header)

  pub header-octets : Octets h
  header-octets = written-octets said fits

-- ---- a block

module _ (m : List ℕ) (d : Delivery) (short : length m ≤ most_octets) (k : ℕ) (low : k < blocks_of (length m)) where
  abbrev b : List ℕ
  b = written_block k (block_data m k)

  narrow : k < 128
  narrow = omega (arith, messages.few_blocks (length m) short)

  ten : length (block_data m k) ≡ 10
  ten = messages.block_size_is m k low

  twelve : length b ≡ 12
  twelve = written-length k (block_data m k) ten

  check-good : block_good b ≡ true
  check-good = written-good k (block_data m k) narrow

  pub kept_is : ◌≡◌ {A = Kept} (record { serial = serial_of b; octets = data_of b }) (record { serial = k; octets = block_data m k })
  unfolding serial_of data_of
  kept_is =
      ap (λ (r : BlockRead). record { serial = r.serial; octets = r.octets })
      (sym (blocks.fields b twelve check-good) ∙ block_back k (block_data m k) narrow ten)

  serial : serial_of b ≡ k
  serial = ap (λ (j : Kept). j.serial) kept_is

  keeping_is : keeping (before m d k) b ≡ kept_to m (suc k)
  unfolding keeping before kept_to
  keeping_is = ap (λ (j : Kept). kept_to m k ++ j ∷ []) kept_is

  pub new : holds (kept_to m k) (serial_of b) ≡ false
  new = rw serial (none_from m k k (omega arith))

  pub number-zero : kept_number (before m d k) b ≡ 0
  unfolding kept_number taken_number taken_tests before sent block_tests first_failed
  number-zero = rw (eq-eqb (length b) 12 twelve, check-good, new, serial, lt-ltb k (blocks_of (length m)) low)

  -- not the last: it is stored
  module _ (more : suc k < blocks_of (length m)) where
    not_whole : whole (sent m d) (kept_to m (suc k)) ≡ false
    unfolding whole sent
    not_whole = every_stops (holds (kept_to m (suc k))) (blocks_of (length m)) (omega arith) (none_from m (suc k) (blocks_of (length m) - 1) (omega arith))

    block-said : block_said (before m d k) b ≡ stored
    unfolding block_said before
    block-said = rw (number-zero, new, keeping_is, not_whole)

    pub after-block : after_block (before m d k) b ≡ before m d (suc k)
    unfolding after_block before
    after-block = rw (taken-valid (before m d k) b number-zero, keeping_is, not_whole)

  -- the last: the message is handed on
  module _ (last : suc k ≡ blocks_of (length m)) where
    is_whole : whole (sent m d) (kept_to m (suc k)) ≡ true
    unfolding whole sent
    is_whole = every_true (blocks_of (length m)) (holds (kept_to m (suc k))) (λ n l. all-below m (suc k) n (omega arith))

    laid_out_lem : message_of (sent m d) (kept_to m (suc k)) ≡ laid_out m
    unfolding message_of sent
    laid_out_lem =
        joined_ext (held_data (kept_to m (suc k))) (block_data m) (blocks_of (length m)) (λ n l. data_below m (suc k) n (omega arith))
        ∙ messages.blocks-joined m

    handed_on_lem : handed_on (sent m d) (kept_to m (suc k)) ≡ m
    unfolding handed_on
    handed_on_lem = ap₂ take (sent-size m d) laid_out_lem ∙ messages.front m

    pub last_said : block_said (before m d k) b ≡ message m
    unfolding block_said before
    last_said = rw (number-zero, new, keeping_is, is_whole, laid_out_lem, messages.good m, handed_on_lem)

-- ---- the whole

module _ (m : List ℕ) (d : Delivery) (short : length m ≤ most_octets) where
  from_block : (j k : ℕ) → k + suc j ≡ blocks_of (length m)
      → said_from d.destination (before m d k) (block_events m k (suc j)) ≡ replicate j stored ++ message m ∷ []
  unfolding said_from said_to after block_events
  from_block zero k e =
      rw (messages.block_written m k short (omega arith)) (ap (λ (s : Said). s ∷ []) (last_said m d short k (omega arith) (omega arith)))
  from_block (suc j) k e =
      rw (messages.block_written m k short (omega arith), block-said m d short k (omega arith) (omega arith), after-block m d short k (omega arith) (omega arith))
      (ap (λ (ss : List Said). stored ∷ ss) (from_block j (suc k) (omega arith)))

  all_blocks : said_from d.destination (before m d 0) (block_events m 0 (blocks_of (length m))) ≡ replicate (blocks_of (length m) - 1) stored ++ message m ∷ []
  all_blocks =
      let b : ℕ = blocks_of (length m) in
      let some : suc (b - 1) ≡ b = omega (arith, messages.some_block (length m)) in
      subst (λ (n : ℕ). said_from d.destination (before m d 0) (block_events m 0 n) ≡ replicate (b - 1) stored ++ message m ∷ []) some
      (from_block (b - 1) 0 (omega arith))

pub delivered_history : (m : List ℕ) (d : Delivery) → length m ≤ most_octets → Within d
    → said_from d.destination nothing (sending m d) ≡ opened ∷ replicate (blocks_of (length m) - 1) stored ++ message m ∷ []
unfolding sending said_from said_to after
delivered_history m d short within =
    rw (messages.full-header (length m) d within short, header-said m d short within, after-header m d short within)
    (ap (λ (ss : List Said). opened ∷ ss) (all_blocks m d short))
