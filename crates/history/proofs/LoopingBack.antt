-- A message looped back: the receiver follows the history of the blocks given so far, which stand in the store, and the last one hands the
-- message on.
-- Assumes nothing.
use mathlib.Core.Path.{◌≡◌, refl, sym, ap, ap₂, subst, ◌∙◌}
use mathlib.Core.List.{List}
use mathlib.Core.Logic.{◌≢◌}
use Prim.Native.Nat.{ℕ, suc, ◌+◌, ◌*◌, ◌-◌, ◌≤◌, ◌<◌}
use native.Mathlib.Nat.{zero-add}
use native.Mathlib.Numerals.{add-one}
use native.Mathlib.Omega.{arith}
use lib.Dec.{eqb, leb}
use lib.ListN.{length, take}
use lib.Seq.{length-take-le}
use borrow.Author.Tests.{eq-eqb, ne_eqb, leb-true}
use Rattle.addresses.specs.declared.RadioAddress.{RadioAddress}
use Rattle.foundation.specs.Octets.{over}
use Rattle.foundation.specs.Order.{first_failed}
use Rattle.foundation.proofs.Copying.{Grown, grown, grown_none}
use Rattle.checks.specs.Checks.{message_good}
use Rattle.packets.specs.Headers.{written_header, width_number, write_header}
use Rattle.packets.specs.Blocks.{written_block}
use Rattle.messages.specs.Messages.{block_size, check_size, most_octets, blocks_of, laid_out, block_data, joined, write_message_block, attempt_header, full_header}
use Rattle.messages.specs.MessageClaims.{Within}
use Rattle.packets.specs.Headers.{HeaderOctets}
use Rattle.packets.specs.Blocks.{BlockOctets}
use Rattle.messages.specs.declared.message.Delivery.{Delivery}
use Rattle.packets.proofs.HeaderBack.{common_fits, last_fits}
use Rattle.messages.proofs.MessageClaims.{messages}
use Rattle.messages.proofs.MessageLayout.{joined-parts}
use Rattle.transactions.specs.Transactions.{serial_of}
use Rattle.transactions.specs.Answers.{message}
use Rattle.transactions.specs.declared.header.Transaction.{Transaction}
use Rattle.foundation.proofs.Tests.{either}
use Rattle.receiver_state.specs.Receiver.{store_size, held, all_held, fresh_receiver}
use Rattle.receiver.specs.Events.{Answer, Refused, Opened, Repeat, Stored, Bad, Message, Step, BlockLeft, said, put_block, block_refusal, completed, taken, on_header, on_block}
use Rattle.receiver_state.specs.declared.Receiver.{Receiver}
use Rattle.history.specs.History.{Kept, header, nothing, after_block, after, block_said, said_to}
use Rattle.history.specs.Run.{State, after_event, answer_to}
use Rattle.history.specs.Claims.{fresh_state}
use Rattle.history.specs.Sending.{loop_number, LoopsBack}
use Rattle.history.proofs.Sound.{sound_block}
use Rattle.history.proofs.Follows.{Follows, fresh_follows}
use Rattle.history.proofs.Steps.{Matches}
use Rattle.history.proofs.Blocks.{same_number, block-step}
use Rattle.history.proofs.Demand3.{event-step}
use Rattle.history.proofs.Delivered.{before, sent-size, after-header, header-octets, kept_is, new, number-zero, after-block, last_said}

-- ---- what is refused

-- what a header is written for: a message of n octets that is short enough, and fields within their widths
pub record Taken (n : ℕ) (d : Delivery) : Type 0 where
  pub short : n ≤ most_octets
  pub within : Within d

-- and nothing else
pub header-taken : (n : ℕ) (d : Delivery) → (full_header n d).number ≡ 0 → Taken n d
unfolding full_header write_header attempt_header
header-taken n d e =
    either (leb n most_octets)
    (λ t. let w : width_number (attempt_header n d 1 (blocks_of n)) ≡ 0 = rw t at e in
    let c = common_fits (attempt_header n d 1 (blocks_of n)) w in
    let l = last_fits (attempt_header n d 1 (blocks_of n)) w in
    record { short = leb-true n most_octets t; within = record { sap = c.sap; ns = l.1; destination = c.destination; source = c.source } })
    (λ t. absurd (omega (arith, rw t at e)))

module _ (m : List ℕ) (d : Delivery) (store : List ℕ) where
  -- the answer to a refusal is its number
  refusal : (n : ℕ) → n ≢ 0 → loop_number m d store ≡ n → LoopsBack m d store (Refused n) store
  refusal n some e = record { handed_on_lem = λ z. absurd (some (sym e ∙ z)); refused = λ _. (ap Refused (sym e), refl) }

  pub other_store : length store ≢ store_size → LoopsBack m d store (Refused 1) store
  unfolding loop_number first_failed
  other_store h = refusal 1 (λ e. omega arith) (rw (ne_eqb (length store) store_size h))

  module _ (room : length store ≡ store_size) where
    pub no_header : (full_header (length m) d).number ≢ 0 → LoopsBack m d store (Refused 16) store
    unfolding loop_number first_failed
    no_header h =
        refusal 16 (λ e. omega arith) (rw (eq-eqb (length store) store_size room, ne_eqb (full_header (length m) d).number 0 h))

-- ---- the length of a message that is handed on

-- n for every other answer
abbrev handed_size : ℕ → Answer → ℕ
handed_size n (Refused k) = n
handed_size n Opened = n
handed_size n Repeat = n
handed_size n Stored = n
handed_size n Bad = n
handed_size n (Message k) = k

abbrev size_in : Transaction → ℕ
size_in t = block_size * t.blocks - check_size - t.pad

taken-size : (rx : Receiver) (store : List ℕ) → handed_size (size_in rx.transaction) (taken rx store).answer ≡ size_in rx.transaction
unfolding taken completed
taken-size rx store =
    either (all_held rx)
    (λ a. either (message_good (take (block_size * rx.transaction.blocks) store)) (λ b. rw (a, b)) (λ b. rw (a, b)))
    (λ a. rw a)

handed_size_lem : (rx : Receiver) (store b : List ℕ) → handed_size (size_in rx.transaction) (on_block rx store b).step.answer ≡ size_in rx.transaction
unfolding on_block
handed_size_lem rx store b =
    either (eqb (block_refusal rx store b) 0)
    (λ a. either (held rx (serial_of b)) (λ h. rw (a, h)) (λ h. rw (a, h) (taken-size _ _)))
    (λ a. rw a)

-- only a message says that it is one
said-message : (n : ℕ) (a : Answer) (store m : List ℕ) → said a store ≡ message m → handed_size n a ≡ n → a ≡ Message n
unfolding said
said-message n (Refused k) store m e h = cc
said-message n Opened store m e h = cc
said-message n Repeat store m e h = cc
said-message n Stored store m e h = cc
said-message n Bad store m e h = cc
said-message n (Message k) store m e h = cc

-- ---- on the way

-- the first n blocks fill 10n octets
joined-size : (m : List ℕ) (n : ℕ) → n ≤ blocks_of (length m) → length (joined (block_data m) n) ≡ block_size * n
unfolding block_data
joined-size m n h = ap length (joined-parts block_size (laid_out m) n) ∙ length-take-le _ _ (omega (arith, messages.size m))

-- n blocks are given: they stand in front in the store, which was store₀; the receiver follows the history after them while more are to come,
-- and with the last one the message is handed on
pub record Looping (m store₀ : List ℕ) (n : ℕ) (rx : Receiver) (store : List ℕ) (a : Answer) : Type 0 where
  pub delivery : Delivery
  pub short : length m ≤ most_octets
  pub room₀ : length store₀ ≡ store_size
  pub room : length store ≡ store_size
  pub written : Grown (joined (block_data m) n) store₀ store
  pub most : n ≤ blocks_of (length m)
  pub follows : n < blocks_of (length m) → Follows delivery.destination (record { receiver = rx; store = store }) (before m delivery n)
  pub done : n ≡ blocks_of (length m) → a ≡ Message (length m)

-- all are given
pub loops_back : (m : List ℕ) (d : Delivery) (store₀ : List ℕ) → (full_header (length m) d).number ≡ 0
    → (n : ℕ) (rx : Receiver) (store : List ℕ) (a : Answer) → Looping m store₀ n rx store a → n ≡ blocks_of (length m) → LoopsBack m d store₀ a store
unfolding loop_number first_failed over
loops_back m d store₀ h n rx store a l e =
    let is : joined (block_data m) n ≡ laid_out m = ap (joined (block_data m)) e ∙ messages.blocks-joined m in
    record {
      handed_on_lem = λ z. (l.done e, rw zero-add (subst (λ (p : List ℕ). Grown p store₀ store) is l.written));
      refused = λ z. absurd (z (rw (eq-eqb (length store₀) store_size l.room₀, eq-eqb (full_header (length m) d).number 0 h)));
    }

module _ (m : List ℕ) (d : Delivery) (store : List ℕ) (room : length store ≡ store_size) (t : Taken (length m) d) where
  abbrev own : RadioAddress
  own = d.destination

  abbrev h : List ℕ
  h = written_header (attempt_header (length m) d 1 (blocks_of (length m)))

  header_follows : Follows own (record { receiver = (on_header (fresh_receiver own) h).receiver; store = store }) (before m d 0)
  unfolding after_event after
  header_follows =
      let s = fresh_state own store in
      let f = fresh_follows own store t.within.destination room in
      subst (Follows own (after_event s (header h))) (after-header m d t.short t.within)
      (event-step own s nothing f (header h) (header-octets m d t.short t.within)).follows

  pub looping_none : (f : Receiver) (w : HeaderOctets) (r : Step) → f ≡ fresh_receiver own → w ≡ full_header (length m) d → r ≡ on_header f w.octets
      → Looping m store 0 r.receiver store r.answer
  looping_none f w r ef ew er =
      let e : r ≡ on_header (fresh_receiver own) h =
      er ∙ ap₂ (λ (x : Receiver) (y : HeaderOctets). on_header x y.octets) ef
      (ew ∙ messages.full-header (length m) d t.within t.short) in
      record {
        delivery = d;
        short = t.short;
        room₀ = room;
        room = room;
        written = unfold joined in grown_none store;
        most = omega arith;
        follows = λ l. rw e header_follows;
        done = λ e. absurd (omega (arith, messages.some_block (length m)));
      }

module _ (m store₀ : List ℕ) (n : ℕ) (rx : Receiver) (store : List ℕ) (a : Answer) (l : Looping m store₀ n rx store a) (more : n < blocks_of (length m)) where
  abbrev d : Delivery
  d = l.delivery

  abbrev s : State
  s = record { receiver = rx; store = store }

  abbrev b : List ℕ
  b = written_block n (block_data m n)

  abbrev left : BlockLeft
  left = on_block rx store b

  f : Follows d.destination s (before m d n)
  f = l.follows more

  step : Matches d.destination (record { receiver = left.step.receiver; store = left.store }) (said left.step.answer left.store)
      (after_block (before m d n) b) (block_said (before m d n) b)
  unfolding after_event answer_to after said_to
  step = block-step d.destination s (before m d n) f b (sound_block (before m d n) b f.sound)

  size : size_in rx.transaction ≡ length m
  unfolding before
  size = ap size_in f.agrees.transaction ∙ sent-size m d

  -- the block is new and goes behind those before
  put : left.store ≡ put_block store n (block_data m n)
  unfolding on_block before
  put =
      rw (same_number d.destination s (before m d n) f b, number-zero m d l.short n more, f.agrees.flags (serial_of b), new m d l.short n more)
      (ap (λ (k : Kept). put_block store k.serial k.octets) (kept_is m d l.short n more))

  written_more : Grown (joined (block_data m) (suc n)) store₀ left.store
  unfolding joined
  written_more =
      let ten = messages.block_size_is m n more in
      let few = messages.few_blocks (length m) l.short in
      grown (joined (block_data m) n) (block_data m n) store₀ store left.store (block_size * n) (joined-size m n l.most) (omega (arith, ten, few, l.room₀))
      l.written (put ∙ unfold over put_block in rw ten)

  next : Looping m store₀ (suc n) left.step.receiver left.store left.step.answer
  next = record {
    delivery = d;
    short = l.short;
    room₀ = l.room₀;
    room = step.follows.room;
    written = written_more;
    most = more;
    follows = λ k. subst (Follows d.destination _) (after-block m d l.short n more k) step.follows;
    done = λ e. said-message (length m) left.step.answer left.store m (step.same ∙ last_said m d l.short n more e)
        (subst (λ (k : ℕ). handed_size k left.step.answer ≡ k) size (handed_size_lem rx store b));
  }

  pub looping_more : (w : BlockOctets) (r : Step) (store' : List ℕ) → w ≡ write_message_block m n → r ≡ (on_block rx store w.octets).step
      → store' ≡ (on_block rx store w.octets).store → Looping m store₀ (n + 1) r.receiver store' r.answer
  looping_more w r store' ew er es = rw (er, es, ew, messages.block_written m n l.short more, add-one n) next
