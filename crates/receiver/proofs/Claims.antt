-- The claims of the receiver's events hold.
-- Assumes nothing.
use mathlib.Core.Path.{◌≡◌, refl, sym, subst}
use mathlib.Core.Bool.{Bool, true, false, cond}
use mathlib.Core.List.{List}
use Prim.Native.Nat.{ℕ, ◌*◌, ◌-◌}
use native.Mathlib.Omega.{arith}
use lib.Dec.{eqb}
use lib.ListN.{take}
use Rattle.checks.specs.Checks.{message_good}
use Rattle.messages.specs.Messages.{block_size, check_size}
use Rattle.transactions.specs.Transactions.{is_full, repeats, serial_of, data_of}
use Rattle.transactions.specs.Flags.{with_flag}
use Rattle.receiver_state.specs.declared.Receiver.{Receiver}
use Rattle.receiver_state.specs.Receiver.{no_flags, held, all_held}
use Rattle.receiver.specs.Events.{Answer, Refused, Opened, Repeat, Stored, Bad, Message, Step, answered, changed, header_refusal, opened_by, on_header, put_block, BlockLeft, block_refusal, completed, taken, on_block}
use Rattle.receiver.specs.Claims.{HeaderRefused, BlockRefused, ReceiverClaims}

-- two answers that differ
apart : {A : Type 0} → ◌≡◌ {A = ℕ} 0 1 → A
apart e = absurd (omega arith)

-- ---- refusals

header_refused : (rx : Receiver) (h : List ℕ) → HeaderRefused rx (on_header rx h)
unfolding on_header
header_refused rx h n e = go (eqb (header_refusal rx h) 0) (repeats rx.phase rx.transaction h) (is_full h) e
  where
    by : Bool → Bool → Bool → Step
    by a b c = cond a (cond b (answered rx Repeat) (cond c (answered (opened_by rx h) Opened) (answered rx (Refused 12)))) (answered rx (Refused (header_refusal rx h)))

    go : (a b c : Bool) → (by a b c).answer ≡ Refused n → (by a b c).receiver ≡ rx
    go true true c e = refl
    go true false true e = apart (cc)
    go true false false e = refl
    go false b c e = refl

-- a new block is not refused
never_refused : (rx : Receiver) (store : List ℕ) (n : ℕ) → (taken rx store).answer ≡ Refused n → ⊥
unfolding taken completed
never_refused rx store n e = go (all_held rx) (message_good (take (block_size * rx.transaction.blocks) store)) e
  where
    by : Bool → Bool → Step
    by a b =
        cond a
        (cond b (answered (changed rx 2 rx.flags.octets) (Message (block_size * rx.transaction.blocks - check_size - rx.transaction.pad)))
        (answered (changed rx 1 no_flags) Bad)) (answered rx Stored)

    go : (a b : Bool) → (by a b).answer ≡ Refused n → ⊥
    go true true e = apart (cc)
    go true false e = apart (cc)
    go false b e = apart (cc)

block_refused : (rx : Receiver) (store b : List ℕ) → BlockRefused rx store (on_block rx store b).step (on_block rx store b).store
unfolding on_block
block_refused rx store b n e = go (eqb (block_refusal rx store b) 0) (held rx (serial_of b)) e
  where
    next : List ℕ
    next = put_block store (serial_of b) (data_of b)

    with : Receiver
    with = changed rx 1 (with_flag rx.flags.octets (serial_of b))

    kept : Answer → BlockLeft
    kept a = record { step = answered rx a; store = store }

    by : Bool → Bool → BlockLeft
    by a h = cond a (cond h (kept Repeat) (record { step = taken with next; store = next })) (kept (Refused (block_refusal rx store b)))

    go : (a h : Bool) → (by a h).step.answer ≡ Refused n → ((by a h).step.receiver ≡ rx) × ((by a h).store ≡ store)
    go true true e = (refl, refl)
    go true false e = absurd (never_refused with next n e)
    go false h e = (refl, refl)

pub claims : ReceiverClaims
claims = record { header_refused = header_refused; block_refused = block_refused }

-- ---- of what a function gives

pub header_promise : (rx : Receiver) (h : List ℕ) (r : Step) → r ≡ on_header rx h → (r ≡ on_header rx h) × HeaderRefused rx r
header_promise rx h r e = (e, subst (HeaderRefused rx) (sym e) (header_refused rx h))

pub block_promise : (rx : Receiver) (store b : List ℕ) (r : Step) (store' : List ℕ)
    → r ≡ (on_block rx store b).step → store' ≡ (on_block rx store b).store
    → (r ≡ (on_block rx store b).step) × (store' ≡ (on_block rx store b).store) × BlockRefused rx store r store'
block_promise rx store b r store' er es = (er, es, rw (er, es) (block_refused rx store b))
