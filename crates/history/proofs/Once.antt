-- By the history rule a message is handed on only after an opening, and at most once before the next.
-- Assumes nothing.
use mathlib.Core.Path.{◌≡◌, refl}
use mathlib.Core.Bool.{Bool, true, false, cond, not}
use mathlib.Core.List.{List, [], ◌∷◌}
use Prim.Native.Nat.{ℕ, ◌*◌}
use lib.Dec.{eqb}
use lib.ListN.{take}
use borrow.Author.Tests.{eqb-true}
use Rattle.addresses.specs.declared.RadioAddress.{RadioAddress}
use Rattle.checks.specs.Checks.{message_good}
use Rattle.messages.specs.Responses.{ResponseWritten}
use Rattle.transactions.specs.Transactions.{transaction_of, is_full, heard_number, repeats, serial_of}
use Rattle.foundation.specs.Order.{all}
use Rattle.transactions.specs.Answers.{Said, refused, opened, repeat, stored, bad, message, response, response_to, response_said}
use Rattle.transactions.specs.declared.header.Transaction.{Transaction}
use Rattle.foundation.proofs.Tests.{never}
use Rattle.foundation.proofs.Order.{all-at}
use Rattle.history.specs.History.{Event, header, block, ended, Kept, History, nothing, holds, held_data, opens, after_header, valid, keeping, whole, message_of, after_block, after, header_said, kept_number, handed_on, block_said, said_to, said_from}
use Rattle.history.specs.Claims.{Once}
use Rattle.history.proofs.Blocks.{valid_of}

-- where no message can be handed on before an opening, at most one is
weaker : (done : Bool) (ss : List Said) → Once done ss → Once false ss
weaker false ss h = h
weaker true [] h = h
weaker true (opened ∷ ss) h = h
weaker true (message m ∷ ss) h = absurd h
weaker true (refused n ∷ ss) h = weaker true ss h
weaker true (repeat ∷ ss) h = weaker true ss h
weaker true (stored ∷ ss) h = weaker true ss h
weaker true (bad ∷ ss) h = weaker true ss h
weaker true (response a b ∷ ss) h = weaker true ss h

-- none can be but while the transaction is open
abbrev shut : History → Bool
shut p = not (eqb p.phase 1)

-- a block that no number is given for is valid
pub taken-valid : (p : History) (b : List ℕ) → kept_number p b ≡ 0 → valid p b ≡ true
unfolding kept_number
taken-valid p b e = valid_of p (holds p.kept (serial_of b)) (held_data p.kept (serial_of b)) b e

-- a valid block's transaction is open
valid_open : (p : History) (b : List ℕ) → valid p b ≡ true → eqb p.phase 1 ≡ true
unfolding valid
valid_open p b e = all-at _ 2 e

-- ---- an event before what is said later

module _ (own : RadioAddress) (p : History) (rest : List Said) where
  after-header : (h : List ℕ) → Once (shut (after_header own p h)) rest → Once (shut p) (header_said own p h ∷ rest)
  unfolding after_header opens all header_said
  after-header h o = go (eqb (heard_number own h) 0) (repeats p.phase p.transaction h) (is_full h) o
    where
      new : History
      new = record { phase = 1; transaction = transaction_of h; kept = [] }

      go : (a b c : Bool) → Once (shut (cond (all (a ∷ c ∷ not b ∷ [])) new p)) rest
          → Once (shut p) (cond a (cond b repeat (cond c opened (refused 12))) (refused (heard_number own h)) ∷ rest)
      go true true true o = o
      go true true false o = o
      go true false true o = o
      go true false false o = o
      go false b c o = o

  after-block : (b : List ℕ) → Once (shut (after_block p b)) rest → Once (shut p) (block_said p b ∷ rest)
  unfolding after_block block_said
  after-block b o =
      go (eqb (kept_number p b) 0) (valid p b) (holds p.kept (serial_of b)) (whole t ks) (message_good (message_of t ks))
      (λ e. taken-valid p b (eqb-true (kept_number p b) 0 e)) (valid_open p b) o
    where
      t : Transaction
      t = p.transaction

      ks : List Kept
      ks = keeping p b

      at : ℕ → List Kept → History
      at n ks = record { phase = n; transaction = t; kept = ks }

      go : (k v u w g : Bool) → (k ≡ true → v ≡ true) → (v ≡ true → eqb p.phase 1 ≡ true)
          → Once (shut (cond v (cond w (cond g (at 2 ks) (at 1 [])) (at 1 ks)) p)) rest
          → Once (shut p) (cond k (cond u repeat (cond w (cond g (message (handed_on t ks)) bad) stored)) (refused (kept_number p b)) ∷ rest)
      go true false u w g taken phase o = never (taken refl) refl
      go false false u w g taken phase o = o
      go true true true w g taken phase o = rw (phase refl) (weaker (shut (cond w (cond g (at 2 ks) (at 1 [])) (at 1 ks))) rest o)
      go true true false true true taken phase o = rw (phase refl) o
      go true true false true false taken phase o = rw (phase refl) o
      go true true false false g taken phase o = rw (phase refl) o
      go false true u w g taken phase o = rw (phase refl) (weaker (shut (cond w (cond g (at 2 ks) (at 1 [])) (at 1 ks))) rest o)

  after_end : (r : ResponseWritten) → Once (shut p) rest → Once (shut p) (response_said r ∷ rest)
  unfolding response_said
  after_end r o = go (eqb r.number 0)
    where
      go : (a : Bool) → Once (shut p) (cond a (response r.header (take (12 * r.blocks) r.block)) (refused r.number) ∷ rest)
      go true = o
      go false = o

-- ---- a list of events

module _ (own : RadioAddress) where
  once_from : (p : History) (es : List Event) → Once (shut p) (said_from own p es)
  unfolding said_from said_to after
  once_from p [] = tt
  once_from p (header h ∷ es) = after-header own p (said_from own (after_header own p h) es) h (once_from (after_header own p h) es)
  once_from p (block b ∷ es) = after-block own p (said_from own (after_block p b) es) b (once_from (after_block p b) es)
  once_from p (ended ∷ es) = after_end own p (said_from own p es) (response_to own p.phase p.transaction (holds p.kept)) (once_from p es)

  pub once_history : (es : List Event) → Once true (said_from own nothing es)
  unfolding nothing
  once_history = once_from nothing
