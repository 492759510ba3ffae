-- What holds of every history.
-- Assumes nothing.
use mathlib.Core.Path.{◌≡◌, refl}
use mathlib.Core.Bool.{true, false, cond}
use mathlib.Core.List.{List, [], ◌∷◌}
use Prim.Native.Nat.{ℕ, ◌*◌, ◌-◌, ◌^◌, ◌≤◌, ◌<◌}
use native.Mathlib.Omega.{arith}
use lib.Dec.{eqb, leb}
use borrow.Author.Tests.{eqb-true, ne_eqb, ltb-true, leb-true, lt-ltb}
use Rattle.addresses.specs.declared.RadioAddress.{RadioAddress}
use Rattle.foundation.specs.Order.{first_failed, all}
use Rattle.checks.specs.Checks.{message_good}
use Rattle.packets.specs.Headers.{header_tests, common_of}
use Rattle.messages.specs.Messages.{block_size, check_size, most_blocks}
use Rattle.transactions.specs.Transactions.{transaction_of, is_full, heard_tests, heard_number, serial_of}
use Rattle.transactions.specs.declared.header.Transaction.{Transaction}
use Rattle.foundation.proofs.Tests.{either, never}
use Rattle.foundation.proofs.Order.{all_nil, all_cons, all-at, passed}
use Rattle.receiver_state.specs.Receiver.{transaction_good, transaction_none}
use Rattle.history.specs.History.{Kept, History, nothing, holds, opens, valid, keeping, whole, message_of, after_header, after_block}
use Rattle.history.specs.Claims.{Octets}
use Rattle.history.proofs.Kept.{holds-none, holds_more, whole-at}

pub record Sound (p : History) : Type 0 where
  pub phases : p.phase ≤ 2
  pub fields : cond (eqb p.phase 0) (transaction_none p.transaction) (transaction_good p.transaction) ≡ true
  pub below : (n : ℕ) → holds p.kept n ≡ true → n < p.transaction.blocks
  pub missing : p.phase ≡ 1 → whole p.transaction p.kept ≡ false
  pub complete : p.phase ≡ 2 → whole p.transaction p.kept ≡ true
  pub checked : p.phase ≡ 2 → message_good (message_of p.transaction p.kept) ≡ true

-- ---- a transaction's fields

pub good-blocks : (t : Transaction) → transaction_good t ≡ true → (1 ≤ t.blocks) × (t.blocks ≤ most_blocks)
unfolding transaction_good
good-blocks t e = (leb-true _ _ (all-at _ 4 e), leb-true _ _ (all-at _ 5 e))

none-blocks : (t : Transaction) → transaction_none t ≡ true → t.blocks ≡ 0
unfolding transaction_none
none-blocks t e = eqb-true _ _ (all-at _ 4 e)

module _ (p : History) (s : Sound p) where
  -- of an open transaction
  pub open_fields : eqb p.phase 1 ≡ true → transaction_good p.transaction ≡ true
  open_fields e = let k : p.phase ≡ 1 = eqb-true p.phase 1 e in rw k at s.fields

  pub few_blocks : p.transaction.blocks ≤ most_blocks
  few_blocks =
      either (eqb p.phase 0) (λ t. omega (arith, none-blocks p.transaction (simp t at s.fields)))
      (λ t. (good-blocks p.transaction (simp t at s.fields)).1)

-- ---- nothing kept

pub sound_nothing : Sound nothing
unfolding nothing transaction_none holds all
sound_nothing = record {
  phases = omega arith;
  fields = refl;
  below = λ n e. never e refl;
  missing = λ e. absurd (omega arith);
  complete = λ e. absurd (omega arith);
  checked = λ e. absurd (omega arith);
}

-- a transaction just opened, or emptied
pub sound_opened : (t : Transaction) → transaction_good t ≡ true → Sound (record { phase = 1; transaction = t; kept = [] })
sound_opened t e = record {
  phases = omega arith;
  fields = e;
  below = λ n h. never h (holds-none n);
  missing = λ _. either (whole t []) (λ w. never (whole-at t [] w 0 (good-blocks t e).0) (holds-none 0)) (λ w. w);
  complete = λ e. absurd (omega arith);
  checked = λ e. absurd (omega arith);
}

-- ---- a header

-- the tests of a block count and a pad
heard_rest : (own : RadioAddress) (h : List ℕ) → heard_number own h ≡ 0
    → first_failed ((leb 1 (common_of h).blocks, 11) ∷ (leb (common_of h).blocks most_blocks, 11)
    ∷ (cond (is_full h) (leb (common_of h).pad (block_size * (common_of h).blocks - check_size)) true, 11) ∷ []) ≡ 0
unfolding heard_number heard_tests header_tests
heard_rest own h e =
    let e3 = (passed _ _ _ (passed _ _ _ (passed _ _ _ e).1).1).1 in
    (passed _ _ _ (passed _ _ _ (passed _ _ _ (passed _ _ _ e3).1).1).1).1

pub heard_good : (own : RadioAddress) (h : List ℕ) → Octets h → heard_number own h ≡ 0 → is_full h ≡ true → transaction_good (transaction_of h) ≡ true
unfolding transaction_good transaction_of common_of
heard_good own h o e f =
    let e0 = passed _ _ _ (heard_rest own h e) in
    let e1 = passed _ _ _ e0.1 in
    let e2 = passed _ _ _ e1.1 in
    let source : (transaction_of h).source.0 < 2 ^ 24 = omega (arith, o 5, o 6, o 7) in
    let sap : (transaction_of h).sap < 16 = omega arith in
    let ns : (transaction_of h).ns < 8 = omega arith in
    let pad : (transaction_of h).pad < 32 = omega arith in
    all_cons _ (lt-ltb _ _ source) (all_cons _ (lt-ltb _ _ sap) (all_cons _ (lt-ltb _ _ ns) (all_cons _ (lt-ltb _ _ pad)
    (all_cons _ e0.0 (all_cons _ e1.0 (all_cons _ (simp f at e2.0) all_nil))))))

pub sound_header : (own : RadioAddress) (p : History) (h : List ℕ) → Octets h → Sound p → Sound (after_header own p h)
unfolding after_header opens
sound_header own p h o s =
    either (opens own p h)
    (λ t. rw t (sound_opened (transaction_of h) (heard_good own h o (eqb-true (heard_number own h) 0 (all-at _ 0 t)) (all-at _ 1 t))))
    (λ t. rw t s)

-- ---- a block

-- open or complete with blocks kept
sound_kept : (phase : ℕ) (t : Transaction) (ks : List Kept) → (1 ≤ phase) × (phase ≤ 2) → transaction_good t ≡ true
    → ((n : ℕ) → holds ks n ≡ true → n < t.blocks) → (phase ≡ 1 → whole t ks ≡ false) → (phase ≡ 2 → whole t ks ≡ true)
    → (phase ≡ 2 → message_good (message_of t ks) ≡ true) → Sound (record { phase = phase; transaction = t; kept = ks })
sound_kept phase t ks (lo, hi) f b m w c =
    let z : eqb phase 0 ≡ false = ne_eqb phase 0 (λ e. omega arith) in
    record { phases = hi; fields = simp z f; below = b; missing = m; complete = w; checked = c }

module _ (p : History) (b : List ℕ) (s : Sound p) where
  keeping-below : serial_of b < p.transaction.blocks → (n : ℕ) → holds (keeping p b) n ≡ true → n < p.transaction.blocks
  unfolding keeping
  keeping-below l n e =
      either (eqb (serial_of b) n) (λ t. let k : serial_of b ≡ n = eqb-true (serial_of b) n t in omega arith)
      (λ t. s.below n (rw (holds_more, t) at e))

  pub sound_block : Sound (after_block p b)
  unfolding after_block valid
  sound_block =
      either (valid p b)
      (λ v. let f : transaction_good p.transaction ≡ true = open_fields p s (all-at _ 2 v) in
      let k = keeping-below (ltb-true _ _ (all-at _ 3 v)) in
      rw v (either (whole p.transaction (keeping p b))
      (λ w. rw w (either (message_good (message_of p.transaction (keeping p b)))
      (λ m. rw m (sound_kept 2 p.transaction (keeping p b) (omega arith) f k (λ e. absurd (omega arith)) (λ _. w) (λ _. m)))
      (λ m. rw m (sound_opened p.transaction f))))
      (λ w. rw w (sound_kept 1 p.transaction (keeping p b) (omega arith) f k (λ _. w) (λ e. absurd (omega arith)) (λ e. absurd (omega arith))))))
      (λ v. rw v s)
