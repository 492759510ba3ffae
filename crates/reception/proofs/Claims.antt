-- The claims of datagrams at a receiver hold.
-- Assumes nothing.
use mathlib.Core.Path.{◌≡◌, sym, ◌∙◌}
use mathlib.Core.Bool.{Bool, true, false, cond}
use mathlib.Core.List.{List}
use Prim.Native.Nat.{ℕ, ◌≤◌}
use native.Mathlib.Omega.{arith}
use lib.Dec.{eqb}
use lib.ListN.{length}
use borrow.Author.Tests.{eqb-true, eqb-false, eq-eqb}
use Rattle.bursts.specs.Bursts.{kind_of, known}
use Rattle.datagrams.specs.Datagrams.{named_type, datagram_number, read_datagram}
use Rattle.datagrams.proofs.DatagramClaims.{datagrams}
use Rattle.foundation.specs.Order.{first_failed}
use Rattle.foundation.proofs.Order.{itself}
use Rattle.foundation.proofs.Tests.{either, never}
use Rattle.receiver_state.specs.Receiver.{store_size, receiver_good}
use Rattle.receiver_state.specs.declared.Receiver.{Receiver}
use Rattle.reception.specs.Reception.{arrival_of, arrived_number, passed_on, on_datagram}
use Rattle.reception.specs.Claims.{Arrives, not_taken, a_header, a_block, ReceptionClaims}

-- a data type that is known and not 6 is 7
seven : (t : ℕ) → known (kind_of t) ≡ true → eqb t 6 ≡ false → t ≡ 7
unfolding kind_of known
seven t k n = either (eqb t 7) (λ e. eqb-true t 7 e) (λ e. never k (rw (n, e)))

-- the data type that is read is the one that the datagram names
named : (d : List ℕ) → datagram_number d ≡ 0 → (read_datagram d).datatype ≡ named_type d
unfolding read_datagram
named d e = rw e

-- what is not refused is a header or a block
pub brings : (d : List ℕ) → (arrival_of d).number ≡ 0 → known (arrival_of d).kind ≡ true
unfolding arrival_of
brings d e = rw (named d e) ((datagrams.zero d).0 (datagrams.numbered d ∙ e)).4

module _ (rx : Receiver) (store d : List ℕ) where
  small : arrived_number rx store d ≤ 7
  unfolding arrived_number arrival_of first_failed
  small = go (receiver_good rx) (eqb (length store) store_size)
    where
      go : (a b : Bool) → cond a (cond b (cond (eqb (datagram_number d) 0) 0 (datagram_number d)) 1) 1 ≤ 7
      go true true = rw (itself (datagram_number d)) (omega (arith, datagrams.no_other d, datagrams.numbered d))
      go true false = omega arith
      go false b = omega arith

  read : arrived_number rx store d ≡ 0 → datagram_number d ≡ 0
  unfolding arrived_number arrival_of first_failed
  read e = go (receiver_good rx) (eqb (length store) store_size) e
    where
      go : (a b : Bool) → cond a (cond b (cond (eqb (datagram_number d) 0) 0 (datagram_number d)) 1) 1 ≡ 0 → datagram_number d ≡ 0
      go true true e = sym (itself (datagram_number d)) ∙ e
      go true false e = absurd (omega arith)
      go false b e = absurd (omega arith)

  module _ (e : arrived_number rx store d ≡ 0) where
    good : (read_datagram d).number ≡ 0
    good = datagrams.numbered d ∙ read e

    arrives : Arrives rx store d (on_datagram rx store d).received (on_datagram rx store d).store
    unfolding on_datagram passed_on arrival_of kind_of
    arrives =
        either (eqb (read_datagram d).datatype 6) (λ t. a_header good (eqb-true (read_datagram d).datatype 6 t) (rw (e, t)) (rw (e, t)))
        (λ t. let s = seven (read_datagram d).datatype (brings d (read e)) t in
        let is = eq-eqb (read_datagram d).datatype 7 s in a_block good s (rw (e, t, is)) (rw (e, t, is)))

  datagram : Arrives rx store d (on_datagram rx store d).received (on_datagram rx store d).store
  unfolding on_datagram
  datagram =
      either (eqb (arrived_number rx store d) 0) (λ t. arrives (eqb-true (arrived_number rx store d) 0 t))
      (λ t. not_taken (arrived_number rx store d) (omega (arith, eqb-false (arrived_number rx store d) 0 t)) small (rw t) (rw t))

pub claims : ReceptionClaims
claims = record { datagram = datagram }
