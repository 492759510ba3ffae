-- What a datagram leads to: by what was found of the receiver, of the store and of the datagram.
-- Assumes nothing.
use mathlib.Core.Path.{◌≡◌, sym, ap, subst, ◌∙◌}
use Rattle.std.specs.Prelude.{Result, Ok, Err}
use Rattle.foundation.specs.Refusals.{refusal_number, outcome}
use Rattle.foundation.specs.declared.refusal.Refusal.{Refusal}
use Rattle.foundation.proofs.Refusals.{ok_zero, ok_same, err_number, number_err, err_any}
use mathlib.Core.Bool.{true, false}
use mathlib.Core.List.{List}
use mathlib.Core.Logic.{◌≢◌}
use Prim.Native.Nat.{ℕ, ◌<◌}
use native.Mathlib.Omega.{arith}
use lib.ListN.{length}
use borrow.Author.Tests.{eq-eqb, ne_eqb}
use Rattle.bursts.specs.Bursts.{kind_of}
use Rattle.bursts.specs.declared.burst.Kind.{Kind}
use Rattle.bursts.specs.declared.burst.Kind.TheVariants.{Header, Block, Other}
use Rattle.datagrams.specs.Datagrams.{datagram_number, refused_datagram, read_datagram, datagram_given}
use Rattle.datagrams.specs.declared.Datagram.{Datagram}
use Rattle.datagrams.proofs.DatagramClaims.{datagrams}
use Rattle.receiver.specs.Events.{Step, on_header, on_block}
use Rattle.receiver_state.specs.Receiver.{store_size, receiver_good}
use Rattle.receiver_state.specs.declared.Receiver.{Receiver}
use Rattle.reception.specs.declared.Arrival.{Arrival}
use Rattle.reception.specs.Reception.{Received, Refused, DatagramLeft, with_answer, arrival_of, arrival_given, arrived_number, by_receiver, passed_on, on_datagram}
use Rattle.reception.specs.Claims.{Arrives}
use Rattle.foundation.specs.Order.{first_failed}
use Rattle.foundation.proofs.Order.{itself}
use Rattle.reception.proofs.Claims.{claims}

-- what a datagram brings, by what reading gives

pub arrival_refused : (d : List ℕ) (r : Refusal) → datagram_given (read_datagram d) ≡ Err r → Err r ≡ arrival_given (arrival_of d)
unfolding datagram_given arrival_given arrival_of
arrival_refused d r e =
    let x = read_datagram d in
    let a : Arrival = record { kind = kind_of x.datatype; octets = x.info } in
    sym (sym (ap (λ (n : ℕ). outcome n a) (datagrams.numbered d))
    ∙ err_any x.number (record { labels = x.labels; colour = x.colour; datatype = x.datatype; info = x.info }) a r e)

pub arrival_good : (d : List ℕ) (x : Datagram) → datagram_given (read_datagram d) ≡ Ok x → (k : Kind) → k ≡ kind_of x.datatype
    → Ok (record { kind = k; octets = x.info }) ≡ arrival_given (arrival_of d)
unfolding datagram_given arrival_given arrival_of outcome
arrival_good d x is k e =
    let y = read_datagram d in
    let contents : Datagram = record { labels = y.labels; colour = y.colour; datatype = y.datatype; info = y.info } in
    let made : Kind → List ℕ → Result Arrival Refusal = λ k os. Ok (record { kind = k; octets = os }) in
    let zero : datagram_number d ≡ 0 = sym (datagrams.numbered d) ∙ ok_zero y.number contents x is in
    ap (λ (k : Kind). made k x.info) e
    ∙ sym (ap (λ (z : Datagram). made (kind_of z.datatype) z.info) (ok_same y.number contents x is))
    ∙ sym (ap (λ (n : ℕ). outcome n (record { kind = kind_of y.datatype; octets = y.info })) zero)

-- and what it says of a datagram

few : (d : List ℕ) → (arrival_of d).number < 20
unfolding arrival_of
few d = omega (arith, datagrams.no_other d, datagrams.numbered d)

module _ (d : List ℕ) where
  contents : Arrival
  contents = record { kind = (arrival_of d).kind; octets = (arrival_of d).octets }

  pub untaken-number : (r : Refusal) → arrival_given (arrival_of d) ≡ Err r → (refusal_number r ≡ (arrival_of d).number) × ((arrival_of d).number ≢ 0)
  unfolding arrival_given contents
  untaken-number r e = let n = (arrival_of d).number in (number_err n contents r (few d) e, err_number n contents r e)

  pub taken-number : (x : Arrival) → arrival_given (arrival_of d) ≡ Ok x → (arrival_of d).number ≡ 0
  unfolding arrival_given contents
  taken-number x e = ok_zero (arrival_of d).number contents x e

  pub brought : (x : Arrival) → arrival_given (arrival_of d) ≡ Ok x → record { kind = (arrival_of d).kind; octets = (arrival_of d).octets } ≡ x
  unfolding arrival_given contents
  brought x e = ok_same (arrival_of d).number contents x e

  -- a refused datagram has no kind
  pub no_kind : (arrival_of d).number ≢ 0 → (arrival_of d).kind ≡ Other
  unfolding arrival_of read_datagram refused_datagram kind_of
  no_kind n = rw (ne_eqb (datagram_number d) 0 n)

module _ (rx : Receiver) (store d : List ℕ) where
  -- what is received and what is left, and the claim
  abbrev pub Led : Received → List ℕ → Type 0
  Led r next =
      (r ≡ (on_datagram rx store d).received) × (next ≡ (on_datagram rx store d).store) × Arrives rx store d r next

  led : (l : DatagramLeft) → l ≡ on_datagram rx store d → Led l.received l.store
  led l e = (
    ap (λ (x : DatagramLeft). x.received) e,
    ap (λ (x : DatagramLeft). x.store) e,
    subst (λ (x : DatagramLeft). Arrives rx store d x.received x.store) (sym e) (claims.datagram rx store d),
  )

  refused : (n : ℕ) → n ≢ 0 → arrived_number rx store d ≡ n → Led (with_answer rx (Refused n)) store
  unfolding on_datagram
  refused n z e = led (record { received = with_answer rx (Refused n); store = store }) (rw (e, ne_eqb n 0 z))

  pub not_good : receiver_good rx ≡ false → Led (with_answer rx (Refused 1)) store
  unfolding arrived_number first_failed
  not_good b = refused 1 (λ z. omega arith) (rw b)

  module _ (good : receiver_good rx ≡ true) where
    pub store_not_good : length store ≢ store_size → Led (with_answer rx (Refused 1)) store
    unfolding arrived_number first_failed
    store_not_good n = refused 1 (λ z. omega arith) (rw (good, ne_eqb (length store) store_size n))

    module _ (sized : length store ≡ store_size) where
      number_is : arrived_number rx store d ≡ (arrival_of d).number
      unfolding arrived_number first_failed
      number_is = rw (good, eq-eqb (length store) store_size sized) (itself (arrival_of d).number)

      pub not_taken : (r : Refusal) → arrival_given (arrival_of d) ≡ Err r → Led (with_answer rx (Refused (refusal_number r))) store
      not_taken r e =
          let n = untaken-number d r e in
          refused (refusal_number r) (λ z. n.1 (sym n.0 ∙ z)) (number_is ∙ sym n.0)

      module _ (x : Arrival) (is : arrival_given (arrival_of d) ≡ Ok x) where
        handed : passed_on rx store x.kind x.octets ≡ on_datagram rx store d
        unfolding on_datagram
        handed =
            sym (ap (λ (y : Arrival). passed_on rx store y.kind y.octets) (brought d x is))
            ∙ rw (number_is, taken-number d x is)

        pub header-taken : x.kind ≡ Header → (s : Step) → s ≡ on_header rx x.octets → Led (by_receiver s) store
        unfolding passed_on by_receiver
        header-taken k s e = led (record { received = by_receiver s; store = store }) (rw (e, ← handed, k))

        pub block-taken : x.kind ≡ Block → (s : Step) (next : List ℕ) → s ≡ (on_block rx store x.octets).step
            → next ≡ (on_block rx store x.octets).store → Led (by_receiver s) next
        unfolding passed_on by_receiver
        block-taken k s next e f = led (record { received = by_receiver s; store = next }) (rw (e, f, ← handed, k))

        pub other_refused : x.kind ≡ Other → Led (with_answer rx (Refused 5)) store
        unfolding passed_on
        other_refused k = led (record { received = with_answer rx (Refused 5); store = store }) (rw (← handed, k))
