-- What a header and an end of attempt lead to: by what was found of the receiver and of the octets.
-- Assumes nothing.
use mathlib.Core.Path.{◌≡◌, sym, ap, ◌∙◌}
use mathlib.Core.Bool.{Bool, true, false, cond}
use mathlib.Core.List.{List}
use Prim.Native.Nat.{ℕ}
use lib.Dec.{eqb}
use borrow.Author.Tests.{ne_eqb}
use Rattle.std.specs.Prelude.{Ok, Err}
use Rattle.foundation.specs.Refusals.{refusal_number}
use Rattle.foundation.specs.declared.refusal.Refusal.{Refusal}
use Rattle.foundation.proofs.Refusals.{ok_zero, ok_same, err_number, number_err}
use Rattle.transactions.specs.Flags.{flagged}
use Rattle.transactions.specs.Transactions.{heard_number, heard_of, heard_given, belongs, repeats}
use Rattle.transactions.specs.Answers.{no_response, response_to}
use Rattle.transactions.specs.declared.header.Heard.{Heard}
use Rattle.transactions.specs.declared.header.Transaction.{Transaction}
use Rattle.transactions.proofs.Hearing.{heard_is, heard_small}
use Rattle.receiver_state.specs.Receiver.{no_flags, receiver_good}
use Rattle.receiver.specs.Events.{Refused, Opened, Repeat, answered, header_refusal, opened_by, on_header, on_end}
use Rattle.receiver.specs.Parts.{on_heard}
use Rattle.receiver_state.specs.declared.Receiver.{Receiver}

-- ---- headers

module _ (rx : Receiver) (t : Transaction) (full same : Bool) (is : same ≡ cond (eqb rx.phase 0) false (belongs rx.transaction t full)) where
  pub by_repeat : same ≡ true → answered rx Repeat ≡ on_heard rx t full
  unfolding on_heard
  by_repeat s = rw (← is, s)

  module _ (other : same ≡ false) where
    pub by_short : full ≡ false → answered rx (Refused 12) ≡ on_heard rx t full
    unfolding on_heard
    by_short f = rw (← is, other, f)

    pub by_opened : full ≡ true → answered (record { own = rx.own; phase = 1; transaction = t; flags = record { octets = no_flags } }) Opened ≡ on_heard rx t full
    unfolding on_heard
    by_opened f = rw (← is, other, f)

module _ (rx : Receiver) (h : List ℕ) where
  pub header_not_good : receiver_good rx ≡ false → answered rx (Refused 1) ≡ on_header rx h
  unfolding on_header header_refusal
  header_not_good b = rw b

  module _ (good : receiver_good rx ≡ true) where
    number : header_refusal rx h ≡ heard_number rx.own h
    unfolding header_refusal
    number = rw good

    pub header_heard : (x : Heard) → heard_given (heard_of rx.own h) ≡ Ok x → on_heard rx x.transaction x.full ≡ on_header rx h
    unfolding on_heard on_header opened_by repeats
    header_heard x e =
        let f = sym (heard_is rx.own h) ∙ e in
        ap (λ (y : Heard). on_heard rx y.transaction y.full) (sym (ok_same _ _ x f)) ∙ rw (number, ok_zero _ _ x f)

    pub header_unheard : (r : Refusal) → heard_given (heard_of rx.own h) ≡ Err r → answered rx (Refused (refusal_number r)) ≡ on_header rx h
    unfolding on_header
    header_unheard r e =
        let f = sym (heard_is rx.own h) ∙ e in
        rw (number, ne_eqb (heard_number rx.own h) 0 (err_number _ _ r f))
        (ap (λ (k : ℕ). answered rx (Refused k)) (number_err _ _ r (heard_small rx.own h) f))

-- ---- ends of attempt

module _ (rx : Receiver) where
  pub end_not_good : receiver_good rx ≡ false → no_response 1 ≡ on_end rx
  unfolding on_end
  end_not_good b = rw b

  pub end_good : receiver_good rx ≡ true → response_to rx.own rx.phase rx.transaction (flagged rx.flags.octets) ≡ on_end rx
  unfolding on_end
  end_good b = rw b
