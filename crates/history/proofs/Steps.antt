-- A header or an end of attempt, given to a receiver that follows a history: it is answered as the history says, and the receiver follows.
-- Assumes nothing.
use mathlib.Core.Path.{◌≡◌, refl}
use mathlib.Core.List.{List, []}
use Prim.Native.Nat.{ℕ}
use lib.Dec.{eqb}
use Rattle.addresses.specs.declared.RadioAddress.{RadioAddress}
use Rattle.transactions.specs.Transactions.{transaction_of, is_full, heard_number, repeats}
use Rattle.foundation.specs.Order.{all}
use Rattle.transactions.specs.Answers.{Said}
use Rattle.foundation.proofs.Tests.{either}
use Rattle.receiver.specs.Events.{said, header_refusal, opened_by, on_header, on_end}
use Rattle.history.specs.History.{header, ended, History, opens, after_header, header_said, after, said_to}
use Rattle.history.specs.Run.{State, after_event, answer_to}
use Rattle.history.proofs.Sound.{Sound}
use Rattle.history.proofs.Follows.{Follows, none-octets, agrees_empty, held_is, good}

-- what is left and answered, against the history after it and its answer
pub record Matches (own : RadioAddress) (s : State) (said : Said) (p : History) (answer : Said) : Type 0 where
  pub follows : Follows own s p
  pub same : said ≡ answer

module _ (own : RadioAddress) (s : State) (p : History) (m : Follows own s p) where
  number : (h : List ℕ) → header_refusal s.receiver h ≡ heard_number own h
  unfolding header_refusal
  number h = rw (good own s p m, m.agrees.address)

  present : (h : List ℕ) → repeats s.receiver.phase s.receiver.transaction h ≡ repeats p.phase p.transaction h
  present h = rw (m.agrees.phase, m.agrees.transaction)

  opened_follows : (h : List ℕ) → Sound (record { phase = 1; transaction = transaction_of h; kept = [] })
      → Follows own (record { receiver = opened_by s.receiver h; store = s.store }) (record { phase = 1; transaction = transaction_of h; kept = [] })
  unfolding opened_by
  opened_follows h sound = record {
    small = m.small;
    sound = sound;
    agrees = rw m.agrees.address (agrees_empty own 1 (transaction_of h) s.store);
    room = m.room;
    places = refl;
    flag_octets_lem = none-octets;
  }

  pub header-step : (h : List ℕ) → Sound (after_header own p h)
      → Matches own (after_event s (header h)) (answer_to s (header h)) (after own p (header h)) (said_to own p (header h))
  unfolding after_event answer_to after said_to on_header after_header opens header_said all said
  header-step h sound =
      rw (number h, present h)
      (either (eqb (heard_number own h) 0)
      (λ a. either (repeats p.phase p.transaction h)
      (λ b. either (is_full h) (λ c. simp (a, b, c) (record { follows = m; same = refl })) (λ c. simp (a, b, c) (record { follows = m; same = refl })))
      (λ b. either (is_full h)
      (λ c. simp (a, b, c) (record { follows = opened_follows h (simp (a, b, c) at sound); same = refl }))
      (λ c. simp (a, b, c) (record { follows = m; same = refl }))))
      (λ a. simp a (record { follows = m; same = refl })))

  pub end_step : Matches own (after_event s ended) (answer_to s ended) (after own p ended) (said_to own p ended)
  unfolding after_event answer_to after said_to on_end
  end_step = record {
    follows = m;
    same = rw (good own s p m, m.agrees.phase, m.agrees.transaction, m.agrees.address, held_is own s p m);
  }
