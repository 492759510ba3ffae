-- A capture: own address (3 octets), then datagrams of 53 octets. What a gateway answers to a part of it.
-- Assumes nothing.
use Rattle.std.specs.Prelude.{Result, Bool, cond, List, [], ◌∷◌, ◌++◌, ℕ, zero, suc, ◌+◌, ◌*◌, ◌-◌, ◌/◌, min, eqb, leb, length, take, drop}
use Rattle.addresses.specs.Octets.{address_at}
use Rattle.foundation.specs.Order.{first_failed}
use Rattle.foundation.specs.Refusals.{outcome}
use Rattle.foundation.specs.declared.refusal.Refusal.{Refusal}
use Rattle.foundation.specs.Octets.{put}
use Rattle.receiver_state.specs.Receiver.{store_size, fresh_for}
use Rattle.reception.specs.Reception.{Answer, said, on_datagram}
use Rattle.counting.specs.Counts.{counts_of, counted}
use Rattle.captures.specs.declared.Gateway.{Gateway}
use Rattle.captures.specs.declared.Listing.{Listing}
use Rattle.captures.specs.declared.Listed.{Listed}
use Rattle.captures.specs.Lines.{Outcome, listed, closing, line_room}

abbrev pub datagram_size : ℕ
datagram_size = 53

-- k datagrams one behind the other; the last may be shorter
unfoldable pub cut : ℕ → List ℕ → List (List ℕ)
cut zero os = []
cut (suc k) os = take datagram_size os ∷ cut k (drop datagram_size os)

-- how many datagrams n octets are: leftover octets are one more; and how many are whole
abbrev pub datagrams_in : ℕ → ℕ
datagrams_in n = (n + (datagram_size - 1)) / datagram_size

abbrev pub whole_in : ℕ → ℕ
whole_in n = n / datagram_size

unfoldable pub datagrams_of : List ℕ → List (List ℕ)
datagrams_of os = cut (datagrams_in (length os)) os

-- ---- the run

-- a gateway before its first datagram, of the address in three octets
unfoldable pub started : List ℕ → Gateway
started own = record { receiver = (fresh_for (address_at own 0)).receiver; counts = counts_of [] }

-- a gateway and its store
pub record Running : Type 0 where
  pub gateway : Gateway
  pub store : List ℕ

abbrev pub running : Gateway → List ℕ → Running
running g store = record { gateway = g; store = store }

-- the answer to a datagram, what is left, and what is told of it
unfoldable pub answer_given : Running → List ℕ → Answer
answer_given s d = (on_datagram s.gateway.receiver s.store d).received.answer

unfoldable pub left_by : Running → List ℕ → Running
left_by s d =
    let x = on_datagram s.gateway.receiver s.store d in
    record {
      gateway = record { receiver = x.received.receiver; counts = counted s.gateway.counts x.received.answer };
      store = x.store;
    }

unfoldable pub outcome_of : Running → List ℕ → Outcome
outcome_of s d = record {
  said = said (answer_given s d) (left_by s d).store;
  transaction = (left_by s d).gateway.receiver.transaction;
}

-- the same over datagrams in order
unfoldable pub answers_given : Running → List (List ℕ) → List Answer
answers_given s [] = []
answers_given s (d ∷ ds) = answer_given s d ∷ answers_given (left_by s d) ds

unfoldable pub left_by_all : Running → List (List ℕ) → Running
left_by_all s [] = s
left_by_all s (d ∷ ds) = left_by_all (left_by s d) ds

unfoldable pub outcomes : Running → List (List ℕ) → List Outcome
outcomes s [] = []
outcomes s (d ∷ ds) = outcome_of s d ∷ outcomes (left_by s d) ds

-- the lines of datagrams, from the index that the counts give
unfoldable pub lines_of : Listing → Running → List (List ℕ) → List ℕ
lines_of l s ds = listed l s.gateway.counts.datagrams (outcomes s ds)

-- the whole text of what is still to come: the lines of its datagrams, then the closing line
unfoldable pub printed : Listing → Running → List ℕ → List ℕ
printed l s os = lines_of l s (datagrams_of os) ++ closing l (left_by_all s (datagrams_of os)).gateway.counts

-- ---- a part of a capture

-- 1 for a store of another size, or a text without room for a line
unfoldable pub list_number : Listing → List ℕ → List ℕ → ℕ
list_number l store text = first_failed ((eqb (length store) store_size, 1) ∷ (leb (line_room l) (length text), 1) ∷ [])

-- how many datagrams are answered: those that have come whole, or all where nothing follows; no more than there is room for
unfoldable pub datagrams_answered : Listing → Bool → List ℕ → List ℕ → ℕ
datagrams_answered l last os text = min (cond last (datagrams_in (length os)) (whole_in (length os))) (length text / line_room l)

-- the octets that they take
unfoldable pub octets_of : ℕ → List ℕ → ℕ
octets_of k os = min (datagram_size * k) (length os)

-- number 0, the gateway after the datagrams, the octets that they took, and where the text ends; or the number of the refusal
pub record ListAnswer : Type 0 where
  pub number : ℕ
  pub gateway : Gateway
  pub taken : ℕ
  pub end : ℕ

unfoldable pub listed_given : ListAnswer → Result Listed Refusal
listed_given r = outcome r.number (record { gateway = r.gateway; taken = r.taken; end = r.end })

-- the gateway, the store and the text after it; a refusal changes nothing
unfoldable pub list : Listing → Gateway → List ℕ → List ℕ → Bool → List ℕ → ListAnswer
list l g store os last text =
    let s = running g store in
    let ds = cut (datagrams_answered l last os text) os in
    cond (eqb (list_number l store text) 0)
    (record { number = 0; gateway = (left_by_all s ds).gateway; taken = octets_of (datagrams_answered l last os text) os; end = length (lines_of l s ds) })
    (record { number = list_number l store text; gateway = g; taken = 0; end = 0 })

unfoldable pub store_after : Listing → Gateway → List ℕ → List ℕ → Bool → List ℕ → List ℕ
store_after l g store os last text =
    cond (eqb (list_number l store text) 0)
    (left_by_all (running g store) (cut (datagrams_answered l last os text) os)).store store

unfoldable pub text_after : Listing → Gateway → List ℕ → List ℕ → Bool → List ℕ → List ℕ
text_after l g store os last text =
    cond (eqb (list_number l store text) 0)
    (put text 0 (lines_of l (running g store) (cut (datagrams_answered l last os text) os))) text
