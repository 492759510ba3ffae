-- What the parts of a capture say of the whole.
-- Assumes nothing.
use Rattle.std.specs.Prelude.{◌≡◌, Bool, true, List, [], ◌++◌, ℕ, ◌^◌, ◌≤◌, ◌<◌, length, take, drop}
use Rattle.addresses.specs.Octets.{address_at}
use Rattle.receiver_state.specs.Receiver.{store_size}
use Rattle.history.specs.History.{nothing}
use Rattle.reception.specs.Reception.{Answer}
use Rattle.counting.specs.Counts.{counts_of}
use Rattle.captures.specs.declared.Listing.{Listing}
use Rattle.captures.specs.Captures.{ListAnswer, cut, started, Running, running, answers_given, left_by_all, outcomes, printed, datagrams_answered}
use Rattle.captures.specs.Rule.{outcomes_by_rule, history_over}

-- whatever follows these octets: the whole text is what is written now, and then the whole text of the octets not yet answered and of what
-- follows, from the gateway and the store that are left. Nothing follows the last octets.
abbrev pub GoesOn : Listing → Running → List ℕ → Bool → ListAnswer → List ℕ → List ℕ → Type 0
GoesOn l s os last r store text =
    r.number ≡ 0 → (more : List ℕ) → (last ≡ true → more ≡ [])
    → printed l s (os ++ more)
    ≡ take r.end text ++ printed l (running r.gateway store) (drop r.taken os ++ more)

-- the counts are those of the answers given, whatever answers were counted before
abbrev pub CountsGoOn : Listing → Running → List ℕ → Bool → ListAnswer → List ℕ → Type 0
CountsGoOn l s os last r text =
    r.number ≡ 0 → (given : List Answer) → s.gateway.counts ≡ counts_of given
    → r.gateway.counts ≡ counts_of (given ++ answers_given s (cut (datagrams_answered l last os text) os))

-- by the history rule: what is told of the datagrams, after any datagrams from a start with any store
abbrev pub ByRule : Listing → Running → List ℕ → Bool → ListAnswer → List ℕ → Type 0
ByRule l s os last r text =
    r.number ≡ 0 → (own first : List ℕ) (past : List (List ℕ)) → (address_at own 0).0 < 2 ^ 24 → length first ≡ store_size
    → s ≡ left_by_all (running (started own) first) past
    → outcomes s (cut (datagrams_answered l last os text) os)
    ≡ outcomes_by_rule (address_at own 0) (history_over (address_at own 0) nothing past) (cut (datagrams_answered l last os text) os)

-- all of these, of what `list` gives; and that it ends inside the text, takes no more than there is, and takes some of the last octets
pub record ListClaims (l : Listing) (s : Running) (os : List ℕ) (last : Bool) (text : List ℕ) (r : ListAnswer) (store' text' : List ℕ) : Type 0 where
  pub goes_on : GoesOn l s os last r store' text'
  pub counts_go_on : CountsGoOn l s os last r text
  pub by_rule : ByRule l s os last r text
  pub ends : r.end ≤ length text
  pub takes : r.taken ≤ length os
  pub takes_on : r.number ≡ 0 → last ≡ true → r.taken ≡ 0 → length os ≡ 0
