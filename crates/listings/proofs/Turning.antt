-- A listing: how it begins and how it ends, and that a turn takes what there is room for.
-- Assumes nothing.
use Rattle.std.proofs.Common.{◌≡◌, ℕ, ◌*◌, ◌/◌, min, ◌∙◌, ◌^◌, ◌<◌, ◌≤◌, Bool, true, false, nat_lt, List, [], ◌++◌, length, replicate, sym, refl, ap, ap₂, arith}
use lib.ListN.{length-replicate}
use borrow.Author.Tests.{eq-eqb, le-leb}
use Rattle.foundation.specs.Order.{first_failed}
use Rattle.foundation.proofs.OctetLists.{Octets}
use Rattle.addresses.specs.Octets.{address_at}
use Rattle.receiver_state.specs.Receiver.{store_size}
use Rattle.history.specs.History.{nothing}
use Rattle.counting.specs.Counts.{counts_of}
use Rattle.counting.specs.declared.Counts.{Counts}
use Rattle.captures.specs.declared.Gateway.{Gateway}
use Rattle.captures.specs.declared.Listing.{Listing}
use Rattle.captures.specs.declared.Listing.TheVariants.{Numbers, Deliveries}
use Rattle.captures.specs.Lines.{Outcome, listed, line_room, closing}
use Rattle.captures.specs.Captures.{ListAnswer, datagram_size, whole_in, list, list_number, datagrams_answered, octets_of, cut, datagrams_of, Running, running, started, answers_given, left_by_all, lines_of, printed}
use Rattle.captures.specs.Rule.{outcomes_by_rule, history_over}
use Rattle.captures.proofs.Runs.{lines_none}
use Rattle.captures.proofs.Rule.{by_rule}
use Rattle.captures.proofs.GoesOn.{counts_go_on}
use Rattle.inputs.specs.Inputs.{behind_own}
use Rattle.listings.specs.Listings.{beginning, listing_of}
use Rattle.listings.specs.declared.Lister.{Lister}

pub line_fits : (l : Listing) (n : ℕ) → 65536 ≤ n → line_room l ≤ n
unfolding line_room
line_fits Numbers n e = omega arith
line_fits Deliveries n e = omega arith

-- where nothing is taken and more can follow, there is no whole datagram
few_taken : (l : Listing) (size room n : ℕ) → line_room l ≤ room → n ≡ min (datagram_size * min (whole_in size) (room / line_room l)) size → n ≡ 0
    → size < datagram_size
unfolding line_room
few_taken Numbers size room n h e z = omega (arith, e, z)
few_taken Deliveries size room n h e z = omega (arith, e, z)

pub few_left : (l : Listing) (g : Gateway) (store os text : List ℕ) (last : Bool) (r : ListAnswer) → length store ≡ store_size → line_room l ≤ length text
    → r ≡ list l g store os last text → last ≡ false → r.taken ≡ 0 → length os < 65538
unfolding list list_number first_failed datagrams_answered octets_of
few_left l g store os text last r room line e f z =
    let none : list_number l store text ≡ 0 = rw (eq-eqb (length store) store_size room, le-leb (line_room l) (length text) line) in
    let taken : r.taken ≡ min (datagram_size * min (whole_in (length os)) (length text / line_room l)) (length os) =
    ap (λ (x : ListAnswer). x.taken) (e ∙ ap (λ (b : Bool). list l g store os b text) f) ∙ rw none refl in
    omega (arith, few_taken l (length os) (length text) r.taken line taken z)

-- nothing more to come
pub printed-none : (l : Listing) (s : Running) → printed l s [] ≡ closing l s.gateway.counts
unfolding printed datagrams_of cut left_by_all
printed-none l s = ap (λ (x : List ℕ). x ++ closing l s.gateway.counts) (lines_none l s)

-- from a start: by the history rule, and with the counts of the answers given
by_the_rule : (l : Listing) (own : List ℕ) → (address_at own 0).0 < 2 ^ 24 → (os : List ℕ)
    → printed l (beginning own) os
    ≡ listed l 0 (outcomes_by_rule (address_at own 0) nothing (datagrams_of os)) ++ closing l (counts_of (answers_given (beginning own) (datagrams_of os)))
unfolding printed lines_of left_by_all history_over started counts_of
by_the_rule l own small os =
    let ds = datagrams_of os in
    ap₂ (λ (x : List Outcome) (c : Counts). listed l 0 x ++ closing l c)
    (by_rule own (replicate store_size 0) [] small (length-replicate {A = ℕ} store_size 0) (beginning own) refl ds) (counts_go_on (beginning own) ds [] refl)

-- the text of what comes, and a start
abbrev pub whole : Lister → List ℕ → List ℕ
whole s = printed s.listing (running s.gateway s.store)

abbrev pub fresh : Listing → Gateway → Lister
fresh l g = record { listing = l; gateway = g; store = replicate store_size 0 }

-- what is listed from a start is the whole text
module _ (l : Listing) (own : List ℕ) (g : Gateway) (e : g ≡ started own) (octets : Octets own) where
  pub listed_whole : (os : List ℕ) → listing_of l own os ≡ behind_own whole own (fresh l g) os
  unfolding listing_of behind_own started counts_of
  listed_whole os = go (nat_lt (length own) 3) refl
    where
      go : (b : Bool) → nat_lt (length own) 3 ≡ b → listing_of l own os ≡ behind_own whole own (fresh l g) os
      go true t = rw (t, e) (sym (printed-none l (beginning own)))
      go false f = rw (f, e) (sym (by_the_rule l own (omega (arith, octets 0, octets 1, octets 2)) os))
