-- What `list` gives: a refusal, or the datagrams that it answers.
-- Assumes nothing.
use mathlib.Core.Path.{◌≡◌, refl, sym, ap, ap₂, subst, ◌∙◌}
use mathlib.Core.Bool.{Bool, true, false, cond}
use mathlib.Core.Logic.{◌≢◌}
use mathlib.Core.List.{List, ◌++◌}
use Prim.Native.Nat.{ℕ, ◌+◌, ◌*◌, ◌/◌, ◌≤◌, ◌<◌, min}
use native.Mathlib.Nat.{mul-le-mul_left, le_trans}
use native.Mathlib.Omega.{arith}
use lib.ListN.{length, take, drop}
use borrow.Author.Tests.{eq-eqb, ne_eqb, le-leb, lt-leb}
use Rattle.std.specs.Prelude.{Result, Ok, Err}
use Rattle.std.specs.Result.{IsOk}
use Rattle.foundation.specs.Order.{first_failed}
use Rattle.foundation.specs.Refusals.{outcome, refusal}
use Rattle.foundation.specs.declared.refusal.Refusal.{Refusal}
use Rattle.foundation.specs.declared.refusal.Refusal.TheVariants.{Size}
use Rattle.foundation.proofs.Refusals.{ok_same}
use Rattle.foundation.specs.Octets.{put}
use Rattle.receiver_state.specs.Receiver.{store_size}
use Rattle.counting.specs.Counts.{counts_of}
use Rattle.texts.proofs.Writing.{put_front}
use Rattle.captures.specs.declared.Gateway.{Gateway}
use Rattle.captures.specs.declared.Listed.{Listed}
use Rattle.captures.specs.declared.Listing.{Listing}
use Rattle.captures.specs.declared.Listing.TheVariants.{Numbers, Deliveries}
use Rattle.captures.specs.Lines.{line_room}
use Rattle.captures.specs.Captures.{datagram_size, cut, datagrams_in, whole_in, Running, running, answers_given, left_by_all, lines_of, printed, list_number, datagrams_answered, octets_of, ListAnswer, listed_given, list, store_after, text_after}
use Rattle.captures.specs.Claims.{ListClaims}
use Rattle.captures.proofs.GoesOn.{goes_on, counts_go_on}
use Rattle.captures.proofs.Rule.{by_rule}

-- as many lines as there is room for
room_for : (l : Listing) (n : ℕ) → line_room l * (n / line_room l) ≤ n
unfolding line_room
room_for Numbers n = omega arith
room_for Deliveries n = omega arith

pub some_room : (l : Listing) → line_room l ≢ 0
unfolding line_room
some_room Numbers = λ e. omega arith
some_room Deliveries = λ e. omega arith

line_fits : (l : Listing) (n : ℕ) → line_room l ≤ n → 0 < n / line_room l
unfolding line_room
line_fits Numbers n h = omega arith
line_fits Deliveries n h = omega arith

module _ (l : Listing) (last : Bool) (size room k : ℕ) (e : k ≡ min (cond last (datagrams_in size) (whole_in size)) (room / line_room l)) where
  pub count_few : k ≤ cond last (datagrams_in size) (whole_in size)
  count_few = omega (arith, e)

  -- where nothing follows, some of the octets are taken if there are any
  some_taken : last ≡ true → line_room l ≤ room → (n : ℕ) → n ≡ min (datagram_size * k) size → n ≡ 0 → size ≡ 0
  some_taken t h n en z =
      let fit : 0 < room / line_room l = line_fits l room h in
      let all : k ≡ min (datagrams_in size) (room / line_room l) = e ∙ ap (λ (b : Bool). min (cond b (datagrams_in size) (whole_in size)) (room / line_room l)) t in
      omega (arith, fit, all, en, z)

  pub count_room : line_room l * k ≤ room
  count_room = le_trans (mul-le-mul_left (line_room l) (omega (arith, e))) (room_for l room)

  pub count_inside : datagram_size * k < size + datagram_size
  count_inside = go last count_few
    where
      go : (b : Bool) → k ≤ cond b (datagrams_in size) (whole_in size) → datagram_size * k < size + datagram_size
      go true h = omega arith
      go false h = omega arith

module _ (l : Listing) (g : Gateway) (store os : List ℕ) (last : Bool) (text : List ℕ) where
  -- what `list` ensures
  abbrev pub Lists : Result Listed Refusal → List ℕ → List ℕ → Type 0
  Lists out store' text' =
      (out ≡ listed_given (list l g store os last text)) × (store' ≡ store_after l g store os last text) × (text' ≡ text_after l g store os last text)
      × ListClaims l (running g store) os last text (list l g store os last text) store' text'

  no_claims : ListClaims l (running g store) os last text (record { number = 1; gateway = g; taken = 0; end = 0 }) store text
  no_claims = record { goes_on = λ z. absurd (omega (arith, z)); counts_go_on = λ z. absurd (omega (arith, z)); by_rule = λ z. absurd (omega (arith, z)); ends = omega arith; takes = omega arith; takes_on = λ z. absurd (omega (arith, z)) }

  refuses : list_number l store text ≡ 1 → Lists (Err Size) store text
  unfolding list listed_given store_after text_after outcome refusal
  refuses e = rw e (refl, refl, refl, no_claims)

  pub other_store : length store ≢ store_size → Lists (Err Size) store text
  unfolding list_number first_failed
  other_store h = refuses (rw (ne_eqb (length store) store_size h))

  module _ (room : length store ≡ store_size) where
    pub no_line-room : length text < line_room l → Lists (Err Size) store text
    unfolding list_number first_failed
    no_line-room h = refuses (rw (eq-eqb (length store) store_size room, lt-leb (line_room l) (length text) h))

    module _ (line : line_room l ≤ length text) where
      taken_on : list_number l store text ≡ 0
      unfolding list_number first_failed
      taken_on = rw (eq-eqb (length store) store_size room, le-leb (line_room l) (length text) line)

      pub taken-number : (list l g store os last text).number ≡ 0
      unfolding list
      taken-number = rw taken_on

      -- it is taken, and what is given tells what `list` does
      pub taken_ok : (r : Result Listed Refusal) → r ≡ listed_given (list l g store os last text) → IsOk r
      unfolding listed_given outcome
      taken_ok r e = rw (e, taken-number)

      pub taken_as : (r : Listed) → Ok r ≡ listed_given (list l g store os last text)
          → ◌≡◌ {A = ListAnswer} (record { number = 0; gateway = r.gateway; taken = r.taken; end = r.end }) (list l g store os last text)
      unfolding listed_given
      taken_as r e =
          let x = list l g store os last text in
          let same : r ≡ record { gateway = x.gateway; taken = x.taken; end = x.end } = sym (ok_same x.number _ r (sym e)) in
          λ i. record { number = sym taken-number i; gateway = (same i).gateway; taken = (same i).taken; end = (same i).end }

      pub ends_inside : (r : Listed) → Ok r ≡ listed_given (list l g store os last text) → (store' text' : List ℕ)
          → ListClaims l (running g store) os last text (list l g store os last text) store' text' → r.end ≤ length text
      ends_inside r e store' text' c = omega (arith, c.ends, ap (λ (x : ListAnswer). x.end) (taken_as r e))

      module _ (k : ℕ) (ek : k ≡ datagrams_answered l last os text) (g' : Gateway) (store' : List ℕ) (end : ℕ) (text' : List ℕ) (taken : ℕ)
          (left : running g' store' ≡ left_by_all (running g store) (cut k os)) (ends : end ≡ length (lines_of l (running g store) (cut k os)))
          (written : text' ≡ put text 0 (lines_of l (running g store) (cut k os))) (few : end ≤ line_room l * k) (et : taken ≡ octets_of k os) where
        abbrev given : ListAnswer
        given = record { number = 0; gateway = g'; taken = taken; end = end }

        fits : k ≡ min (cond last (datagrams_in (length os)) (whole_in (length os))) (length text / line_room l)
        unfolding datagrams_answered
        fits = ek

        inside : end ≤ length text
        inside = omega (arith, few, count_room l last (length os) (length text) k fits)

        front : take end text' ≡ lines_of l (running g store) (cut k os)
        front = put_front _ text text' end (omega (arith, ends, inside)) ends written

        the_claims : ListClaims l (running g store) os last text given store' text'
        the_claims = record {
          goes_on = λ z more none. goes_on l (running g store) os last k (count_few l last (length os) (length text) k fits) more none
              ∙ ap₂ ◌++◌ (sym front)
              (ap₂ (λ (s : Running) (n : ℕ). printed l s (drop n os ++ more)) (sym left) (sym et));
          counts_go_on = λ z before e. ap (λ (s : Running). s.gateway.counts) left ∙ counts_go_on (running g store) (cut k os) before e
              ∙ ap (λ (n : ℕ). counts_of (before ++ answers_given (running g store) (cut n os))) ek;
          by_rule = λ z own first past small size e. by_rule own first past small size (running g store) e (cut (datagrams_answered l last os text) os);
          ends = inside;
          takes = unfold octets_of in omega (arith, et);
          takes_on = λ z t e. unfold octets_of in some_taken l last (length os) (length text) k fits t line taken et e;
        }

        given_is : given ≡ list l g store os last text
        unfolding list
        given_is =
            let gateway : g' ≡ (left_by_all (running g store) (cut (datagrams_answered l last os text) os)).gateway =
            ap (λ (s : Running). s.gateway) left ∙ ap (λ (n : ℕ). (left_by_all (running g store) (cut n os)).gateway) ek in
            let ended : end ≡ length (lines_of l (running g store) (cut (datagrams_answered l last os text) os)) =
            ends ∙ ap (λ (n : ℕ). length (lines_of l (running g store) (cut n os))) ek in
            rw taken_on (λ i. record { number = 0; gateway = gateway i; taken = (et ∙ ap (λ (n : ℕ). octets_of n os) ek) i; end = ended i })

        pub lists : Lists (Ok (record { gateway = g'; taken = taken; end = end })) store' text'
        unfolding listed_given store_after text_after outcome
        lists = (
          ap listed_given given_is,
          rw taken_on (ap (λ (s : Running). s.store) left ∙ ap (λ (n : ℕ). (left_by_all (running g store) (cut n os)).store) ek),
          rw taken_on (written ∙ ap (λ (n : ℕ). put text 0 (lines_of l (running g store) (cut n os))) ek),
          subst (λ (r : ListAnswer). ListClaims l (running g store) os last text r store' text') given_is the_claims,
        )
