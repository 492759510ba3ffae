-- Datagrams in order: a run part of the way through, and the lines that are written.
-- Assumes nothing.
use mathlib.Core.Path.{◌≡◌, refl, sym, ap, ap₂, subst, ◌∙◌}
use mathlib.Core.List.{List, [], ◌∷◌, ◌++◌, append-nil, append_assoc}
use Prim.Native.Nat.{ℕ, zero, suc, ◌+◌, ◌*◌, ◌-◌, ◌%◌, ◌^◌, ◌≤◌, ◌<◌, min}
use native.Mathlib.Nat.{mul-add, mul-one, mul-le-mul_left}
use native.Mathlib.Omega.{arith}
use lib.ListN.{length, take, drop, length-append}
use lib.Seq.{take-append_seam, drop-append_seam}
use Rattle.std.proofs.lemmas.List.{take_min, drop_min}
use Rattle.std.specs.Prelude.{Result, Ok, Err}
use Rattle.foundation.specs.Refusals.{refusal_number}
use Rattle.foundation.specs.declared.refusal.Refusal.{Refusal}
use Rattle.foundation.proofs.Copying.{length-put}
use Rattle.texts.specs.Parts.{HasRoom, Wrote, AtMost}
use Rattle.texts.specs.declared.Writer.{Writer}
use Rattle.texts.proofs.Writing.{wrote_none, behind}
use Rattle.captures.specs.declared.Gateway.{Gateway}
use Rattle.captures.specs.declared.Listing.{Listing}
use Rattle.captures.specs.declared.Listing.TheVariants.{Numbers, Deliveries}
use Rattle.receiver_state.specs.declared.Receiver.{Receiver}
use Rattle.receiver.specs.Events as event
use Rattle.receiver.specs.declared.event.Step as steps
use Rattle.reception.specs.Reception.{Answer, Refused, Confirmed, Received, by_receiver, received_told, said, on_datagram}
use Rattle.counting.specs.declared.Counts.{Counts}
use Rattle.transactions.specs.Answers.{Said}
use Rattle.counting.specs.Counts.{hands_on, is_message, refuses, is_refused, counted}
use Rattle.captures.specs.Lines.{Outcome, number_lines, numbers, delivery_lines, listed, line_room}
use Rattle.captures.specs.Captures.{datagram_size, cut, Running, running, answer_given, left_by, outcome_of, left_by_all, outcomes, lines_of}
use Rattle.captures.specs.Parts.{listed_line}

-- ---- one datagram more

-- the index after a datagram
next_index : (s : Running) (d : List ℕ) → (left_by s d).gateway.counts.datagrams ≡ (s.gateway.counts.datagrams + 1) % 2 ^ 64
unfolding left_by counted
next_index s d = refl

listed_cons : (l : Listing) (i : ℕ) (o : Outcome) (os : List Outcome) → listed l i (o ∷ os) ≡ listed_line l i o ++ listed l ((i + 1) % 2 ^ 64) os
unfolding listed listed_line number_lines numbers delivery_lines
listed_cons Numbers i o os = refl
listed_cons Deliveries i o os = refl

pub lines_none : (l : Listing) (s : Running) → lines_of l s [] ≡ []
unfolding lines_of outcomes listed number_lines numbers delivery_lines
lines_none Numbers s = refl
lines_none Deliveries s = refl

pub lines_cons : (l : Listing) (s : Running) (d : List ℕ) (ds : List (List ℕ))
    → lines_of l s (d ∷ ds) ≡ listed_line l s.gateway.counts.datagrams (outcome_of s d) ++ lines_of l (left_by s d) ds
unfolding lines_of outcomes
lines_cons l s d ds =
    listed_cons l s.gateway.counts.datagrams (outcome_of s d) (outcomes (left_by s d) ds)
    ∙ ap (λ (k : ℕ). listed_line l s.gateway.counts.datagrams (outcome_of s d) ++ listed l k (outcomes (left_by s d) ds)) (sym (next_index s d))

-- the same as a step of the receiver: a refusal is one, whoever refused
abbrev answer_of : Answer → event.Answer
answer_of (Refused n) = event.Refused n
answer_of (Confirmed a) = a

abbrev pub step_of : Received → event.Step
step_of r = record { receiver = r.receiver; answer = answer_of r.answer }

-- what is given for a datagram, made a step

pub stepped : (given : Result steps.Step Refusal) (rx : Receiver) (s x : steps.Step) → given ≡ Ok x → s ≡ x
    → event.step_told s ≡ step_of (received_told given rx)
unfolding by_receiver
stepped given rx s x e f = rw (e, f) refl

pub not_stepped : (given : Result steps.Step Refusal) (rx : Receiver) (s x : steps.Step) (r : Refusal) → given ≡ Err r → s ≡ x
    → event.step_told x ≡ event.answered rx (event.Refused (refusal_number r)) → event.step_told s ≡ step_of (received_told given rx)
not_stepped given rx s x r e f told = rw (e, f) told

-- of a received answer and of the step's, the same is said, and the same is counted

same_said : (a : Answer) (store : List ℕ) → event.said (answer_of a) store ≡ said a store
unfolding said event.said
same_said (Refused n) store = refl
same_said (Confirmed a) store = refl

same_counted : (c : Counts) (a : Answer) → counted c (Confirmed (answer_of a)) ≡ counted c a
unfolding counted is_message is_refused hands_on refuses said event.said
same_counted c (Refused n) = refl
same_counted c (Confirmed a) = refl

-- the step, from what the receiver gave and what was counted and written
pub answered-step : (l : Listing) (g : Gateway) (store d : List ℕ) (x : event.Step) (store' : List ℕ) (c : Counts) (w w' : Writer)
    → x ≡ step_of (on_datagram g.receiver store d).received → store' ≡ (on_datagram g.receiver store d).store → c ≡ counted g.counts (Confirmed x.answer)
    → AtMost (line_room l) (listed_line l g.counts.datagrams (record { said = event.said x.answer store'; transaction = x.receiver.transaction })) w w'
    → (running (record { receiver = x.receiver; counts = c }) store' ≡ left_by (running g store) d)
    × AtMost (line_room l) (listed_line l g.counts.datagrams (outcome_of (running g store) d)) w w'
unfolding left_by outcome_of answer_given
answered-step l g store d x store' c w w' ex es ec p =
    let y = on_datagram g.receiver store d in
    let counts = ec ∙ ap (λ (s : event.Step). counted g.counts (Confirmed s.answer)) ex ∙ same_counted g.counts y.received.answer in
    let stepped : ◌≡◌ {A = Outcome} (record { said = event.said x.answer store'; transaction = x.receiver.transaction })
    (record { said = event.said (answer_of y.received.answer) y.store; transaction = y.received.receiver.transaction }) =
    λ i. record { said = event.said (ex i).answer (es i); transaction = (ex i).receiver.transaction } in
    let outcome : ◌≡◌ {A = Outcome} (record { said = event.said x.answer store'; transaction = x.receiver.transaction }) (outcome_of (running g store) d) =
    stepped ∙ ap (λ (s : Said). record { said = s; transaction = y.received.receiver.transaction }) (same_said y.received.answer y.store) in (
      λ i. running (record { receiver = (ex i).receiver; counts = counts i }) (es i),
      subst (λ (o : Outcome). AtMost (line_room l) (listed_line l g.counts.datagrams o) w w') outcome p,
    )

-- the next datagram is the first of the octets that are left, or all of them
cut_more : (k k' : ℕ) (d rest rest' : List ℕ) → k' + 1 ≡ k → rest ≡ d ++ rest' → length d ≡ min datagram_size (length rest) → cut k rest ≡ d ∷ cut k' rest'
unfolding cut
cut_more k k' d rest rest' h parts size =
    let e : k ≡ suc k' = omega arith in
    let first : take datagram_size rest ≡ d =
    sym (take_min datagram_size rest) ∙ ap (λ (n : ℕ). take n rest) (sym size) ∙ ap (take (length d)) parts ∙ take-append_seam d rest' in
    let later : drop datagram_size rest ≡ rest' =
    sym (drop_min datagram_size rest) ∙ ap (λ (n : ℕ). drop n rest) (sym size) ∙ ap (drop (length d)) parts ∙ drop-append_seam d rest' in
    rw e (ap₂ (λ (x : List ℕ) (y : List ℕ). x ∷ cut k' y) first later)

-- none is to come where no octets are left
none_left : (k n : ℕ) → datagram_size * k < n + datagram_size → (0 < k → n ≡ 0) → k ≡ 0
none_left zero n c h = refl
none_left (suc k) n c h = let e = h (omega arith) in absurd (omega (arith, e, c))

-- ---- part of the way through

-- some of the datagrams are answered and their lines stand behind the text, k are to come from the rest of the octets; what is left leads to where
-- the whole leads
pub record Midway (l : Listing) (g : Gateway) (store octets : List ℕ) (count : ℕ) (w : Writer) (k : ℕ) (rest : List ℕ) (now : Gateway) (store' : List ℕ) (w' : Writer) : Type 0 where
  pub done : List ℕ
  pub part : k ≤ count
  pub come : datagram_size * k < length rest + datagram_size
  pub wrote : Wrote done w w'
  pub few : length done ≤ line_room l * (count - k)
  pub left : left_by_all (running g store) (cut count octets) ≡ left_by_all (running now store') (cut k rest)
  pub lines : lines_of l (running g store) (cut count octets) ≡ done ++ lines_of l (running now store') (cut k rest)

module _ (l : Listing) (g : Gateway) (store octets : List ℕ) (count : ℕ) (w : Writer) where
  pub midway_start : (k : ℕ) (rest : List ℕ) → k ≡ count → rest ≡ octets → datagram_size * count < length octets + datagram_size
      → Midway l g store octets count w k rest g store w
  midway_start k rest ek er c = record {
    done = [];
    part = omega (arith, ek);
    come = omega (arith, ek, ap length er, c);
    wrote = wrote_none w;
    few = omega arith;
    left = rw (ek, er);
    lines = rw (ek, er);
  }

  module _ (k : ℕ) (rest : List ℕ) (now : Gateway) (store' : List ℕ) (w' : Writer) (m : Midway l g store octets count w k rest now store' w') where
    -- a line more has room
    one_more : (k' : ℕ) → k' + 1 ≡ k → line_room l * (count - k') ≤ line_room l * count
    one_more k' h = mul-le-mul_left (line_room l) (omega arith)

    so_many : (k' : ℕ) → k' + 1 ≡ k → line_room l * (count - k') ≡ line_room l * (count - k) + line_room l
    so_many k' h =
        let e : count - k' ≡ count - k + 1 = omega (arith, m.part) in
        ap (λ (n : ℕ). line_room l * n) e ∙ mul-add (line_room l) (count - k) 1 ∙ ap (λ (n : ℕ). line_room l * (count - k) + n) (mul-one (line_room l))

    pub midway_room : (k' : ℕ) → k' + 1 ≡ k → HasRoom (line_room l * count) w → HasRoom (line_room l) w'
    midway_room k' h room = omega (arith, one_more k' h, so_many k' h, m.wrote.end, m.few, ap length m.wrote.text, length-put w.text.now w.end m.done)

    pub midway_more : (k' : ℕ) → k' + 1 ≡ k → (d rest' : List ℕ) → rest ≡ d ++ rest' → length d ≡ min datagram_size (length rest) → HasRoom (line_room l * count) w
        → (now'' : Gateway) (store'' : List ℕ) (w'' : Writer) → running now'' store'' ≡ left_by (running now store') d
        → AtMost (line_room l) (listed_line l now.counts.datagrams (outcome_of (running now store') d)) w' w''
        → Midway l g store octets count w k' rest' now'' store'' w''
    unfolding left_by_all
    midway_more k' h d rest' parts size room now'' store'' w'' left p =
        let s = running now store' in
        let line = listed_line l now.counts.datagrams (outcome_of s d) in
        let later = cut k' rest' in
        let step : cut k rest ≡ d ∷ later = cut_more k k' d rest rest' h parts size in
        let most = one_more k' h in
        let many = so_many k' h in
        let long : length line ≤ line_room l = omega (arith, p.wrote.end, p.most) in
        record {
          done = m.done ++ line;
          part = omega (arith, m.part);
          come = omega (arith, m.come, size, ap length parts, length-append d rest');
          wrote = behind m.done line w w' w'' (omega (arith, m.few, most, many)) m.wrote p.wrote;
          few = omega (arith, m.few, length-append m.done line, many);
          left = m.left ∙ ap (left_by_all s) step ∙ ap (λ (x : Running). left_by_all x later) (sym left);
          lines = m.lines ∙ ap (λ (ds : List (List ℕ)). m.done ++ lines_of l s ds) step
              ∙ ap (λ (x : List ℕ). m.done ++ x) (lines_cons l s d later ∙ ap (λ (x : Running). line ++ lines_of l x later) (sym left))
              ∙ sym (append_assoc m.done line (lines_of l (running now'' store'') later));
        }

    pub midway_end : (0 < k → length rest ≡ 0) → (running now store' ≡ left_by_all (running g store) (cut count octets))
        × AtMost (line_room l * count) (lines_of l (running g store) (cut count octets)) w w'
    unfolding cut left_by_all
    midway_end h =
        let e : k ≡ 0 = none_left k (length rest) m.come h in
        let whole : lines_of l (running g store) (cut count octets) ≡ m.done =
        rw e at m.lines ∙ ap (λ (x : List ℕ). m.done ++ x) (lines_none l (running now store')) ∙ append-nil m.done in
        let same : count - k ≡ count = omega (arith, e) in
        let few : length m.done ≤ line_room l * count = subst (λ (n : ℕ). length m.done ≤ line_room l * n) same m.few in (
          sym (rw e at m.left),
          subst (λ (x : List ℕ). AtMost (line_room l * count) x w w') (sym whole) (record { wrote = m.wrote; most = omega (arith, m.wrote.end, few) }),
        )
