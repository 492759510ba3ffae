-- A part of a capture and what follows it.
-- Assumes nothing.
use mathlib.Core.Path.{◌≡◌, refl, sym, ap, ap₂, ◌∙◌}
use mathlib.Core.Bool.{Bool, true, false, cond}
use mathlib.Core.List.{List, [], ◌∷◌, ◌++◌, append-nil, append_assoc}
use Prim.Native.Nat.{ℕ, zero, suc, ◌+◌, ◌*◌, ◌-◌, ◌≤◌, ◌<◌, min}
use native.Mathlib.Nat.{zero-add, suc-add}
use native.Mathlib.Decide.{dec_lt}
use native.Mathlib.Omega.{arith}
use lib.ListN.{length, take, drop, length-append, length-drop, drop_of_length-le}
use lib.Seq.{take-append-le, drop-append-le, drop-drop}
use Rattle.reception.specs.Reception.{Answer}
use Rattle.counting.specs.declared.Counts.{Counts}
use Rattle.counting.specs.Counts.{counts_of, counted_all}
use Rattle.counting.proofs.Counting.{counts_on}
use Rattle.captures.specs.declared.Listing.{Listing}
use Rattle.captures.specs.Lines.{closing}
use Rattle.captures.specs.Captures.{datagram_size, cut, datagrams_in, whole_in, datagrams_of, Running, answer_given, left_by, outcome_of, answers_given, left_by_all, lines_of, printed, octets_of}
use Rattle.captures.specs.Parts.{listed_line}
use Rattle.captures.proofs.Runs.{lines_none, lines_cons}

-- ---- datagrams behind datagrams

left-append : (s : Running) (ds es : List (List ℕ)) → left_by_all s (ds ++ es) ≡ left_by_all (left_by_all s ds) es
unfolding left_by_all
left-append s [] es = refl
left-append s (d ∷ ds) es = left-append (left_by s d) ds es

lines-append : (l : Listing) (s : Running) (ds es : List (List ℕ)) → lines_of l s (ds ++ es) ≡ lines_of l s ds ++ lines_of l (left_by_all s ds) es
unfolding left_by_all
lines-append l s [] es = ap (λ (x : List ℕ). x ++ lines_of l s es) (sym (lines_none l s))
lines-append l s (d ∷ ds) es =
    lines_cons l s d (ds ++ es) ∙ ap (λ (x : List ℕ). listed_line l s.gateway.counts.datagrams (outcome_of s d) ++ x) (lines-append l (left_by s d) ds es)
    ∙ sym (append_assoc (listed_line l s.gateway.counts.datagrams (outcome_of s d)) (lines_of l (left_by s d) ds) (lines_of l (left_by_all (left_by s d) ds) es))
    ∙ ap (λ (x : List ℕ). x ++ lines_of l (left_by_all (left_by s d) ds) es) (sym (lines_cons l s d ds))

-- ---- octets behind octets

cut-append : (k j : ℕ) (os more : List ℕ) → datagram_size * k ≤ length os
    → cut (k + j) (os ++ more) ≡ cut k os ++ cut j (drop (datagram_size * k) os ++ more)
unfolding cut
cut-append zero j os more h = ap (λ (n : ℕ). cut n (os ++ more)) (zero-add j)
cut-append (suc k) j os more h =
    let first : take datagram_size (os ++ more) ≡ take datagram_size os = take-append-le datagram_size os more (omega arith) in
    let rest : drop datagram_size (os ++ more) ≡ drop datagram_size os ++ more = drop-append-le datagram_size os more (omega arith) in
    let place : datagram_size + datagram_size * k ≡ datagram_size * suc k = omega arith in
    ap (λ (n : ℕ). cut n (os ++ more)) (suc-add k j)
    ∙ ap₂ (λ (x y : List ℕ). x ∷ cut (k + j) y) first rest
    ∙ ap (λ (x : List (List ℕ)). take datagram_size os ∷ x)
    (cut-append k j (drop datagram_size os) more (omega (arith, length-drop datagram_size os))
    ∙ ap (λ (x : List ℕ). cut k (drop datagram_size os) ++ cut j (x ++ more))
    (drop-drop (datagram_size * k) datagram_size os ∙ ap (λ (n : ℕ). drop n os) place))

module _ (os more : List ℕ) (k : ℕ) where
  -- all are whole
  splits_whole : datagram_size * k ≤ length os → datagrams_of (os ++ more) ≡ cut k os ++ datagrams_of (drop (octets_of k os) os ++ more)
  unfolding datagrams_of octets_of
  splits_whole h =
      let taken : min (datagram_size * k) (length os) ≡ datagram_size * k = omega arith in
      let rest = drop (datagram_size * k) os ++ more in
      let lw : length (os ++ more) ≡ length os + length more = length-append os more in
      let lr : length rest ≡ length os - datagram_size * k + length more =
      length-append (drop (datagram_size * k) os) more ∙ ap (λ (n : ℕ). n + length more) (length-drop (datagram_size * k) os) in
      let many : datagrams_in (length (os ++ more)) ≡ k + datagrams_in (length rest) = omega (arith, lw, lr) in
      rw taken (ap (λ (n : ℕ). cut n (os ++ more)) many ∙ cut-append k (datagrams_in (length rest)) os more h)

  -- the last is not, and nothing follows
  splits_last : length os < datagram_size * k → k ≤ datagrams_in (length os) → more ≡ [] → datagrams_of (os ++ more) ≡ cut k os ++ datagrams_of (drop (octets_of k os) os ++ more)
  unfolding datagrams_of octets_of cut
  splits_last h most none =
      let taken : min (datagram_size * k) (length os) ≡ length os = omega arith in
      let all : datagrams_in (length os) ≡ k = omega arith in
      let empty : drop (length os) os ≡ [] = drop_of_length-le os {i = length os} (omega arith) in
      rw (none, taken, empty, append-nil os, all) (sym (append-nil (cut k os)))

  pub splits : (last : Bool) → k ≤ cond last (datagrams_in (length os)) (whole_in (length os)) → (last ≡ true → more ≡ [])
      → datagrams_of (os ++ more) ≡ cut k os ++ datagrams_of (drop (octets_of k os) os ++ more)
  splits true most none = go (dec_lt (length os) (datagram_size * k))
    where
      go : Dec (length os < datagram_size * k) → datagrams_of (os ++ more) ≡ cut k os ++ datagrams_of (drop (octets_of k os) os ++ more)
      go (yes h) = splits_last h most (none refl)
      go (no h) = splits_whole (omega arith)
  splits false most none = splits_whole (omega arith)

-- ---- the whole text

pub goes_on : (l : Listing) (s : Running) (os : List ℕ) (last : Bool) (k : ℕ) → k ≤ cond last (datagrams_in (length os)) (whole_in (length os))
    → (more : List ℕ) → (last ≡ true → more ≡ [])
    → printed l s (os ++ more) ≡ lines_of l s (cut k os) ++ printed l (left_by_all s (cut k os)) (drop (octets_of k os) os ++ more)
unfolding printed
goes_on l s os last k most more none =
    let ds = cut k os in
    let es = datagrams_of (drop (octets_of k os) os ++ more) in
    ap (λ (x : List (List ℕ)). lines_of l s x ++ closing l (left_by_all s x).gateway.counts) (splits os more k last most none)
    ∙ ap₂ (λ (x : List ℕ) (y : Running). x ++ closing l y.gateway.counts) (lines-append l s ds es) (left-append s ds es)
    ∙ append_assoc (lines_of l s ds) (lines_of l (left_by_all s ds) es) (closing l (left_by_all (left_by_all s ds) es).gateway.counts)

-- ---- counts

counts_left : (s : Running) (ds : List (List ℕ)) → (left_by_all s ds).gateway.counts ≡ counted_all s.gateway.counts (answers_given s ds)
unfolding left_by_all counted_all answers_given left_by answer_given
counts_left s [] = refl
counts_left s (d ∷ ds) = counts_left (left_by s d) ds

pub counts_go_on : (s : Running) (ds : List (List ℕ)) (given : List Answer) → s.gateway.counts ≡ counts_of given
    → (left_by_all s ds).gateway.counts ≡ counts_of (given ++ answers_given s ds)
counts_go_on s ds given e =
    counts_left s ds ∙ ap (λ (c : Counts). counted_all c (answers_given s ds)) e ∙ counts_on (answers_given s ds) given
