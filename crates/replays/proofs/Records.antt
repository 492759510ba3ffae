-- The records of a part of a log, from a place on, and of octets behind octets.
-- Assumes nothing.
use mathlib.Core.Path.{◌≡◌, refl, sym, ap, ap₂, subst, ◌∙◌}
use mathlib.Core.Bool.{Bool, true, false, cond}
use mathlib.Core.List.{List, [], ◌∷◌, ◌++◌, append-nil}
use Prim.Native.Nat.{ℕ, zero, suc, ◌+◌, ◌*◌, ◌-◌, ◌≤◌, ◌<◌}
use native.Mathlib.Omega.{arith}
use native.Mathlib.Nat.{add-zero, le_refl}
use lib.Dec.{ltb}
use lib.ListN.{length, get_or, take, drop, length-drop, length-append, drop_of_length-le, get_or-append}
use lib.Seq.{get_or-drop, drop-drop, drop_at, take-add, length-take-le, take-append-le, drop-append-le}
use borrow.Author.Tests.{lt-ltb, ltb-true, ltb-false, le-leb, lt-leb, leb-true}
use Rattle.foundation.specs.Order.{all}
use Rattle.foundation.proofs.Tests.{either, never, same_test}
use Rattle.foundation.proofs.Order.{all_nil, all_cons, all-at, all_fails}
use Rattle.logs.specs.Log.{Record, none, record_of}
use Rattle.replays.specs.Log.{record_end, is_whole, first_record, records, octets_taken, records_of}
use Rattle.replays.specs.Parts.{Comes, NoneComes, Cuts}
use Rattle.std.specs.Prelude.{Option, Some, None}
use Rattle.replays.specs.declared.Cut.{Cut}

-- ---- whole or not

module _ (os : List ℕ) where
  pub whole : 3 ≤ length os → record_end os ≤ length os → is_whole os ≡ true
  unfolding is_whole
  whole h g = all_cons _ (le-leb 3 (length os) h) (all_cons _ (le-leb (record_end os) (length os) g) all_nil)

  pub early : length os < 3 → is_whole os ≡ false
  unfolding is_whole
  early h = all_fails _ 0 (lt-leb 3 (length os) h)

  pub late : length os < record_end os → is_whole os ≡ false
  unfolding is_whole
  late h = all_fails _ 1 (lt-leb (record_end os) (length os) h)

  whole_head : is_whole os ≡ true → 3 ≤ length os
  unfolding is_whole
  whole_head t = leb-true 3 (length os) (all-at _ 0 t)

  pub whole_end : is_whole os ≡ true → record_end os ≤ length os
  unfolding is_whole
  whole_end t = leb-true (record_end os) (length os) (all-at _ 1 t)

-- ---- no octets

none_in_none : (last : Bool) (k : ℕ) → records last k [] ≡ []
unfolding records is_whole all
none_in_none last zero = refl
none_in_none true (suc k) = refl
none_in_none false (suc k) = refl

none-taken : (last : Bool) (k : ℕ) → octets_taken last k [] ≡ 0
unfolding octets_taken is_whole all
none-taken last zero = refl
none-taken true (suc k) = refl
none-taken false (suc k) = refl

-- ---- the first record

records-zero : (last : Bool) (os : List ℕ) → records last 0 os ≡ []
unfolding records
records-zero last os = refl

taken-zero : (last : Bool) (os : List ℕ) → octets_taken last 0 os ≡ 0
unfolding octets_taken
taken-zero last os = refl

module _ (last : Bool) (k : ℕ) (os : List ℕ) where
  first-whole : is_whole os ≡ true → records last (suc k) os ≡ first_record os ∷ records last k (drop (record_end os) os)
  unfolding records
  first-whole t = rw t

  taken-whole : is_whole os ≡ true → octets_taken last (suc k) os ≡ record_end os + octets_taken last k (drop (record_end os) os)
  unfolding octets_taken
  taken-whole t = rw t

  module _ (short : is_whole os ≡ false) where
    first_last : all (last ∷ ltb 0 (length os) ∷ []) ≡ true → records last (suc k) os ≡ none ∷ []
    unfolding records
    first_last t = rw (short, t)

    first-none : all (last ∷ ltb 0 (length os) ∷ []) ≡ false → records last (suc k) os ≡ []
    unfolding records
    first-none t = rw (short, t)

    taken_last : last ≡ true → octets_taken last (suc k) os ≡ length os
    unfolding octets_taken
    taken_last t = rw (short, t)

    taken_none : last ≡ false → octets_taken last (suc k) os ≡ 0
    unfolding octets_taken
    taken_none t = rw (short, t)

-- where nothing follows, some of the octets are taken if there are any
pub some_taken : (last : Bool) (k : ℕ) (os : List ℕ) → last ≡ true → 0 < k → octets_taken last k os ≡ 0 → length os ≡ 0
some_taken last zero os t h e = absurd (omega arith)
some_taken last (suc k) os t h e =
    either (is_whole os) (λ u. absurd (omega (arith, e, taken-whole last k os u))) (λ u. sym (taken_last last k os u t) ∙ e)

-- ---- a place of the octets

drop-take : (k n : ℕ) (os : List ℕ) → k ≤ length os → drop k (take (k + n) os) ≡ take n (drop k os)
drop-take k n os h = rw (take-add k n os) (drop_at (take k os) (take n (drop k os)) k (length-take-le k os h))

no_kind : (os : List ℕ) → record_of 255 os ≡ none
unfolding record_of all
no_kind os = refl

module _ (os : List ℕ) (at : ℕ) (last : Bool) (inside : at ≤ length os) where
  abbrev rest : List ℕ
  rest = drop at os

  left : length rest ≡ length os - at
  left = length-drop at os

  some : ltb 0 (length rest) ≡ ltb at (length os)
  some =
      same_test (ltb 0 (length rest)) (ltb at (length os)) (λ t. lt-ltb at (length os) (omega (arith, left, ltb-true 0 (length rest) t)))
      (λ t. lt-ltb 0 (length rest) (omega (arith, left, ltb-true at (length os) t)))

  -- cut short by the end, where nothing follows, or not all there yet
  module _ (short : is_whole rest ≡ false) where
    the_last : all (last ∷ ltb at (length os) ∷ []) ≡ true → Comes os at last (record { kind = 255; start = length os; end = length os })
    the_last t =
        let gone : drop (length os) os ≡ [] = drop_of_length-le os (le_refl (length os)) in
        let more : all (last ∷ ltb 0 (length rest) ∷ []) ≡ true = ap (λ (b : Bool). all (last ∷ b ∷ [])) some ∙ t in
        record {
          starts = omega arith;
          within = omega arith;
          later = ltb-true at (length os) (all-at _ 1 t);
          first = λ k. first_last last k rest short more
              ∙ ap₂ (λ (r : Record) (rs : List Record). r ∷ rs) (sym (no_kind _)) (sym (ap (records last k) gone ∙ none_in_none last k));
          taken = λ k. taken_last last k rest short (all-at _ 0 t) ∙ left
              ∙ sym (ap (λ (n : ℕ). length os - at + n) (ap (octets_taken last k) gone ∙ none-taken last k) ∙ add-zero (length os - at));
        }

    module _ (t : all (last ∷ ltb at (length os) ∷ []) ≡ false) where
      few : all (last ∷ ltb 0 (length rest) ∷ []) ≡ false
      few = ap (λ (b : Bool). all (last ∷ b ∷ [])) some ∙ t

      none_come : (k : ℕ) → records last k rest ≡ []
      none_come zero = records-zero last rest
      none_come (suc k) = first-none last k rest short few

      none_go : (k : ℕ) → octets_taken last k rest ≡ 0
      none_go zero = taken-zero last rest
      none_go (suc k) =
          either last
          (λ u. either (ltb 0 (length rest)) (λ v. never (all_cons _ u (all_cons _ v all_nil)) few)
          (λ v. taken_last last k rest short u ∙ omega (arith, ltb-false 0 (length rest) v)))
          (taken_none last k rest short)

      not_yet : NoneComes os at last
      not_yet = record { no_more = none_come; no_octets_lem = none_go }

    pub cut_short : (c : Option Cut)
        → c ≡ cond (all (last ∷ ltb at (length os) ∷ [])) (Some (record { kind = 255; start = length os; end = length os })) None → Cuts os at last c
    cut_short c e =
        either (all (last ∷ ltb at (length os) ∷ []))
        (λ t. subst (Cuts os at last) (sym (rw t at e)) (the_last t))
        (λ t. subst (Cuts os at last) (sym (rw t at e)) (not_yet t))

  abbrev size : ℕ
  size = 256 * get_or os (at + 1) 0 + get_or os (at + 2) 0

  end_is : record_end rest ≡ 3 + size
  end_is = rw (get_or-drop at os 1 0, get_or-drop at os 2 0)

  pub short_early : length os - at < 3 → is_whole rest ≡ false
  short_early h = early rest (omega (arith, left))

  pub short_late : length os - at < 3 + size → is_whole rest ≡ false
  short_late h = late rest (omega (arith, left, end_is))

  pub cut-whole : 3 ≤ length os - at → 3 + size ≤ length os - at
      → Comes os at last (record { kind = get_or os at 0; start = at + 3; end = at + (3 + size) })
  cut-whole room h =
      let t : is_whole rest ≡ true = whole rest (omega (arith, left)) (omega (arith, left, end_is)) in
      let n : at + (3 + size) - (at + 3) ≡ size = omega arith in
      let m : at + (3 + size) - at ≡ 3 + size = omega arith in
      let behind : drop (record_end rest) rest ≡ drop (at + (3 + size)) os = ap (λ (e : ℕ). drop e rest) end_is ∙ drop-drop (3 + size) at os in
      record {
        starts = omega arith;
        within = omega arith;
        later = omega arith;
        first = λ k. first-whole last k rest t
            ∙ ap₂ (λ (r : Record) (rs : List Record). r ∷ rs)
            (ap₂ record_of (get_or-drop at os 0 0 ∙ ap (λ (i : ℕ). get_or os i 0) (add-zero at))
            (ap (λ (e : ℕ). drop 3 (take e rest)) end_is ∙ drop-take 3 size rest (omega (arith, left)) ∙ ap (take size) (drop-drop 3 at os)
            ∙ ap (λ (j : ℕ). take j (drop (at + 3) os)) (sym n)))
            (ap (records last k) behind);
        taken = λ k. taken-whole last k rest t ∙ ap₂ ◌+◌ (end_is ∙ sym m) (ap (octets_taken last k) behind);
      }

-- ---- octets behind octets

splits_none : (last : Bool) (os more : List ℕ)
    → records_of (os ++ more) ≡ records last 0 os ++ records_of (drop (octets_taken last 0 os) os ++ more)
unfolding records octets_taken
splits_none last os more = refl

-- the number of records asked for does not matter where it is large enough
enough : (last : Bool) (k j : ℕ) (os : List ℕ) → length os ≤ k → length os ≤ j → records last k os ≡ records last j os
enough last zero zero os h g = refl
enough last zero (suc j) [] h g = none_in_none last zero ∙ sym (none_in_none last (suc j))
enough last zero (suc j) (x ∷ os) h g = absurd (omega arith)
enough last (suc k) zero [] h g = none_in_none last (suc k) ∙ sym (none_in_none last zero)
enough last (suc k) zero (x ∷ os) h g = absurd (omega arith)
enough last (suc k) (suc j) os h g =
    either (is_whole os)
    (λ t. first-whole last k os t
    ∙ ap (λ (rs : List Record). first_record os ∷ rs)
    (enough last k j (drop (record_end os) os) (omega (arith, length-drop (record_end os) os, whole_end os t)) (omega (arith, length-drop (record_end os) os, whole_end os t)))
    ∙ sym (first-whole last j os t))
    (λ t. either (all (last ∷ ltb 0 (length os) ∷ []))
    (λ u. first_last last k os t u ∙ sym (first_last last j os t u))
    (λ u. first-none last k os t u ∙ sym (first-none last j os t u)))

-- all records, the first in front
records-first : (os : List ℕ) → is_whole os ≡ true → records_of os ≡ first_record os ∷ records_of (drop (record_end os) os)
unfolding records_of
records-first os t =
    let l = length-drop (record_end os) os in
    enough true (length os) (suc (length os)) os (omega arith) (omega arith) ∙ first-whole true (length os) os t
    ∙ ap (λ (rs : List Record). first_record os ∷ rs) (enough true (length os) (length (drop (record_end os) os)) (drop (record_end os) os) (omega (arith, l)) (omega arith))

module _ (os more : List ℕ) (t : is_whole os ≡ true) where
  same_end : record_end (os ++ more) ≡ record_end os
  same_end = let h = whole_head os t in rw (get_or-append os more 0 1 (omega (arith, h)), get_or-append os more 0 2 (omega (arith, h)))

  still_whole : is_whole (os ++ more) ≡ true
  still_whole =
      let l = length-append os more in
      whole (os ++ more) (omega (arith, l, whole_head os t)) (omega (arith, l, same_end, whole_end os t))

  same_first : first_record (os ++ more) ≡ first_record os
  same_first =
      ap₂ record_of (get_or-append os more 0 0 (omega (arith, whole_head os t)))
      (ap (λ (e : ℕ). drop 3 (take e (os ++ more))) same_end ∙ ap (drop 3) (take-append-le (record_end os) os more (whole_end os t)))

  same_rest : drop (record_end (os ++ more)) (os ++ more) ≡ drop (record_end os) os ++ more
  same_rest = ap (λ (e : ℕ). drop e (os ++ more)) same_end ∙ drop-append-le (record_end os) os more (whole_end os t)

  records-behind-first : records_of (os ++ more) ≡ first_record os ∷ records_of (drop (record_end os) os ++ more)
  records-behind-first =
      records-first (os ++ more) still_whole ∙ ap₂ (λ (r : Record) (l : List ℕ). r ∷ records_of l) same_first same_rest

-- a first record that is not whole
module _ (last : Bool) (k : ℕ) (os more : List ℕ) (end : last ≡ true → more ≡ []) (short : is_whole os ≡ false) where
  abbrev Splits : Type 0
  Splits = records_of (os ++ more) ≡ records last (suc k) os ++ records_of (drop (octets_taken last (suc k) os) os ++ more)

  -- all records of the octets, by what there is of them
  the_only : all (true ∷ ltb 0 (length os) ∷ []) ≡ true → records_of os ≡ none ∷ []
  unfolding records_of
  the_only t = enough true (length os) (suc (length os)) os (omega arith) (omega arith) ∙ first_last true (length os) os short t

  not_any : all (true ∷ ltb 0 (length os) ∷ []) ≡ false → records_of os ≡ []
  unfolding records_of
  not_any t = enough true (length os) (suc (length os)) os (omega arith) (omega arith) ∙ first-none true (length os) os short t

  -- nothing follows: what is left over is the last record, or there is none
  splits_last : last ≡ true → Splits
  unfolding records_of records
  splits_last u =
      let whole-log : records_of (os ++ more) ≡ records_of os = ap records_of (ap (λ (l : List ℕ). os ++ l) (end u) ∙ append-nil os) in
      let gone : drop (octets_taken last (suc k) os) os ++ more ≡ [] =
      ap₂ ◌++◌ (ap (λ (n : ℕ). drop n os) (taken_last last k os short u) ∙ drop_of_length-le os (le_refl (length os))) (end u) in
      let same : all (last ∷ ltb 0 (length os) ∷ []) ≡ all (true ∷ ltb 0 (length os) ∷ []) = ap (λ (b : Bool). all (b ∷ ltb 0 (length os) ∷ [])) u in
      either (all (true ∷ ltb 0 (length os) ∷ []))
      (λ t. whole-log ∙ the_only t ∙ sym (ap₂ (λ (rs : List Record) (l : List ℕ). rs ++ records_of l) (first_last last k os short (same ∙ t)) gone))
      (λ t. whole-log ∙ not_any t ∙ sym (ap₂ (λ (rs : List Record) (l : List ℕ). rs ++ records_of l) (first-none last k os short (same ∙ t)) gone))

  splits_later : last ≡ false → Splits
  splits_later u =
      sym (ap₂ (λ (rs : List Record) (n : ℕ). rs ++ records_of (drop n os ++ more))
      (first-none last k os short (all_fails _ 0 u)) (taken_none last k os short u))

-- the records of a part, and then those of the octets not yet answered and of what follows
pub splits : (last : Bool) (k : ℕ) (os more : List ℕ) → (last ≡ true → more ≡ [])
    → records_of (os ++ more) ≡ records last k os ++ records_of (drop (octets_taken last k os) os ++ more)
splits last zero os more end = splits_none last os more
splits last (suc k) os more end =
    either (is_whole os)
    (λ t. records-behind-first os more t
    ∙ ap (λ (rs : List Record). first_record os ∷ rs)
    (splits last k (drop (record_end os) os) more end
    ∙ ap (λ (l : List ℕ). records last k (drop (record_end os) os) ++ records_of (l ++ more))
    (drop-drop (octets_taken last k (drop (record_end os) os)) (record_end os) os))
    ∙ sym (ap₂ (λ (rs : List Record) (n : ℕ). rs ++ records_of (drop n os ++ more)) (first-whole last k os t) (taken-whole last k os t)))
    (λ t. either last (splits_last last k os more end t) (splits_later last k os more end t))
