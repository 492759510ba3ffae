-- Octets that are read from a reader whose octets are known: those that stand behind the first ones, and all of them.
-- Assumes nothing.
use Rattle.std.proofs.Common.{◌≡◌, ℕ, ◌+◌, ◌-◌, ◌%◌, ◌^◌, ◌≤◌, ◌<◌, Bool, true, false, eqb, List, [], ◌++◌, append-nil, IfSome, None, Some, length, take, drop, refl, sym, ap, subst, arith, ◌∙◌, le-ltb, lt-ltb}
use Rattle.std.proofs.lemmas.List.{drop-take, take-take, take-append-drop}
use Rattle.std.proofs.Math.Seq.{drop-append_seam, take-append-le, length-take-le}
use Rattle.std.proofs.KnownBytes.{Consumes-nil, Consumes-trans, Consumes-whole, Appends-nil, Appends-trans}
use Rattle.std.specs.Io.KnownBytes.{Appends, Consumes, IsAtEnd}
use Rattle.foundation.proofs.Tests.{never}
use Rattle.std.specs.declared.option.Option.{Option}
use Rattle.inputs.specs.Inputs.{ReadBehind}
use Rattle.inputs.specs.Parts.{PrintsTurn, Between}
use Rattle.inputs.specs.declared.printing.Turn.{Turn}
use Rattle.inputs.specs.Inputs.{AllWritten, behind_own, WrittenBehind}
use Rattle.inputs.proofs.Turns.{length_none, underway_start, underway_answered, underway_more, length_new, behind_rest}
use Rattle.foundation.proofs.OctetLists.{Octets, octets-take, octets-drop}
use borrow.Author.Tests.{eqb-true, ltb-true, ltb-false}
use lib.Seq.{take_all}
use lib.Seq.{take_at, drop_at}
use lib.ListN.{drop_of_length-le}
use lib.Dec.{ltb}

-- what is put behind the first octets
pub part_behind : (d buf rest : List ℕ) (first n : ℕ) → first ≤ length d → n ≤ length buf
    → take n buf ≡ drop first (take (first + n) (take first d ++ (buf ++ rest)))
part_behind d buf rest first n inside fits =
    let all : List ℕ = take first d ++ (buf ++ rest) in
    let seam : drop first all ≡ buf ++ rest = subst (λ (k : ℕ). drop k all ≡ buf ++ rest) (length-take-le first d inside) (drop-append_seam (take first d) (buf ++ rest)) in
    sym (drop-take first n all ∙ ap (take n) seam ∙ take-append-le n buf rest fits)

-- one reading behind the octets of others
pub consumes_behind : (a b c : Option (List ℕ)) (input : List ℕ) (size : ℕ) (read : ℕ) (input' : List ℕ) → ReadBehind input size read input'
    → Consumes a b (take size input) → Consumes b c (drop size (take read input')) → Consumes a c (take read input')
consumes_behind a b c input size read input' behind before more =
    let whole : take size input ++ drop size (take read input') ≡ take read input' =
    ap (λ (x : List ℕ). x ++ drop size (take read input')) (sym behind.kept ∙ sym (take-take size read input' behind.behind))
    ∙ take-append-drop size (take read input') in
    subst (Consumes a c) whole (Consumes-trans a b c _ _ before more)

-- ---- turns

module _ {S : Type 0} (text : S → List ℕ → List ℕ) (first : S) (from to : Option (List ℕ)) where
  pub between_start : Between text first 0 0 false first [] from from to to
  unfolding underway_start
  between_start = (underway_start text first, Consumes-nil from, Appends-nil to, λ e. never e refl)

  -- octets are answered
  between_answered : (octets letters : ℕ) (ended : Bool) (now : S) (rest : List ℕ) (from' to' to'' : Option (List ℕ))
      → Between text first octets letters ended now rest from from' to to' → (t : Turn) (now' : S) (rest' : List ℕ)
      → PrintsTurn text now rest ended t now' rest' to' to'' → (letters' : ℕ) → letters' ≡ (letters + t.letters) % 2 ^ 64
      → Between text first octets letters' ended now' rest' from from' to to''
  unfolding underway_answered
  between_answered octets letters ended now rest from' to' to'' b t now' rest' a letters' e = (
    underway_answered text first octets letters ended now rest b.0 t.letters t.kept now' rest' a.0 letters' e,
    b.1,
    Appends-trans to to' to'' b.0.written a.0.line b.2 a.1,
    b.3,
  )

  -- a turn over the first octets of the input: what is left in front, and of what is left where it is no less
  pub record Turned (octets letters : ℕ) (ended : Bool) (now : S) (rest : List ℕ) (from' to' : Option (List ℕ)) (size kept : ℕ) : Type 0 where
    pub between : Between text first octets letters ended now rest from from' to to'
    pub fewer : kept ≤ size
    pub all : size ≤ kept → kept ≡ size
    pub none : ended ≡ true → size ≤ kept → kept ≡ 0
    pub room : ended ≡ false → size ≤ kept → size < 65538

  pub turned : (octets letters : ℕ) (ended : Bool) (now : S) (input : List ℕ) (size : ℕ) (from' to' to'' : Option (List ℕ))
      → Between text first octets letters ended now (take size input) from from' to to' → size ≤ length input → (t : Turn) (now' : S) (rest' : List ℕ)
      → PrintsTurn text now (take size input) ended t now' rest' to' to''
      → Turned octets ((letters + t.letters) % 2 ^ 64) ended now' rest' from' to'' size t.kept
  turned octets letters ended now input size from' to' to'' b inside t now' rest' a = record {
    between = between_answered octets letters ended now (take size input) from' to' to'' b t now' rest' a _ refl;
    fewer = few;
    all = all;
    none = λ e h. omega (arith, long, all h, a.0.none_left e (omega (arith, long, all h)));
    room = λ e h. omega (arith, long, a.2 e (omega (arith, long, all h)));
  }
    where
      long : length (take size input) ≡ size
      long = length-take-le size input inside

      few : t.kept ≤ size
      few = omega (arith, a.0.fewer, long)

      all : size ≤ t.kept → t.kept ≡ size
      all h = omega (arith, few)

  -- octets are read
  between_more : (octets letters : ℕ) (now : S) (rest : List ℕ) (from' from'' to' : Option (List ℕ))
      → Between text first octets letters false now rest from from' to to' → (new : List ℕ) → Octets new → Consumes from' from'' new
      → (ended : Bool) → (ended ≡ true → new ≡ []) → (ended ≡ true → IsAtEnd from'') → (octets' : ℕ) → octets' ≡ (octets + length new) % 2 ^ 64
      → Between text first octets' letters ended now (rest ++ new) from from'' to to'
  unfolding underway_more
  between_more octets letters now rest from' from'' to' b new small taken ended none end octets' e = (
    underway_more text first octets letters now rest b.0 new small ended none octets' e,
    Consumes-trans from from' from'' b.0.read new b.1 taken,
    b.2,
    end,
  )

  pub between_read : (input : List ℕ) (size : ℕ) (read : ℕ) (input' : List ℕ) (behind : ReadBehind input size read input') (inside : size ≤ length input)
      (room : length input' ≡ length input) (octets letters : ℕ) (ended : Bool) (now : S) (kept : ℕ) (from' from'' to' : Option (List ℕ))
      → Between text first octets letters ended now (take kept input) from from' to to' → ended ≡ false → kept ≡ size
      → Consumes from' from'' (drop size (take read input')) → (ended' : Bool) → ended' ≡ eqb read size → (ended' ≡ true → IsAtEnd from'')
      → (octets' : ℕ) → octets' ≡ (octets + (read - size)) % 2 ^ 64
      → Between text first octets' letters ended' now (take read input') from from'' to to'
  between_read input size read input' behind inside room octets letters ended now kept from' from'' to' b e k taken ended' ee end octets' eo =
      let new : List ℕ = drop size (take read input') in
      let long : length new ≡ read - size = length_new input size read input' behind inside room in
      let before : Between text first octets letters false now (take size input) from from' to to' =
      subst (λ (n : ℕ). Between text first octets letters false now (take n input) from from' to to') k
      (subst (λ (t : Bool). Between text first octets letters t now (take kept input) from from' to to') e b) in
      subst (λ (x : List ℕ). Between text first octets' letters ended' now x from from'' to to') (behind_rest input size read input' behind inside room)
      (between_more octets letters now (take size input) from' from'' to' before new (octets-drop size (take read input') (octets-take read input' behind.octets))
      taken ended' (λ t. length_none new (omega (arith, long, eqb-true read size (sym ee ∙ t)))) end octets' (eo ∙ ap (λ (n : ℕ). (octets + n) % 2 ^ 64) (sym long)))

  -- nothing is kept, and nothing follows: the text at the end, and with it that of all that there was to read
  pub between_over : (octets letters : ℕ) (ended : Bool) (now : S) (input : List ℕ) (kept : ℕ) (from' to' to'' : Option (List ℕ))
      → Between text first octets letters ended now (take kept input) from from' to to' → ended ≡ true → kept ≡ 0 → Appends to' to'' (text now [])
      → AllWritten text first from to to''
  between_over octets letters ended now input kept from' to' to'' b e z more =
      let u = b.0 in
      let whole : text first u.read ≡ u.written ++ text now [] =
      ap (text first) (sym (append-nil u.read)) ∙ u.goes_on [] (λ _. refl)
      ∙ ap (λ (x : List ℕ). u.written ++ text now x) (append-nil (take kept input) ∙ ap (λ (n : ℕ). take n input) z) in
      Consumes-whole from from' u.read (λ xs. Octets xs × Appends to to'' (text first xs)) b.1 (b.3 e)
      (u.octets-read, subst (Appends to to'') (sym whole) (Appends-trans to to' to'' u.written (text now []) b.2 more))

-- what holds of any octets holds of those that are known
pub every : {A : Type 0} (o : Option A) (P : A → Type 0) → ((x : A) → P x) → IfSome o P
every None P h = tt
every (Some x) P h = h x

-- first octets that are read, fewer only where the input has ended, and what is left behind them
pub first_and_rest : (n : ℕ) (P : List ℕ → List ℕ → Type 0) (from mid : Option (List ℕ)) (first : List ℕ) (size : ℕ) → length first ≡ n → size ≤ n
    → Consumes from mid (take size first) → (size < n → IsAtEnd mid) → IfSome mid (P (take size first)) → IfSome from (λ os. P (take n os) (drop n os))
first_and_rest n P None mid first size e inside taken ended h = tt
first_and_rest n P (Some xs) None first size e inside taken ended h = absurd taken
first_and_rest n P (Some xs) (Some ys) first size e inside taken ended h = go (ltb size n) refl
  where
    long : length (take size first) ≡ size
    long = length-take-le size first (omega (arith, e, inside))

    go : (b : Bool) → ltb size n ≡ b → P (take n xs) (drop n xs)
    go false f =
        let all : length (take size first) ≡ n = omega (arith, long, inside, ltb-false size n f) in
        rw (taken, take_at (take size first) ys n all, drop_at (take size first) ys n all) h
    go true t =
        let none : ys ≡ [] = ended (ltb-true size n t) in
        let few : length (take size first) ≤ n = omega (arith, long, inside) in
        let whole : xs ≡ take size first = taken ∙ ap (λ (y : List ℕ). take size first ++ y) none ∙ append-nil (take size first) in
        rw (whole, take_all n (take size first) few, drop_of_length-le (take size first) {i = n} few) (subst (P (take size first)) none h)

-- ---- behind an own address

module _ {S : Type 0} (text : S → List ℕ → List ℕ) (first : S) (own : List ℕ) where
  pub behind_short : length own < 3 → (os : List ℕ) → behind_own text own first os ≡ text first []
  unfolding behind_own
  behind_short h os = rw (lt-ltb (length own) 3 h)

  pub behind_whole : 3 ≤ length own → (os : List ℕ) → behind_own text own first os ≡ text first os
  unfolding behind_own
  behind_whole h os = rw (le-ltb (length own) 3 h)

  module _ (from to to' : Option (List ℕ)) where
    pub written_short : length own < 3 → Appends to to' (text first []) → WrittenBehind text first own from to to'
    written_short h w = every from _ (λ os. ((λ l. absurd (omega (arith, l, h))), subst (Appends to to') (sym (behind_short h os)) w))

    pub written_whole : 3 ≤ length own → AllWritten text first from to to' → WrittenBehind text first own from to to'
    written_whole h = go from
      where
        go : (o : Option (List ℕ)) → AllWritten text first o to to' → WrittenBehind text first own o to to'
        go None w = tt
        go (Some xs) w = (λ _. w.0, subst (Appends to to') (sym (behind_whole h xs)) w.1)

    -- the same text by another definition
    pub written_as : {T : Type 0} (text' : T → List ℕ → List ℕ) (first' : T)
        → ((os : List ℕ) → (3 ≤ length own → Octets os) → text' first' os ≡ behind_own text own first os)
        → WrittenBehind text first own from to to' → IfSome from (λ xs. Appends to to' (text' first' xs))
    written_as text' first' other = go from
      where
        go : (o : Option (List ℕ)) → WrittenBehind text first own o to to' → IfSome o (λ xs. Appends to to' (text' first' xs))
        go None w = tt
        go (Some xs) w = subst (Appends to to') (sym (other xs w.0)) w.1
