-- The turns of a program's loop: what it has read and written so far.
-- Assumes nothing.
use mathlib.Core.Path.{◌≡◌, refl, sym, ap, subst, ◌∙◌}
use mathlib.Core.Bool.{Bool, true, false}
use mathlib.Core.List.{List, [], ◌∷◌, ◌++◌, append-nil, append_assoc}
use Prim.Native.Nat.{ℕ, ◌+◌, ◌-◌, ◌%◌, ◌^◌, ◌≤◌}
use native.Mathlib.Nat.{not-suc-le-zero}
use native.Mathlib.Omega.{arith}
use lib.ListN.{length, take, drop, length-append, length-drop, take-append-drop}
use lib.Seq.{length-take-le, take-take}
use Rattle.foundation.proofs.Tests.{never}
use Rattle.foundation.proofs.OctetLists.{Octets, octets-append, octets-zeros}
use Rattle.inputs.specs.Inputs.{ReadBehind, Continues, Prints, ReadAndWritten}
use Rattle.inputs.specs.Parts.{Answers, Underway}
use Rattle.inputs.specs.declared.printing.Printed.{Printed}

pub length_none : (l : List ℕ) → length l ≤ 0 → l ≡ []
length_none [] h = refl
length_none (x ∷ l) h = absurd (not-suc-le-zero h)

module _ {S : Type 0} (text : S → List ℕ → List ℕ) (first : S) where
  unfoldable pub underway_start : Underway text first 0 0 false first []
  underway_start = record { read = []; written = []; octets-read = octets-zeros 0; as_many = refl; so_long = refl; goes_on = λ more e. refl }

  module _ (octets letters : ℕ) (ended : Bool) (now : S) (rest : List ℕ) (u : Underway text first octets letters ended now rest) where
    -- octets are answered
    unfoldable pub underway_answered : (more kept : ℕ) (now' : S) (rest' : List ℕ) → Answers text now rest ended more kept now' rest' → (letters' : ℕ)
        → letters' ≡ (letters + more) % 2 ^ 64 → Underway text first octets letters' ended now' rest'
    underway_answered more kept now' rest' a letters' e = record {
      read = u.read;
      written = u.written ++ a.line;
      octets-read = u.octets-read;
      as_many = u.as_many;
      so_long = omega (arith, u.so_long, a.long, length-append u.written a.line, e);
      goes_on = λ m none. u.goes_on m none ∙ ap (λ (x : List ℕ). u.written ++ x) (a.goes_on m none)
          ∙ sym (append_assoc u.written a.line (text now' (rest' ++ m)));
    }

  -- octets are read
  module _ (octets letters : ℕ) (now : S) (rest : List ℕ) (u : Underway text first octets letters false now rest) where
    unfoldable pub underway_more : (new : List ℕ) → Octets new → (ended : Bool) → (ended ≡ true → new ≡ []) → (octets' : ℕ) → octets' ≡ (octets + length new) % 2 ^ 64
        → Underway text first octets' letters ended now (rest ++ new)
    underway_more new small ended none octets' e = record {
      read = u.read ++ new;
      written = u.written;
      octets-read = octets-append u.read new u.octets-read small;
      as_many = omega (arith, u.as_many, length-append u.read new, e);
      so_long = u.so_long;
      goes_on = λ more _. ap (text first) (append_assoc u.read new more) ∙ u.goes_on (new ++ more) (λ f. never f refl)
          ∙ ap (λ (x : List ℕ). u.written ++ text now x) (sym (append_assoc rest new more));
    }

-- a turn: what is taken is answered, and the others are kept
unfoldable pub turn : {S : Type 0} (text : S → List ℕ → List ℕ) (s s' : S) (os : List ℕ) (last : Bool) (r : Printed) (lent : List ℕ) (kept : ℕ) (rest : List ℕ)
    → Prints text s os last r s' lent → kept ≡ length os - r.taken → rest ≡ drop r.taken os → Answers text s os last r.end kept s' rest
turn text s s' os last r lent kept rest p ek er = record {
  line = take r.end lent;
  long = length-take-le r.end lent p.ends;
  goes_on = subst (Continues text s os last (take r.end lent) s') (sym er) p.goes_on;
  fewer = omega (arith, ek);
  none_left = λ t e. p.takes_last t (omega (arith, ek, e, p.takes));
}

-- what there is after a reading: what there was, and the new octets behind it
module _ (input : List ℕ) (size : ℕ) (read : ℕ) (input' : List ℕ) (b : ReadBehind input size read input') (inside : size ≤ length input)
    (room : length input' ≡ length input) where
  abbrev pub new : List ℕ
  new = drop size (take read input')

  pub length_new : length new ≡ read - size
  length_new = length-drop size (take read input') ∙ ap (λ (n : ℕ). n - size) (length-take-le read input' (omega (arith, b.inside inside, room)))

  pub behind_rest : take size input ++ new ≡ take read input'
  behind_rest =
      ap (λ (x : List ℕ). x ++ new) (sym b.kept ∙ sym (take-take size read input' b.behind)) ∙ take-append-drop size (take read input')

-- nothing is kept, and nothing follows: the text at the end
pub underway_over : {S : Type 0} (text : S → List ℕ → List ℕ) (first : S) (octets letters : ℕ) (ended : Bool) (now : S) (input : List ℕ) (kept : ℕ)
    → Underway text first octets letters ended now (take kept input) → ended ≡ true → kept ≡ 0 → (letters' : ℕ)
    → letters' ≡ (letters + length (text now [])) % 2 ^ 64 → ReadAndWritten text first octets letters'
underway_over text first octets letters ended now input kept u e z letters' el = record {
  read = u.read;
  written = u.written ++ text now [];
  octets-read = u.octets-read;
  as_many = u.as_many;
  so_long = omega (arith, u.so_long, length-append u.written (text now []), el);
  whole = ap (text first) (sym (append-nil u.read)) ∙ u.goes_on [] (λ _. refl)
      ∙ ap (λ (x : List ℕ). u.written ++ text now x) (append-nil (take kept input) ∙ ap (λ (n : ℕ). take n input) z);
}

-- the same text by another definition
pub as_text : {S T : Type 0} (text : S → List ℕ → List ℕ) (first : S) (text' : T → List ℕ → List ℕ) (first' : T) (octets letters : ℕ)
    → ((os : List ℕ) → Octets os → text' first' os ≡ text first os) → ReadAndWritten text first octets letters → ReadAndWritten text' first' octets letters
as_text text first text' first' octets letters e w = record {
  read = w.read;
  written = w.written;
  octets-read = w.octets-read;
  as_many = w.as_many;
  so_long = w.so_long;
  whole = e w.read w.octets-read ∙ w.whole;
}
