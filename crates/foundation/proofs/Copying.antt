-- Octets written over a list, one at a time and one part behind the other.
-- Assumes nothing.
use mathlib.Core.Path.{◌≡◌, refl, sym, ap, ap₂, ◌∙◌}
use mathlib.Core.List.{List, [], ◌++◌, append-nil, append_assoc}
use Prim.Native.Nat.{ℕ, ◌+◌, ◌-◌, ◌≤◌, ◌<◌, min}
use native.Mathlib.Decide.{dec_lt}
use native.Mathlib.Numerals.{add-one}
use native.Mathlib.Omega.{arith}
use lib.Dec.{leb}
use lib.ListN.{length, get_or, take, drop, set, length-append, length-take, length-drop, drop_of_length-le, take-append-drop}
use lib.Seq.{paste, paste-zero, paste-suc, length-paste, take_all, take-length, take_at, drop-drop, drop-append-add}
use borrow.Author.Tests.{le-leb, lt-leb, leb-true, leb-false}
use Rattle.foundation.specs.Octets.{over, put}
use Rattle.foundation.proofs.Tests.{either}

-- no more octets than there are
pub take_shorter : (n : ℕ) (os : List ℕ) → take (min n (length os)) os ≡ take n os
take_shorter n os = go (dec_lt n (length os))
  where
    go : Dec (n < length os) → take (min n (length os)) os ≡ take n os
    go (yes h) = let e : min n (length os) ≡ n = omega arith in ap (λ (k : ℕ). take k os) e
    go (no h) =
        let e : min n (length os) ≡ length os = omega arith in
        ap (λ (k : ℕ). take k os) e ∙ take-length os ∙ sym (take_all n os (omega arith))

-- m is d with the first i of the octets s written at a place
pub record Copied (d : List ℕ) (at : ℕ) (s : List ℕ) (i : ℕ) (m : List ℕ) : Type 0 where
  pub part : i ≤ length s
  pub is : m ≡ paste d at s i

module _ (d : List ℕ) (at : ℕ) (s : List ℕ) where
  pub copied_start : Copied d at s 0 d
  copied_start = record { part = omega arith; is = paste-zero d at s }

  module _ (i : ℕ) (m : List ℕ) (room : at + length s ≤ length d) (k : Copied d at s i m) where
    pub copied_length : length m ≡ length d
    copied_length = let p = k.part in ap length k.is ∙ length-paste d at s i (omega arith) p

    pub copied_more : (x : ℕ) → i < length s → x ≡ get_or s i 0 → Copied d at s (i + 1) (set m (at + i) x)
    copied_more x h e = record {
      part = omega arith;
      is = rw (k.is, e, add-one) (paste-suc d at s i 0 (omega arith) h);
    }

    pub copied_done : length s ≤ i → m ≡ over d at s
    unfolding over
    copied_done h =
        let p = k.part in
        let done : i ≡ length s = omega arith in
        k.is ∙ rw (done, take_all (length s) s (omega arith))

-- what has been written so far, before the rest of the old octets
abbrev pub Grown : List ℕ → List ℕ → List ℕ → Type 0
Grown p d m = m ≡ p ++ drop (length p) d

-- a part that stands behind what was written already
pub grown_kept : (p s d m : List ℕ) → take (length s) (drop (length p) d) ≡ s → Grown p d m → Grown (p ++ s) d m
grown_kept p s d m e g =
    g ∙ ap (λ (l : List ℕ). p ++ l) (sym (take-append-drop (length s) (drop (length p) d)) ∙ ap₂ (λ (x y : List ℕ). x ++ y) e (drop-drop (length s) (length p) d))
    ∙ sym (append_assoc p s (drop (length p + length s) d)) ∙ ap (λ (n : ℕ). p ++ s ++ drop n d) (sym (length-append p s))

-- a part behind it
pub grown : (p s d m m' : List ℕ) (at : ℕ) → length p ≡ at → at + length s ≤ length d → Grown p d m → m' ≡ over m at s → Grown (p ++ s) d m'
unfolding over
grown p s d m m' at e h g o =
    o
    ∙ rw (
      g,
      ← e,
      take_at p (drop (length p) d) (length p) refl,
      drop-append-add p (drop (length p) d) (length s),
      drop-drop (length s) (length p) d,
      length-append p s,
    )

-- ---- octets put where they fit

module _ (d : List ℕ) (at : ℕ) (s : List ℕ) where
  pub put_fits : at + length s ≤ length d → put d at s ≡ over d at s
  unfolding put
  put_fits h = rw (le-leb (at + length s) (length d) h)

  pub put_not : length d < at + length s → d ≡ put d at s
  unfolding put
  put_not h = rw (lt-leb (at + length s) (length d) h)

  -- written to the part from the place on
  pub part-over : at + length s ≤ length d
      → take at d ++ ((take (length s) s ++ drop (length s) (take (length d - at) (drop at d))) ++ drop (length d - at) (drop at d)) ≡ over d at s
  unfolding over
  part-over h =
      let all : length (drop at d) ≤ length d - at = omega (arith, length-drop at d) in
      rw (
        take_all (length s) s (omega arith),
        take_all (length d - at) (drop at d) all,
        drop_of_length-le (drop at d) {i = length d - at} all,
        append-nil (s ++ drop (length s) (drop at d)),
        drop-drop (length s) at d,
      ) (sym (append_assoc (take at d) s (drop (at + length s) d)))

  length_over : at + length s ≤ length d → length (over d at s) ≡ length d
  unfolding over
  length_over h = simp (length-append, length-take, length-drop) (omega arith)

  pub length-put : length (put d at s) ≡ length d
  length-put =
      either (leb (at + length s) (length d))
      (λ t. let h = leb-true (at + length s) (length d) t in ap length (put_fits h) ∙ length_over h)
      (λ t. ap length (sym (put_not (leb-false (at + length s) (length d) t))))

-- ---- parts put one behind the other

module _ (d : List ℕ) where
  pub grown_none : Grown [] d d
  grown_none = refl

  grown_length : (p m : List ℕ) → length p ≤ length d → Grown p d m → length m ≡ length d
  grown_length p m h g = ap length g ∙ length-append p (drop (length p) d) ∙ omega (arith, length-drop (length p) d)

  pub grown_put : (p s m : List ℕ) (at : ℕ) → length p ≡ at → at + length s ≤ length d → Grown p d m → Grown (p ++ s) d (put m at s)
  grown_put p s m at e h g =
      let l = grown_length p m (omega arith) g in
      grown p s d m (put m at s) at e h g (put_fits m at s (omega arith))

  pub grown_all : (p m : List ℕ) → length p ≡ length d → Grown p d m → m ≡ p
  grown_all p m e g = g ∙ rw (drop_of_length-le d {i = length p} (omega arith)) (append-nil p)

  -- all of it, in one part and in two
  pub put_all : (s : List ℕ) → length s ≡ length d → put d 0 s ≡ s
  put_all s e = grown_all s (put d 0 s) e (grown_put [] s d 0 refl (omega arith) grown_none)

  pub put_both : (s t : List ℕ) (at : ℕ) → length s ≡ at → at + length t ≡ length d → put (put d 0 s) at t ≡ s ++ t
  put_both s t at e f =
      grown_all (s ++ t) (put (put d 0 s) at t) (length-append s t ∙ omega arith)
      (grown_put s t (put d 0 s) at e (omega arith) (grown_put [] s d 0 refl (omega arith) grown_none))
