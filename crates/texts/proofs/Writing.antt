-- Text written at a place, one part behind the other and an octet at a time.
-- Assumes nothing.
use mathlib.Core.Path.{◌≡◌, refl, sym, ap, ap₂, subst, ◌∙◌}
use mathlib.Core.Logic.{◌≢◌}
use mathlib.Core.List.{List, [], ◌∷◌, ◌++◌, append-nil, append_assoc}
use Prim.Native.Nat.{ℕ, ◌+◌, ◌-◌, ◌*◌, ◌/◌, ◌%◌, ◌≤◌, ◌<◌}
use native.Mathlib.Nat.{add-zero}
use native.Mathlib.Numerals.{add-one}
use native.Mathlib.Omega.{arith}
use lib.ListN.{length, get_or, take, drop, set, length-append, length-set, take-append-drop}
use lib.Seq.{set_split, take-suc, take_all, take_at, length-take-le}
use lib.Dec.{eqb, leb}
use borrow.Author.Tests.{le-leb, lt-leb, leb-true, leb-false, eqb-true, eqb-false, ne_eqb}
use Rattle.io.specs.Digits.{last_digits, hex_digit_ascii}
use Rattle.foundation.specs.Octets.{over, put}
use Rattle.foundation.proofs.Copying.{Grown, grown, put_fits, put_not, length-put}
use Rattle.foundation.proofs.Tests.{either}
use Rattle.texts.specs.Texts.{hexadecimal, octets_text, parts, end_at, Writes}
use Rattle.texts.specs.Parts.{Wrote}
use Rattle.texts.specs.declared.Writer.{Writer}

-- ---- where a text ends

module _ (d : List ℕ) (at : ℕ) (os : List ℕ) where
  pub end_inside : at + length os ≤ length d → at + length os ≡ end_at d at os
  unfolding end_at
  end_inside h = rw (le-leb (at + length os) (length d) h)

  pub end_outside : length d < at + length os → at ≡ end_at d at os
  unfolding end_at
  end_outside h = rw (lt-leb (at + length os) (length d) h)

  pub end_within : at ≤ length d → end_at d at os ≤ length d
  unfolding end_at
  end_within h = either (leb (at + length os) (length d)) (λ t. rw t (leb-true (at + length os) (length d) t)) (λ t. rw t h)

  -- by the octets that have room
  pub end_of_room : length os ≤ length d - at → at + length os ≡ end_at d at os
  unfolding end_at
  end_of_room h =
      either (leb (at + length os) (length d)) (λ t. rw t) (λ t. rw t (omega (arith, leb-false (at + length os) (length d) t)))

  pub no_room : length d - at < length os → (d ≡ put d at os) × (at ≡ end_at d at os)
  no_room h = (put_not d at os (omega arith), end_outside (omega arith))

-- ---- one part behind the other

put-put : (d a b : List ℕ) (at : ℕ) → at + (length a + length b) ≤ length d → put (put d at a) (at + length a) b ≡ put d at (a ++ b)
unfolding over
put-put d a b at h =
    let p = take at d ++ a in
    let lp : length p ≡ at + length a = length-append (take at d) a ∙ ap (λ (k : ℕ). k + length a) (length-take-le at d (omega arith)) in
    let m = over d at a in
    let first : put d at a ≡ m = put_fits d at a (omega arith) in
    let lm : length m ≡ length d = ap length (sym first) ∙ length-put d at a in
    let lab : length (a ++ b) ≡ length a + length b = length-append a b in
    let lpb : length (p ++ b) ≡ at + length (a ++ b) = length-append p b ∙ omega (arith, lp, lab) in
    let g : Grown p d m = ap (λ (k : ℕ). p ++ drop k d) (sym lp) in
    ap (λ (x : List ℕ). put x (at + length a) b) first
    ∙ grown p b d m (put m (at + length a) b) (at + length a) lp (omega arith) g (put_fits m (at + length a) b (omega arith))
    ∙ ap₂ (λ (x : List ℕ) (k : ℕ). x ++ drop k d) (append_assoc (take at d) a b) lpb
    ∙ sym (put_fits d at (a ++ b) (omega (arith, lab)))

pub wrote : (os : List ℕ) (w w' : Writer) → w.end + length os ≤ length w.text.now → Writes os w w' → Wrote os w w'
wrote os w w' h p = record { same_memory = p.same_memory; text = p.text; end = p.end ∙ sym (end_inside w.text.now w.end os h) }

pub as_writes : (os : List ℕ) (w w' : Writer) → w.end + length os ≤ length w.text.now → Wrote os w w' → Writes os w w'
as_writes os w w' h p = record { same_memory = p.same_memory; text = p.text; end = p.end ∙ end_inside w.text.now w.end os h }

-- nothing is written
pub put-none : (d : List ℕ) (at : ℕ) → d ≡ put d at []
unfolding over
put-none d at =
    either (leb (at + 0) (length d))
    (λ t. sym (put_fits d at [] (leb-true (at + 0) (length d) t) ∙ rw (append-nil (take at d), add-zero at) (take-append-drop at d)))
    (λ t. put_not d at [] (leb-false (at + 0) (length d) t))

pub wrote_none : (w : Writer) → Wrote [] w w
wrote_none w = record { same_memory = refl; text = put-none w.text.now w.end; end = omega arith }

-- what is written in front
pub put_front : (os d m : List ℕ) (r : ℕ) → length os ≤ length d → r ≡ length os → m ≡ put d 0 os → take r m ≡ os
unfolding over
put_front os d m r h e w = ap (take r) (w ∙ put_fits d 0 os (omega arith)) ∙ take_at os (drop (0 + length os) d) r (sym e)

pub wrote_front : (os d : List ℕ) (w w' : Writer) → w.text.now ≡ d → w.end ≡ 0 → Wrote os w w' → (w'.text.now ≡ put d 0 os) × (w'.end ≡ length os)
wrote_front os d w w' e z p = (p.text ∙ ap₂ (λ (x : List ℕ) (k : ℕ). put x k os) e z, omega (arith, p.end, z))

pub writes_front : (os d : List ℕ) (w w' : Writer) → w.text.now ≡ d → w.end ≡ 0 → Writes os w w' → (w'.end ≡ end_at d 0 os) × (w'.text.now ≡ put d 0 os)
writes_front os d w w' e z p =
    (p.end ∙ ap₂ (λ (x : List ℕ) (k : ℕ). end_at x k os) e z, p.text ∙ ap₂ (λ (x : List ℕ) (k : ℕ). put x k os) e z)

pub taken_front : (os : List ℕ) (w w' : Writer) → w.end ≡ 0 → length os ≤ length w.text.now → Wrote os w w' → take w'.end w'.text.now ≡ os
taken_front os w w' z h p = let f = wrote_front os w.text.now w w' refl z p in put_front os w.text.now w'.text.now w'.end h f.1 f.0

-- a part and what is written behind it
pub behind : (a b : List ℕ) (w m w' : Writer) → w.end + (length a + length b) ≤ length w.text.now → Wrote a w m → Wrote b m w' → Wrote (a ++ b) w w'
behind a b w m w' h p q = record {
  same_memory = q.same_memory ∙ p.same_memory;
  text = q.text ∙ ap₂ (λ (x : List ℕ) (k : ℕ). put x k b) p.text p.end ∙ put-put w.text.now a b w.end h;
  end = q.end ∙ omega (arith, p.end, length-append a b);
}

-- parts written one behind the other
pub data Chain : List (List ℕ) → Writer → Writer → Type 0 where
  done : (w : Writer) → Chain [] w w
  more : (p : List ℕ) (ps : List (List ℕ)) (w m w' : Writer) → Writes p w m → Chain ps m w' → Chain (p ∷ ps) w w'

-- the octets of parts
abbrev pub total : List (List ℕ) → ℕ
total [] = 0
total (p ∷ ps) = length p + total ps

pub length-parts : (ps : List (List ℕ)) → length (parts ps) ≡ total ps
unfolding parts
length-parts [] = refl
length-parts (p ∷ ps) = length-append p (parts ps) ∙ omega (arith, length-parts ps)

pub chained : (ps : List (List ℕ)) (w w' : Writer) → w.end + total ps ≤ length w.text.now → Chain ps w w' → Wrote (parts ps) w w'
unfolding parts
chained [] _ _ h (done w) = wrote_none w
chained (p ∷ ps) _ _ h (more _ _ w m w' f c) =
    let first : Wrote p w m = wrote p w m (omega arith) f in
    let size : length m.text.now ≡ length w.text.now = ap length first.text ∙ length-put w.text.now w.end p in
    behind p (parts ps) w m w' (omega (arith, length-parts ps)) first (chained ps m w' (omega (arith, first.end)) c)

-- ---- two digits an octet

pub length_hex : (os : List ℕ) → length (hexadecimal os) ≡ 2 * length os
unfolding hexadecimal
length_hex [] = refl
length_hex (o ∷ os) = omega (arith, length_hex os)

hex_more : (os : List ℕ) (o : ℕ) → hexadecimal (os ++ (o ∷ [])) ≡ hexadecimal os ++ last_digits 16 2 o
unfolding hexadecimal
hex_more [] o = append-nil (last_digits 16 2 o)
hex_more (x ∷ os) o = ap (λ (l : List ℕ). last_digits 16 2 x ++ l) (hex_more os o)

module _ (os : List ℕ) where
  pub octets-none : length os ≡ 0 → 0x2D ∷ [] ≡ octets_text os
  unfolding octets_text
  octets-none e = rw e

  pub octets_some : length os ≢ 0 → hexadecimal os ≡ octets_text os
  unfolding octets_text
  octets_some e = rw (ne_eqb (length os) 0 e)

  pub length-octets : length (octets_text os) ≤ 2 * length os + 1
  length-octets =
      either (eqb (length os) 0) (λ t. omega (arith, ap length (octets-none (eqb-true (length os) 0 t))))
      (λ t. omega (arith, ap length (octets_some (eqb-false (length os) 0 t)), length_hex os))

  -- what is written of them where they have room, and where they have none
  module _ (d : List ℕ) (at : ℕ) (some : length os ≢ 0) where
    pub octets_inside : 2 * length os ≤ length d - at → (m : List ℕ) → m ≡ put d at (hexadecimal os)
        → (m ≡ put d at (octets_text os)) × (at + 2 * length os ≡ end_at d at (octets_text os))
    octets_inside h m e =
        let l : length (octets_text os) ≡ 2 * length os = ap length (sym (octets_some some)) ∙ length_hex os in
        (e ∙ ap (put d at) (octets_some some), omega (arith, end_of_room d at (octets_text os) (omega arith)))

    pub octets_outside : length d - at < 2 * length os → (d ≡ put d at (octets_text os)) × (at ≡ end_at d at (octets_text os))
    octets_outside h =
        let l : length (octets_text os) ≡ 2 * length os = ap length (sym (octets_some some)) ∙ length_hex os in
        no_room d at (octets_text os) (omega arith)

grown_set : (p d m : List ℕ) (x k : ℕ) → length p ≡ k → k < length d → length m ≡ length d → Grown p d m → Grown (p ++ (x ∷ [])) d (set m k x)
unfolding over
grown_set p d m x k e h l g =
    grown p (x ∷ []) d m (set m k x) k e (omega arith) g
    (set_split m k x (omega arith) ∙ ap (λ (j : ℕ). take k m ++ x ∷ drop j m) (sym (add-one k)) ∙ sym (append_assoc (take k m) (x ∷ []) (drop (k + 1) m)))

-- i of the octets are spelled
pub record Spelled (d : List ℕ) (at : ℕ) (os : List ℕ) (i : ℕ) (m : List ℕ) : Type 0 where
  pub part : i ≤ length os
  pub room : length m ≡ length d
  pub is : Grown (take at d ++ hexadecimal (take i os)) d m

module _ (d : List ℕ) (at : ℕ) (os : List ℕ) (h : at + 2 * length os ≤ length d) where
  abbrev before : ℕ → List ℕ
  before i = take at d ++ hexadecimal (take i os)

  length_before : (i : ℕ) → i ≤ length os → length (before i) ≡ at + 2 * i
  length_before i l =
      length-append (take at d) (hexadecimal (take i os))
      ∙ omega (arith, length-take-le at d (omega arith), length_hex (take i os), length-take-le i os l)

  pub spelled_none : Spelled d at os 0 d
  unfolding hexadecimal
  spelled_none =
      let l : at ≡ length (before 0) = omega (arith, length_before 0 (omega arith)) in
      record {
        part = omega arith;
        room = refl;
        is = sym (take-append-drop at d) ∙ ap₂ (λ (p : List ℕ) (k : ℕ). p ++ drop k d) (sym (append-nil (take at d))) l;
      }

  module _ (i : ℕ) (m : List ℕ) (s : Spelled d at os i m) where
    pub spelled_more : (x y : ℕ) → i < length os → x ≡ hex_digit_ascii (get_or os i 0 / 16) → y ≡ hex_digit_ascii (get_or os i 0 % 16) → get_or os i 0 < 256
        → Spelled d at os (i + 1) (set (set m (at + 2 * i) x) (at + 2 * i + 1) y)
    spelled_more x y l ex ey small =
        let p = before i in
        let o = get_or os i 0 in
        let lp : length p ≡ at + 2 * i = length_before i s.part in
        let m1 = set m (at + 2 * i) x in
        let l1 : length m1 ≡ length d = length-set m (at + 2 * i) x ∙ s.room in
        let g1 : Grown (p ++ (x ∷ [])) d m1 = grown_set p d m x (at + 2 * i) lp (omega arith) s.room s.is in
        let lp1 : length (p ++ (x ∷ [])) ≡ at + 2 * i + 1 = length-append p (x ∷ []) ∙ omega (arith, lp) in
        let m2 = set m1 (at + 2 * i + 1) y in
        let g2 : Grown (p ++ (x ∷ []) ++ (y ∷ [])) d m2 = grown_set (p ++ (x ∷ [])) d m1 y (at + 2 * i + 1) lp1 (omega arith) l1 g1 in
        let high : o / 16 ≡ o / 16 % 16 = omega (arith, small) in
        let two : x ∷ y ∷ [] ≡ last_digits 16 2 o = ap₂ (λ (a b : ℕ). a ∷ b ∷ []) (ex ∙ ap hex_digit_ascii high) ey in
        let more : take (i + 1) os ≡ take i os ++ (o ∷ []) = ap (λ (k : ℕ). take k os) (add-one i) ∙ take-suc os i 0 l in
        let spelt : hexadecimal (take (i + 1) os) ≡ hexadecimal (take i os) ++ (x ∷ y ∷ []) =
        ap hexadecimal more ∙ hex_more (take i os) o ∙ ap (λ (z : List ℕ). hexadecimal (take i os) ++ z) (sym two) in
        let all : p ++ (x ∷ []) ++ (y ∷ []) ≡ before (i + 1) =
        append_assoc p (x ∷ []) (y ∷ []) ∙ append_assoc (take at d) (hexadecimal (take i os)) (x ∷ y ∷ [])
        ∙ ap (λ (z : List ℕ). take at d ++ z) (sym spelt) in
        record { part = omega arith; room = length-set m1 (at + 2 * i + 1) y ∙ l1; is = subst (λ (q : List ℕ). Grown q d m2) all g2 }

    pub spelled_all : length os ≤ i → m ≡ put d at (hexadecimal os)
    unfolding over
    spelled_all l =
        let done : i ≡ length os = omega (arith, s.part) in
        let whole : take i os ≡ os = take_all i os (omega arith) in
        let lp : length (before i) ≡ at + length (hexadecimal os) = length_before i s.part ∙ omega (arith, length_hex os) in
        s.is ∙ ap₂ (λ (p : List ℕ) (k : ℕ). p ++ drop k d) (ap (λ (q : List ℕ). take at d ++ hexadecimal q) whole) lp
        ∙ sym (put_fits d at (hexadecimal os) (omega (arith, length_hex os)))
