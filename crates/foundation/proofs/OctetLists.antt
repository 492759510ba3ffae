-- Lists of octets: every element is below 256. Past the end stands 0.
-- Assumes nothing.
use mathlib.Core.List.{List, [], ◌∷◌, ◌++◌}
use Prim.Native.Nat.{ℕ, zero, suc, ◌+◌, ◌<◌}
use lib.Dec.{lit<}
use lib.ListN.{take, drop, get_or, replicate}
use lib.Seq.{get_or-drop}

abbrev pub Octets : List ℕ → Type 0
Octets os = (i : ℕ) → get_or os i 0 < 256

-- each element by itself
abbrev pub Each : List ℕ → Type 0
Each [] = Unit
Each (o ∷ os) = (o < 256) × Each os

pub octets_cons : (o : ℕ) (os : List ℕ) → o < 256 → Octets os → Octets (o ∷ os)
octets_cons o os h t zero = h
octets_cons o os h t (suc i) = t i

pub all-octets : (os : List ℕ) → Each os → Octets os
all-octets [] e i = lit< tt
all-octets (o ∷ os) e i = octets_cons o os e.0 (all-octets os e.1) i

pub octets-append : (f t : List ℕ) → Octets f → Octets t → Octets (f ++ t)
octets-append [] t hf ht = ht
octets-append (o ∷ f) t hf ht = octets_cons o (f ++ t) (hf 0) (octets-append f t (λ i. hf (suc i)) ht)

pub octets-take : (n : ℕ) (os : List ℕ) → Octets os → Octets (take n os)
octets-take zero os h = all-octets [] tt
octets-take (suc n) [] h = all-octets [] tt
octets-take (suc n) (o ∷ os) h = octets_cons o (take n os) (h 0) (octets-take n os (λ i. h (suc i)))

pub octets-drop : (n : ℕ) (os : List ℕ) → Octets os → Octets (drop n os)
octets-drop n os h i = rw (get_or-drop n os i 0) (h (n + i))

pub octets-zeros : (n : ℕ) → Octets (replicate n 0)
octets-zeros zero = all-octets [] tt
octets-zeros (suc n) = octets_cons 0 (replicate n 0) (lit< tt) (octets-zeros n)
